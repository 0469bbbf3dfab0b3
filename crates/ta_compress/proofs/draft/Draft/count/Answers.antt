use Rattle.ta_compress.proofs.Common.{refl, sym, ◌∙◌, false≢true}
use Rattle.ta_compress.proofs.Counted.{goes_on, falls, rises, one_more_counts}
use Rattle.ta_compress.proofs.draft.Draft.count.Goals as goal

pub returns-then-is_same-clause-counts : goal.returns-then-is_same-clause-counts
returns-then-is_same-clause-counts c = one_more_counts c.args.scoped.now.file.automaton c.args.rule c.args.self.now.counts.items _ c.requires.counts
    c.count_one.ensures

pub returns-then-is_same-clause-counted : goal.returns-then-is_same-clause-counted
returns-then-is_same-clause-counted c = λ f g at there.
    goes_on c.args.scoped.now.file.automaton c.args.rule f g c.args.self.now _ c.args.guards at there (c.is_same.ensures.0 c.if-is_same.true)
    c.count_one.ensures refl

pub returns-then-has_fallen-clause-counted : goal.returns-then-has_fallen-clause-counted
returns-then-has_fallen-clause-counted c = λ f g at there.
    falls c.args.scoped.now.file.automaton c.args.rule f g c.args.self.now _ c.close.new.self _ c.args.guards at there
    (c.has_fallen.ensures.0 c.if-has_fallen.true) c.in_ok-close.ensures.closes refl refl c.in_ok-push.ensures.items

pub close-requires-2 : goal.close-requires-2
close-requires-2 c = one_more_counts c.args.scoped.now.file.automaton c.args.rule c.args.self.now.counts.items _ c.requires.counts c.count_one-2.ensures

pub returns-clause-counted : goal.returns-clause-counted
returns-clause-counted c = λ f g at there.
    rises c.args.scoped.now.file.automaton c.args.rule f g c.args.self.now _ c.close-2.new.self c.args.guards at there
    (λ same. false≢true (sym c.if-is_same.false ∙ c.is_same.ensures.1 same))
    (λ fallen. false≢true (sym c.if-has_fallen.false ∙ c.has_fallen.ensures.1 fallen)) c.count_one-2.ensures c.in_ok-close-2.ensures.closes refl
