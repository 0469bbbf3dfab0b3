use Rattle.ta_verdict.proofs.Common.{◌∙◌, ap, false, is_lazy, sym, true, tree_under, VerdictHolds}
use Rattle.ta_verdict.proofs.DraftsMade.{Drafted, adds_tree, drafted_within, wanted_same}
use Rattle.ta_verdict.proofs.judging.next_verdict.Given.{Over}
use Rattle.ta_verdict.proofs.judging.next_verdict.Goals.{After-is_safe, in-Words+in_ok-verdict-in-Words, in-Moments+in_ok-verdict-in-Moments}
use Rattle.ta_verdict.proofs.judging.next_verdict.Goals as goal

-- what the verdict by either trees says
said : (g : Over) (c : After-is_safe g) → Drafted (VerdictHolds c.args.scoped.now.file c.args.budget) (tree_under c.args.scoped.now.file c.args.budget)
    c.args.scoped.now.file c.args.pattern c.match-trees.verdict c.in_ok-proof.proof c.match-trees.proof
said g c =
    let file = c.args.scoped.now.file in
    elim c.match-trees.branch [
      | in-Words+in_ok-verdict-in-Words w ↦
          let made = w.in_ok-verdict-in-Words.ensures in
          rw (w.verdict-is, w.proof-is)
          (drafted_within file c.args.budget c.args.pattern w.in_ok-verdict-in-Words.verdict c.in_ok-proof.proof w.words_verdict.new.draft false
          (sym (ap is_lazy w.in-Words.is) ∙ c.requires.lazy) (record { holds = made.holds; fits = made.fits; drafted = made.drafted }))
      | in-Moments+in_ok-verdict-in-Moments w ↦
          let made = w.in_ok-verdict-in-Moments.ensures in
          rw (w.verdict-is, w.proof-is)
          (drafted_within file c.args.budget c.args.pattern w.in_ok-verdict-in-Moments.verdict c.in_ok-proof.proof w.moments_verdict.new.draft true
          (sym (ap is_lazy w.in-Moments.is) ∙ c.requires.lazy) (record { holds = made.holds; fits = made.fits; drafted = made.drafted }))
    ]

pub add-requires : goal.add-requires
add-requires g c =
    wanted_same c.args.scoped.now.file (tree_under c.args.scoped.now.file c.args.budget) c.args.pattern c.match-trees.verdict c.in_ok-proof.proof
    c.match-trees.proof c.requires.exists (sym c.is_safe.ensures ∙ c.if-not-is_safe.false) (said g (goal.at.add-requires g c).After-is_safe).drafted
    ∙ c.in_ok-proof.ensures.wanted ∙ c.wanted.ensures

pub returns-clause-adds : goal.returns-clause-adds
returns-clause-adds g c = λ begun p at.
    adds_tree (tree_under c.args.scoped.now.file c.args.budget) c.args.pattern p c.match-trees.verdict
    (g.T.Target.has begun c.args.target.now c.args.place.now) (g.T.Target.has begun c.add.new.self c.add.new.place) c.in_ok-proof.proof c.match-trees.proof
    (sym c.is_safe.ensures ∙ c.if-not-is_safe.false) ((said g (goal.at.returns-clause-adds g c).After-is_safe).drafted p at) c.in_ok-proof.ensures.text
    (c.in_ok-add.ensures.added begun)

pub returns-then-not-is_safe-clause-holds : goal.returns-then-not-is_safe-clause-holds
returns-then-not-is_safe-clause-holds g c = (said g (goal.at.returns-then-not-is_safe-clause-holds g c).After-is_safe).holds

pub returns-clause-holds : goal.returns-clause-holds
returns-clause-holds g c = (said g (goal.at.returns-clause-holds g c).After-is_safe).holds

pub words_verdict-requires-clause-narrow : goal.words_verdict-requires-clause-narrow
words_verdict-requires-clause-narrow g c = λ given lives. c.requires.narrow (sym c.requires.lazy ∙ ap is_lazy c.in-Words.is)
