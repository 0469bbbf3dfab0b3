use Rattle.ta_smt.proofs.Common.{refl, sym, ◌∙◌, arith, false≢true, read_same}
use Rattle.ta_smt.proofs.WordsNamed.{none_at_all, none_more}
use Rattle.ta_smt.proofs.named.pattern_named.Goals as goal

pub returns-then-is_named : goal.returns-then-is_named
returns-then-is_named c =
    let ps = c.args.patterns.now in
    let item = c.index-patterns-i.result in
    (item, record { at = read_same ps ps c.loop-i.i item refl c.loop-i-test.true c.index-patterns-i.is; named = c.is_named.ensures.0 c.if-is_named.true })

pub loop-i-preserved : goal.loop-i-preserved
loop-i-preserved c =
    let ps = c.args.patterns.now in
    let item = c.index-patterns-i.result in
    none_more ps c.args.name.now c.loop-i.i item (read_same ps ps c.loop-i.i item refl c.loop-i-test.true c.index-patterns-i.is)
    (λ e. false≢true (sym c.if-is_named.false ∙ c.is_named.ensures.1 e)) c.loop-i.invariant

pub returns : goal.returns
returns c = none_at_all c.args.patterns.now c.args.name.now c.loop-i.i (omega arith) c.loop-i.invariant
