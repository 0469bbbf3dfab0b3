use Rattle.ta_scope.proofs.Common.{arith, sym, ◌∙◌, false≢true}
use Rattle.ta_scope.proofs.Stepping.{layer_first, layer_next, layer_done, layer_stuck}
use Rattle.ta_scope.proofs.path.distance.Goals as goal

pub loop-more-init : goal.loop-more-init
loop-more-init c =
    let a = c.args.automaton.now in
    let limit = a.shape.limits.locations_limit in
    layer_first a c.args.rules.now c.args.from c.args.to (let b = c.requires.from_exists in omega arith)

pub returns-then-more-reached-clause-none : goal.returns-then-more-reached-clause-none
returns-then-more-reached-clause-none c =
    layer_stuck c.args.automaton.now c.args.rules.now c.args.from c.args.to c.loop-more.count c.loop-more.reached c.stepped-more.result c.loop-more.invariant
    (λ b. false≢true (sym c.loop-more-test.true ∙ c.contains.ensures.tells.1 b)) c.stepped-more.ensures.stepped c.if-more-reached.true

pub overflow_add-count : goal.overflow_add-count
overflow_add-count c = let differ = c.if-more-reached.false in let grows = c.stepped-more.ensures.grows in let below = c.loop-more.invariant.below in omega
    arith

pub loop-more-smaller : goal.loop-more-smaller
loop-more-smaller c = let differ = c.if-more-reached.false in let grows = c.stepped-more.ensures.grows in omega arith

pub loop-more-preserved : goal.loop-more-preserved
loop-more-preserved c =
    layer_next c.args.automaton.now c.args.rules.now c.args.from c.args.to c.loop-more.count c.loop-more.reached c.stepped-more.result c.loop-more.invariant
    (λ b. false≢true (sym c.loop-more-test.true ∙ c.contains.ensures.tells.1 b)) c.stepped-more.ensures.stepped
    (let differ = c.if-more-reached.false in let grows = c.stepped-more.ensures.grows in omega arith)

pub returns-clause-some : goal.returns-clause-some
returns-clause-some c =
    layer_done c.args.automaton.now c.args.rules.now c.args.from c.args.to c.loop-more.count c.loop-more.reached c.loop-more.invariant
    (c.contains.ensures.tells.0 c.loop-more-test.false)
