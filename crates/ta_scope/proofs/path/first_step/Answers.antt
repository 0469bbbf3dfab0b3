use Rattle.ta_scope.proofs.Common.{ap, refl, length, arith, List, ℕ, false≢true, slice_get_within, read_same, Rule, IsStep}
use Rattle.ta_scope.proofs.Stepping.{no_step}
use Rattle.ta_scope.proofs.path.first_step.Goals as goal
use Rattle.ta_base.proofs.Lists.{one_passed}

pub returns-then-is_step : goal.returns-then-is_step
returns-then-is_step c =
    let a = c.args.automaton.now in
    let named = read_same a.rules c.as_slice-rule-items.result.now c.loop-number.number c.rule-item.result c.as_slice-rule-items.ensures c.loop-number-test.true
    c.rule-item.is in
    record { rule = c.rule-item.result; named = named; step = c.if-is_step.ensures.0 refl; first = c.loop-number.invariant }

pub loop-number-preserved : goal.loop-number-preserved
loop-number-preserved c =
    let a = c.args.automaton.now in
    let named = read_same a.rules c.as_slice-rule-items.result.now c.loop-number.number c.rule-item.result c.as_slice-rule-items.ensures c.loop-number-test.true
    c.rule-item.is in
    one_passed (λ (r : ℕ) (rule : Rule). ¬ IsStep a c.args.rules.now c.args.from c.args.to c.args.left r rule) a.rules c.loop-number.number c.rule-item.result
    named
    (λ step. false≢true (c.if-is_step.ensures.1 step)) c.loop-number.invariant

pub unreachable-requires : goal.unreachable-requires
unreachable-requires c =
    let a = c.args.automaton.now in
    no_step a c.args.rules.now c.args.from c.args.to c.args.left c.requires.distance (λ r rule named.
    let same = ap (λ (xs : List Rule). length xs) c.as_slice-rule-items.ensures in
    let within = slice_get_within a.rules r rule named in
    c.loop-number.invariant r rule (omega arith) named)
