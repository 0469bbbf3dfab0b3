use Rattle.ta_scope.proofs.Common.{arith, ap, length, List, read_same, Rule}
use Rattle.ta_scope.proofs.Stepping.{stepped_none, stepped_more, stepped_all}
use Rattle.ta_scope.proofs.path.stepped.Goals as goal

pub loop-number-init : goal.loop-number-init
loop-number-init c = record { stepped = stepped_none c.args.automaton.now c.args.rules.now c.args.mask; grows = omega arith }

pub loop-number-preserved : goal.loop-number-preserved
loop-number-preserved c =
    let a = c.args.automaton.now in
    let named = read_same a.rules c.as_slice-rule-items.result.now c.loop-number.number c.rule-item.result c.as_slice-rule-items.ensures c.loop-number-test.true
    c.rule-item.is in
    record {
      stepped = stepped_more a c.args.rules.now c.args.mask c.loop-number.number c.loop-number.more c.with_target-more.result c.rule-item.result named
          c.loop-number.invariant.stepped c.with_target-more.ensures.grown;
      grows = omega (arith, c.loop-number.invariant.grows, c.with_target-more.ensures.grows);
    }

pub returns-clause-stepped : goal.returns-clause-stepped
returns-clause-stepped c =
    let a = c.args.automaton.now in
    let same = ap (λ (xs : List Rule). length xs) c.as_slice-rule-items.ensures in
    stepped_all a c.args.rules.now c.args.mask c.loop-number.number c.loop-number.more (omega arith) c.loop-number.invariant.stepped

pub returns-clause-grows : goal.returns-clause-grows
returns-clause-grows c = c.loop-number.invariant.grows
