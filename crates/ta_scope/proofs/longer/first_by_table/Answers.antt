use Rattle.ta_scope.proofs.Common.{ap, refl, length, arith, List, ℕ, false≢true, slice_get_within, read_same, Rule, OnLongerCycle}
use Rattle.ta_scope.proofs.LongerCycles.{loops_alone, longer_exactly}
use Rattle.ta_scope.proofs.longer.first_by_table.Goals as goal
use Rattle.ta_base.proofs.Lists.{one_passed}

pub returns-then-is_on_longer_cycle-clause-some : goal.returns-then-is_on_longer_cycle-clause-some
returns-then-is_on_longer_cycle-clause-some c =
    let a = c.args.automaton.now in
    let named = read_same a.rules c.as_slice-rule-items.result.now c.loop-number.number c.rule-item.result c.as_slice-rule-items.ensures c.loop-number-test.true
    c.rule-item.is in
    record {
      rule = c.rule-item.result;
      named = named;
      cycle = (longer_exactly a c.args.table.now c.loop-number.number c.rule-item.result c.requires named).0 (c.if-is_on_longer_cycle.ensures.0 refl);
      first = c.loop-number.invariant;
    }

pub loop-number-preserved : goal.loop-number-preserved
loop-number-preserved c =
    let a = c.args.automaton.now in
    let named = read_same a.rules c.as_slice-rule-items.result.now c.loop-number.number c.rule-item.result c.as_slice-rule-items.ensures c.loop-number-test.true
    c.rule-item.is in
    one_passed (λ (r : ℕ) (rule : Rule). ¬ OnLongerCycle a rule) a.rules c.loop-number.number c.rule-item.result named
    (λ cycle. false≢true (c.if-is_on_longer_cycle.ensures.1
    ((longer_exactly a c.args.table.now c.loop-number.number c.rule-item.result c.requires named).1 cycle)))
    c.loop-number.invariant

pub returns-clause-none : goal.returns-clause-none
returns-clause-none c =
    let a = c.args.automaton.now in
    loops_alone a (λ r rule named.
    let same = ap (λ (xs : List Rule). length xs) c.as_slice-rule-items.ensures in
    let within = slice_get_within a.rules r rule named in
    c.loop-number.invariant r rule (omega arith) named)
