use Rattle.ta_scope.proofs.Common.{ap, refl, length, arith, List, ℕ, false≢true, slice_get_within, read_same, Rule, AtFault}
use Rattle.ta_scope.proofs.Judging.{in_scope, fault_out, fault_exactly}
use Rattle.ta_scope.proofs.judge.first_at_fault.Goals as goal
use Rattle.ta_base.proofs.Lists.{one_passed}

pub returns-then-is_at_fault-clause-fault : goal.returns-then-is_at_fault-clause-fault
returns-then-is_at_fault-clause-fault c =
    let a = c.args.automaton.now in
    let named = read_same a.rules c.as_slice-rule-items.result.now c.loop-number.number c.rule-item.result c.as_slice-rule-items.ensures c.loop-number-test.true
    c.rule-item.is in
    record {
      rule = c.rule-item.result;
      named = named;
      at_fault = (fault_exactly a c.args.table.now c.loop-number.number c.rule-item.result c.requires named).0 (c.if-is_at_fault.ensures.0 refl);
      first = c.loop-number.invariant;
    }

pub returns-then-is_at_fault-clause-out_of_scope : goal.returns-then-is_at_fault-clause-out_of_scope
returns-then-is_at_fault-clause-out_of_scope c =
    let a = c.args.automaton.now in
    let named = read_same a.rules c.as_slice-rule-items.result.now c.loop-number.number c.rule-item.result c.as_slice-rule-items.ensures c.loop-number-test.true
    c.rule-item.is in
    fault_out a c.loop-number.number c.rule-item.result named
    ((fault_exactly a c.args.table.now c.loop-number.number c.rule-item.result c.requires named).0 (c.if-is_at_fault.ensures.0 refl))

pub loop-number-preserved : goal.loop-number-preserved
loop-number-preserved c =
    let a = c.args.automaton.now in
    let named = read_same a.rules c.as_slice-rule-items.result.now c.loop-number.number c.rule-item.result c.as_slice-rule-items.ensures c.loop-number-test.true
    c.rule-item.is in
    one_passed (λ (r : ℕ) (rule : Rule). ¬ AtFault a rule) a.rules c.loop-number.number c.rule-item.result named
    (λ fault. false≢true (c.if-is_at_fault.ensures.1 ((fault_exactly a c.args.table.now c.loop-number.number c.rule-item.result c.requires named).1 fault)))
    c.loop-number.invariant

pub returns-clause-ok : goal.returns-clause-ok
returns-clause-ok c =
    let a = c.args.automaton.now in
    in_scope a (λ r rule named.
    let same = ap (λ (xs : List Rule). length xs) c.as_slice-rule-items.ensures in
    let within = slice_get_within a.rules r rule named in
    c.loop-number.invariant r rule (omega arith) named)
