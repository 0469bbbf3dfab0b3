use Rattle.ta_scope.proofs.Common.{ap, length, arith, List, ℕ, IsBitSet, slice_get_within, read_same, Rule, OnCycle}
use Rattle.ta_scope.proofs.circulation.first_cycle.Goals as goal
use Rattle.ta_base.proofs.Lists.{one_passed}

pub returns-in-Some-clause-some : goal.returns-in-Some-clause-some
returns-in-Some-clause-some c =
    let a = c.args.automaton.now in
    let named = read_same a.rules c.as_slice-rule-items.result.now c.loop-number.number c.rule-item.result c.as_slice-rule-items.ensures c.loop-number-test.true
    c.rule-item.is in
    let cycle = rw c.in-Some.is at c.in_ok-cycle.ensures.some in
    record {
      number = c.loop-number.number;
      back = cycle.back;
      is = cycle.is;
      least = record {
        rule = c.rule-item.result;
        named = named;
        member = cycle.member;
        path = cycle.path;
        least = λ q other less at member. c.loop-number.invariant q other less at member;
      };
    }

pub loop-number-preserved : goal.loop-number-preserved
loop-number-preserved c =
    let a = c.args.automaton.now in
    let named = read_same a.rules c.as_slice-rule-items.result.now c.loop-number.number c.rule-item.result c.as_slice-rule-items.ensures c.loop-number-test.true
    c.rule-item.is in
    let none = rw c.in_default.is at c.in_ok-cycle.ensures.none in
    one_passed (λ (r : ℕ) (rule : Rule). IsBitSet c.args.rules.now r → ¬ OnCycle a c.args.rules.now rule) a.rules c.loop-number.number c.rule-item.result named
    none
    c.loop-number.invariant

pub returns-clause-none : goal.returns-clause-none
returns-clause-none c = λ r rule named.
    let a = c.args.automaton.now in
    let same = ap (λ (xs : List Rule). length xs) c.as_slice-rule-items.ensures in
    let within = slice_get_within a.rules r rule named in
    c.loop-number.invariant r rule (omega arith) named
