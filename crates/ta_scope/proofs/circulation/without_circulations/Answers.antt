use Rattle.ta_scope.proofs.Common.{◌≡◌, ◌≤ℤ◌, pos, ◌++◌, ◌∷◌, [], List, ℤ, arith, sym, ap, ◌∙◌, subst, length, take, drop, ◌<◌, take_at, IsLeastCycle}
use Rattle.ta_scope.proofs.Common.{AreRuleCounts, Support, LeastCount, SubtractsFrom, TakenOut, AllTakenOut, count_at}
use Rattle.ta_scope.proofs.Taken.{sum_of, taken_more}
use Rattle.ta_scope.proofs.Circulations.{taken_counts, taken_less, least_within, least_distinct, least_taken, no_cycle_same}
use Rattle.ta_scope.proofs.circulation.without_circulations.Goals as goal

pub loop-rest-init : goal.loop-rest-init
loop-rest-init c =
    let same : c.extend_from_slice.new.self.items ≡ c.args.counts.now = c.in_ok-extend_from_slice.ensures.items
    ∙ ap (λ (xs : List ℤ). xs ++ c.args.counts.now) c.new-rest.ensures.items in
    record { later = []; taken_out = sym same; left = subst (AreRuleCounts c.args.automaton.now) (sym same) c.requires }

pub support_of-requires : goal.support_of-requires
support_of-requires c =
    let limit = c.args.automaton.now.shape.limits.rules_limit in
    let same = c.loop-rest.invariant.left.each_rule in
    let value = ap (λ (xs : List ℤ). length xs) c.as_slice.ensures.value in
    omega arith

pub take_out-requires-clause-within : goal.take_out-requires-clause-within
take_out-requires-clause-within c =
    let cycle = rw c.in-Some.is at c.in_ok-cycle.ensures.some in
    let same = c.loop-rest.invariant.left.each_rule in
    let value = ap (λ (xs : List ℤ). length xs) c.as_mut_slice.ensures.value in
    least_within c.args.automaton.now c.support_of.result _ (length c.as_mut_slice.result.now) (omega arith)
    (subst (IsLeastCycle c.args.automaton.now c.support_of.result) (sym c.as_slice-in-Some.ensures.value) cycle)

pub take_out-requires-clause-distinct : goal.take_out-requires-clause-distinct
take_out-requires-clause-distinct c =
    let cycle = rw c.in-Some.is at c.in_ok-cycle.ensures.some in
    least_distinct c.args.automaton.now c.support_of.result _
    (subst (IsLeastCycle c.args.automaton.now c.support_of.result) (sym c.as_slice-in-Some.ensures.value) cycle)

pub take_out-requires-clause-natural : goal.take_out-requires-clause-natural
take_out-requires-clause-natural c = λ r. subst (λ (xs : List ℤ). pos 0 ≤ℤ count_at xs r) (sym c.as_mut_slice.ensures.value)
    (c.loop-rest.invariant.left.natural r)

-- a circulation is taken out
taken : (c : goal.After-drop-cycle) → TakenOut c.args.automaton.now c.loop-rest.rest.items c.take_out.new.counts
taken c =
    let a = c.args.automaton.now in
    let support : Support c.loop-rest.rest.items c.support_of.result = subst (λ (xs : List ℤ). Support xs c.support_of.result) c.as_slice.ensures.value
    c.support_of.ensures in
    let cycle = subst (IsLeastCycle a c.support_of.result) (sym c.as_slice-in-Some.ensures.value) (rw c.in-Some.is at c.in_ok-cycle.ensures.some) in
    least_taken a c.loop-rest.rest.items c.take_out.new.counts c.support_of.result c.as_slice-in-Some.result.now support cycle
    (subst (λ (xs : List ℤ). (amount : ℤ) × LeastCount xs c.as_slice-in-Some.result.now amount
    × SubtractsFrom c.as_slice-in-Some.result.now amount xs c.take_out.new.counts) c.as_mut_slice.ensures.value c.take_out.ensures)

written : (c : goal.After-drop-cycle) → take c.loop-rest.rest.len (c.take_out.new.counts ++ drop (length c.take_out.new.counts) c.loop-rest.rest.items) ≡
    c.take_out.new.counts
written c =
    let t = taken c in
    let long = t.subtracted.each_rule in
    let same = ap (λ (xs : List ℤ). length xs) c.as_mut_slice.ensures.value in
    let len = c.as_mut_slice.ensures.len in
    take_at c.take_out.new.counts (drop (length c.take_out.new.counts) c.loop-rest.rest.items) c.loop-rest.rest.len (omega arith)

pub loop-rest-smaller : goal.loop-rest-smaller
loop-rest-smaller c =
    subst (λ (xs : List ℤ). sum_of xs < sum_of c.loop-rest.rest.items) (sym (written c))
    (taken_less c.args.automaton.now c.loop-rest.rest.items c.take_out.new.counts c.loop-rest.invariant.left (taken c))

pub loop-rest-preserved : goal.loop-rest-preserved
loop-rest-preserved c =
    let a = c.args.automaton.now in
    let later = c.loop-rest.invariant.later ++ c.take_out.new.counts ∷ [] in
    record {
      later = later;
      taken_out = subst (λ (xs : List ℤ). AllTakenOut a c.args.counts.now later xs) (sym (written c))
          (taken_more a c.args.counts.now c.loop-rest.invariant.later c.loop-rest.rest.items c.take_out.new.counts c.loop-rest.invariant.taken_out (taken c));
      left = subst (AreRuleCounts a) (sym (written c)) (taken_counts a c.loop-rest.rest.items c.take_out.new.counts c.loop-rest.invariant.left (taken c));
    }

pub returns : goal.returns
returns c =
    let none = rw c.in_default.is at c.in_ok-cycle.ensures.none in
    let support : Support c.loop-rest.rest.items c.support_of.result = subst (λ (xs : List ℤ). Support xs c.support_of.result) c.as_slice.ensures.value
    c.support_of.ensures in
    record {
      later = c.loop-rest.invariant.later;
      taken_out = c.loop-rest.invariant.taken_out;
      left = c.loop-rest.invariant.left;
      no_cycle = λ rules s. no_cycle_same c.args.automaton.now c.loop-rest.rest.items c.support_of.result rules support s none;
    }
