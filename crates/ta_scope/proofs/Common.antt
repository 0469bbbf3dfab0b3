-- The names that the proofs of this crate cite, passed on from one place. Declares nothing.
pub use Rattle.std.proofs.Common.{Bool, Contains, IsBitSet, List, None, Option, Some, [], ap, append-nil, append_assoc, arith, bit_or, cond, drop, eqb, false}
pub use Rattle.std.proofs.Common.{get_or, inl, inr, length, length-append, length-set, map, pos, refl, replicate, rules, set, slice_get, subst, suc, sym, take}
pub use Rattle.std.proofs.Common.{true, w32, zero, zero-add, ℕ, ℤ, ⊎_elim, ◌%◌, ◌&&◌, ◌*ℤ◌, ◌*◌, ◌++◌, ◌+ℤ◌, ◌+◌, ◌-ℤ◌, ◌-◌, ◌<◌, ◌^◌, ◌↔◌, ◌∙◌, ◌∷◌, ◌≡◌, ◌≢◌}
pub use Rattle.std.proofs.Common.{◌≤ℤ◌, ◌≤◌, ◌⊎◌}
pub use Rattle.std.proofs.Math.IntN.{*ℤ-zero, zero-*ℤ}
pub use Rattle.std.proofs.lemmas.Bool.{and_parts, cases_Bool, cases_lt, cases_order, eqb-true, false≢true}
pub use Rattle.std.proofs.lemmas.Bool.Decides.{eqb_tells}
pub use Rattle.std.proofs.lemmas.Int.{ints}
pub use Rattle.std.proofs.lemmas.List.{get_or-set_other, get_or-set_same, get_or_append_left, get_or_past, get_or_push, map-append, take-append-le, take_all}
pub use Rattle.std.proofs.lemmas.List.{take_at, take_more}
pub use Rattle.std.proofs.lemmas.List.Elements.{Contains-append_left, filter-append}
pub use Rattle.std.proofs.lemmas.Nat.{le_or_l, one_shl, pow_pos}
pub use Rattle.std.proofs.lemmas.Nat.Bits.{bit_at-pow_other, bit_at-pow_same, bit_at_ones, bit_at_set_other, bit_at_set_same}
pub use Rattle.std.proofs.lemmas.Option.{same_Some, slice_get_within}
pub use Rattle.std.specs.Int.{bit_at, int_min}
pub use Rattle.std.specs.List.{AllByRecursion, range_with_len}
pub use Rattle.std.specs.Prelude.{filter, int_lt, unsigned_abs}
pub use Rattle.ta_automaton.proofs.Onward.{NoneInto, Onward, Piece, after, change_of, fire_in_order, later_after}
pub use Rattle.ta_automaton.proofs.Rearranged.{circuit_pure, each_rule_from, none_from}
pub use Rattle.ta_automaton.proofs.Thresholds.{fall_back, falls, from_within, natural_terms, rule_within, to_within, updates_natural}
pub use Rattle.ta_automaton.specs.Places.{location_place, rule_change}
pub use Rattle.ta_automaton.specs.Runs.{Config, InScope, LoopsPure, Walk, value_at}
pub use Rattle.ta_automaton.specs.declared.automaton.Automaton.{Automaton}
pub use Rattle.ta_automaton.specs.declared.rule.Rule.{Rule}
pub use Rattle.ta_base.proofs.Bits.{at_set, set_at, set_or}
pub use Rattle.ta_base.proofs.Each.{distinct_from, distinct_length, each_append, each_back, each_from, each_get_or, each_in, each_listed, each_push}
pub use Rattle.ta_base.proofs.Each.{each_weaker, find_or, not_before}
pub use Rattle.ta_base.proofs.Integers.{above_zero, abs_less, abs_less_than, abs_natural, by_one, distributes, min_cases, mul_left_comm, not_above_zero}
pub use Rattle.ta_base.proofs.Integers.{zero_or_more}
pub use Rattle.ta_base.proofs.Lists.{filter_false, filter_true, get_middle, longer_front, one_step, push_cases, read_same, without_last}
pub use Rattle.ta_base.proofs.Members.{In-left, In-right, contains_or, in_append, in_get_or, in_or, in_replicate, last_of}
pub use Rattle.ta_base.specs.Lists.{Distinct}
pub use Rattle.ta_base.specs.Masks.{In}
pub use Rattle.ta_base.proofs.Totals.{total-add, total-append, total-same, total-swap, total-times, total-zero}
unfoldable pub use Rattle.ta_base.specs.Sums.{times_in, total}
pub use Rattle.ta_linear.proofs.TermLemmas.{terms_value-same}
pub use Rattle.ta_scope.specs.Arranged.{AllTakenOut, AreRuleCounts, ArrangedOf, FirstPath, LeastCount, LeastCycle, NoLater, NotAbove, SubtractsFrom, Support}
pub use Rattle.ta_scope.specs.Arranged.{TakenOut, count_at, is_step_from, steps_along}
pub use Rattle.ta_scope.specs.Cycles.{IsReachTable, NoCycle, OnCycle, Reaches, every_rule}
pub use Rattle.ta_scope.specs.Faults.{AtFault, FirstRuleFault}
pub use Rattle.ta_scope.specs.Inside.Distances.{AddsNextLocations, Distance, FirstStep, IsStep, LeadsTo}
pub use Rattle.ta_scope.specs.Inside.Listed.{steps_from}
pub use Rattle.ta_scope.specs.Inside.Reached.{AddsLocation, IsClosed, LeadsOut}
pub use Rattle.ta_scope.specs.Inside.Taking.{IsLeastCycle}
pub use Rattle.ta_scope.specs.Legal.{ArrangedStepsAreDetermined, ArrangedStepsAreLegal, ArrangedStepsAreWithin, ArrangedStepsReachTheEnd, GuardsHold}
pub use Rattle.ta_scope.specs.Legal.{LeadsToEnd, Passable, StepsWithin, arranged_steps, fall_mask, value_after_steps, value_at_end}
pub use Rattle.ta_scope.specs.LongerCycles.{LoopsAlone, OnLongerCycle}
pub use Rattle.ta_scope.specs.Order.{Blocks, IsBuilt, IsLocationOrder, Next, Ready}
pub use mir.Syntax.{w128}
pub use mir.Val.{of_z, to_z}
