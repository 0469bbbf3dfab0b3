-- The names that the proofs of this crate cite, passed on from one place. Declares nothing.
pub use Rattle.std.proofs.Common.{All, Bool, Err, FitsSigned, IsBitSet, IsTrue, List, Ok, Option, Some, [], ap, arith, cond, drop, eqb, false, get_or, inl, inr}
pub use Rattle.std.proofs.Common.{length, length-append, length-drop, map, negsuc, pos, refl, replicate, rules, set, slice_get, subst, suc, sum, sym, take}
pub use Rattle.std.proofs.Common.{true, unsigned_abs, zero, ℕ, ℤ, ◌*ℤ◌, ◌++◌, ◌+ℤ◌, ◌+◌, ◌-ℤ◌, ◌<◌, ◌^◌, ◌↔◌, ◌∙◌, ◌∷◌, ◌≡◌, ◌≢◌, ◌≤ℤ◌, ◌≤◌, ◌⊎◌}
pub use Rattle.std.proofs.Math.IntN.{*ℤ-zero, zero-*ℤ}
pub use Rattle.std.proofs.lemmas.Bool.{cases_lt, false≢true}
pub use Rattle.std.proofs.lemmas.Bool.Decides.{eqb_tells, nat_tests}
pub use Rattle.std.proofs.lemmas.Int.{fits_signed_from_abs, ints, to_z-of_z}
pub use Rattle.std.proofs.lemmas.List.{drop-set-add, drop_all, drop_more, ext_get_or, get_or-drop, get_or-set_other, get_or-set_same, get_or-take, get_or_past}
pub use Rattle.std.proofs.lemmas.List.{length-map, length-replicate, length-set, length-take-le, take-replicate, take-set-le, take_all, take_at, take_more}
pub use Rattle.std.proofs.lemmas.Option.{get_or_from_slice_get, same_Some, slice_get-get_or, slice_get_within}
pub use Rattle.std.proofs.lemmas.Result.{IfErr-weaker, on_ok_weaker}
pub use Rattle.std.proofs.result.Match.{err_is}
pub use Rattle.std.specs.Int.{w128}
pub use Rattle.std.specs.List.{AllByRecursion, range_with_len, refill}
pub use Rattle.ta_automaton.proofs.Fire.{Whole, fire, fire_step, fire_whole, fits_whole}
pub use Rattle.ta_automaton.proofs.Moves.{Fits, fits_after, move_at, place_cases, shared_change-location, shared_change-parameter, shared_change-shared}
pub use Rattle.ta_automaton.proofs.Moves.{step_later, value_at-location, value_at-parameter, value_at-shared}
pub use Rattle.ta_automaton.proofs.Thresholds.{Later, fall_back, falls, form_same, stays_true, updates_natural}
pub use Rattle.ta_automaton.specs.Forms.{FallRow, RiseRow}
pub use Rattle.ta_automaton.specs.Places.{location_place, rule_change, shared_change}
pub use Rattle.ta_automaton.specs.Runs.{Config, HoldsAt, Initial, MaskedHold, Step, Steps, number_at, value_at}
pub use Rattle.ta_automaton.specs.Shape.{RuleWithin, Update, variable_of}
pub use Rattle.ta_automaton.specs.declared.automaton.Automaton.{Automaton}
pub use Rattle.ta_automaton.specs.declared.condition.Comparison.{Comparison}
pub use Rattle.ta_automaton.specs.declared.rule.Rule.{Rule}
pub use Rattle.ta_base.proofs.Each.{all_at, each_append, each_at, each_copies, each_drop, each_get_or, each_set}
pub use Rattle.ta_base.proofs.Integers.{abs_below, abs_natural, by_one, distributes, less_fits, minus_times, mul-ge-zero, one_times, suc_times, times_minus_one}
pub use Rattle.ta_base.proofs.Integers.{times_natural}
pub use Rattle.ta_base.proofs.Lists.{PassedTo, all_passed, front_back, none_passed, one_passed, pieces, read_same, same_numbers, twice_back, zeros_past}
pub use Rattle.ta_base.specs.Lists.{Distinct}
pub use Rattle.ta_base.proofs.Totals.{one_if-ne, one_if-shift}
pub use Rattle.ta_base.specs.Sums.{one_if}
unfoldable pub use Rattle.ta_base.specs.Sums.{total}
pub use Rattle.ta_counter.specs.Checks.{ConditionPasses, ConditionStopsAt, RowAnswer, RowFails, RowOutOfRange, RowPasses, RowsAnswer, RowsOver, RowsPass}
pub use Rattle.ta_counter.specs.Checks.{RowsStop}
pub use Rattle.ta_counter.specs.Configs.{AreOf, counters_of, model_of, naturals, places_of, sum_of}
pub use Rattle.ta_counter.specs.Guards.{MaskedPass, MaskedStop}
pub use Rattle.ta_counter.specs.Inside.Filling.{Filling}
pub use Rattle.ta_counter.specs.Inside.Guards.{GuardFault, GuardRowFault, MaskedFault}
pub use Rattle.ta_counter.specs.Starts.{MayStart, NoStart, StartChecked, StartsAt}
pub use Rattle.ta_counter.specs.Steps.{AllGrow, Enough, Fires, Grows, NoSteps, StepFails, StepIsTaken, UpdateOutOfRange, before_last, shifted}
pub use Rattle.ta_counter.specs.Values.{Value}
pub use Rattle.ta_counter.specs.declared.fault.StepFault.{StepFault}
pub use Rattle.ta_counter.specs.declared.fault.StepFault.TheVariants.{Count, Guard, OutOfRange}
pub use Rattle.ta_linear.specs.Numbers.{InRange}
pub use Rattle.ta_linear.specs.Sums.{StaysInRange}
pub use Rattle.ta_linear.specs.Terms.{IsNormal, coefficient}
pub use Rattle.ta_linear.specs.Values.{RowHolds, point_of, value_of}
pub use Rattle.ta_linear.specs.declared.row.Row.{Row}
pub use mathlib.Core.Path.{fun_ext}
