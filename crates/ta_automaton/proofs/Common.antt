-- The names that the proofs of this crate cite, passed on from one place. Declares nothing.
pub use Rattle.std.proofs.Common.{All, Contains, IsBitSet, IsTrue, List, Option, Some, [], ap, append_assoc, arith, cond, count_by, eqb, false, get_or, inl}
pub use Rattle.std.proofs.Common.{inr, length, length-append, ltb, map, negsuc, pos, refl, slice_get, subst, suc, sum, sym, take, true, zero, ℕ, ℤ, ◌*ℤ◌, ◌++◌}
pub use Rattle.std.proofs.Common.{◌+ℤ◌, ◌+◌, ◌-ℤ◌, ◌-◌, ◌<ℤ◌, ◌<◌, ◌∙◌, ◌∷◌, ◌≡◌, ◌≢◌, ◌≤ℤ◌, ◌≤◌, ◌⊎◌}
pub use Rattle.std.proofs.lemmas.Bool.{cases_lt}
pub use Rattle.std.proofs.lemmas.Bool.Decides.{eqb_tells, nat_tests}
pub use Rattle.std.proofs.lemmas.Int.{ints}
pub use Rattle.std.proofs.lemmas.List.{get_or_append_left, get_or_past, length-map}
pub use Rattle.std.proofs.lemmas.List.Elements.{All-cons, All-nil}
pub use Rattle.std.proofs.lemmas.Option.{get_or_from_slice_get, same_Some, slice_get_read, slice_get_within}
pub use Rattle.std.specs.List.{AllByRecursion, range_with_len}
pub use Rattle.ta_automaton.specs.Forms.{ConditionOver, FallRow, FormOver, RiseRow, RowOver}
pub use Rattle.ta_automaton.specs.Laws.{CountersAddUp, CountersByFirings, FallGuardsStayFalse, ParametersStay, RiseGuardsStayTrue, SharedByFirings}
pub use Rattle.ta_automaton.specs.Laws.{SharedNeverFalls, SomeUnsafe, leads_into, leads_out_of, update_of}
pub use Rattle.ta_automaton.specs.Places.{location_place, rule_change}
unfoldable pub use Rattle.ta_automaton.specs.Places.{shared_change}
pub use Rattle.ta_automaton.specs.Runs.{At, Config, HappensAt, HoldsAt, InScope, Initial, MaskedHold, Move, Occurs, Run, Step, Steps, Walk, number_at, value_at}
pub use Rattle.ta_automaton.specs.declared.automaton.Automaton.{Automaton}
pub use Rattle.ta_automaton.specs.declared.condition.Comparison.{Comparison}
pub use Rattle.ta_automaton.specs.declared.condition.Condition.{Condition}
pub use Rattle.ta_automaton.specs.declared.file.File.{File}
pub use Rattle.ta_automaton.specs.declared.pattern.Event.{Event}
pub use Rattle.ta_automaton.specs.declared.pattern.Pattern.{Pattern}
pub use Rattle.ta_automaton.specs.declared.rule.Rule.{Rule}
pub use Rattle.ta_base.proofs.Bits.{bit_below, no_bit}
pub use Rattle.ta_base.proofs.Each.{each_at, each_from_at}
pub use Rattle.ta_base.proofs.Integers.{less_times, natural, not_held, pos_natural, times_le}
pub use Rattle.ta_base.proofs.Lists.{left_place, letters_apart, middle_place, no_sign, right_place, without_last}
pub use Rattle.ta_base.proofs.Naturals.{word_letter}
pub use Rattle.ta_base.specs.Masks.{In}
pub use Rattle.ta_base.specs.Sums.{one_if}
unfoldable pub use Rattle.ta_base.specs.Sums.{total}
pub use Rattle.ta_linear.specs.Terms.{IsNormal, IsTerm, coefficient}
pub use Rattle.ta_linear.specs.Values.{RowHolds, terms_value, value_of}
pub use Rattle.ta_linear.specs.declared.form.Form.{Form}
pub use Rattle.ta_linear.specs.declared.row.Row.{Row}
