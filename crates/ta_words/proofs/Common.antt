-- The names that the proofs of this crate cite, passed on from one place. Declares nothing.
pub use Rattle.std.proofs.Common.{Bool, List, Some, [], ap, append_assoc, arith, cond, false, get_or, inl, inr, length, map, not, refl, reverse, slice_get}
pub use Rattle.std.proofs.Common.{subst, sym, take, true, ℕ, ◌%◌, ◌&&◌, ◌*◌, ◌++◌, ◌+◌, ◌-◌, ◌<◌, ◌^◌, ◌||◌, ◌↔◌, ◌∙◌, ◌∷◌, ◌≡◌, ◌≤◌, ◌⊎◌}
pub use Rattle.std.proofs.lemmas.Bool.{and_from, and_parts, cases_lt, cond-false, cond-true, eq-eqb, eqb-true, false≢true, not-true, or_left, or_right}
pub use Rattle.std.proofs.lemmas.Bool.{true≢false}
pub use Rattle.std.proofs.lemmas.List.{append-nil, length-reverse}
pub use Rattle.std.proofs.lemmas.Option.{slice_get_past, slice_get_read, slice_get_within}
pub use Rattle.std.specs.List.{range_with_len}
pub use Rattle.std.specs.Prelude.{filter, ◌==◌}
pub use Rattle.ta_automaton.proofs.Numbered.{of_pattern}
pub use Rattle.ta_automaton.specs.declared.automaton.Automaton.{Automaton}
pub use Rattle.ta_automaton.specs.declared.pattern.Pattern.{Pattern}
pub use Rattle.ta_automaton.specs.declared.rule.Rule.{Rule}
pub use Rattle.ta_base.proofs.Bits.{Told, all_below-at, all_below-from, all_below-same, first_numbers, has_above, has_none, none_told, not_told, one_told}
pub use Rattle.ta_base.proofs.Bits.{some_bit}
pub use Rattle.ta_base.proofs.Booleans.{and_right, and_then, both_ways, implies-at, implies-from}
pub use Rattle.ta_base.proofs.Lists.{one_longer, reverse_more}
pub use Rattle.ta_base.proofs.Members.{In-filter, In-left, In-map, In-right, cond_more, in_append, in_get_or, in_more, not_listed, not_yet}
pub use Rattle.ta_base.proofs.Naturals.{count, count_most, count_new, end_of_masks, first_bits_below}
pub use Rattle.ta_base.proofs.Ranges.{In-numbers}
pub use Rattle.ta_base.specs.Masks.{In, all_below, has_bit, implies}
pub use Rattle.ta_words.specs.Seen.{EventsNamed, IsSeen, NamesBefore}
pub use Rattle.ta_words.specs.Words.{LegalUnder, LegalWord, is_complete, is_due, is_ready, is_standing, may_fire, may_rise}
unfoldable pub use Rattle.ta_words.specs.Words.{children, has_event, has_fallen, has_rise}
pub use Rattle.ta_words.specs.declared.element.Element.{Element}
pub use Rattle.ta_words.specs.declared.element.Element.TheVariants.{Event, Fall, Rise}
pub use Rattle.ta_words.specs.declared.seen.Seen.{Seen}
pub use Rattle.ta_words.specs.declared.narrow_task.NarrowTask.{NarrowTask}
