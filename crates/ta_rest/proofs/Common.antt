-- The names that the proofs of this crate cite, passed on from one place. Declares nothing.
pub use Rattle.std.proofs.Common.{All, Bool, IsBitSet, List, None, Option, Some, [], ap, append_assoc, arith, cond, eqb, eqb-true, false, get_or, inl, inr}
pub use Rattle.std.proofs.Common.{length, length-append, map, not, pos, refl, reverse, slice_get, subst, suc, sum, sym, true, zero, ℕ, ℤ, ◌&&◌, ◌||◌, ◌*ℤ◌, ◌*◌}
pub use Rattle.std.proofs.Common.{◌++◌, ◌+ℤ◌, ◌+◌, ◌-◌, ◌<ℤ◌, ◌<◌, ◌^◌, ◌↔◌, ◌∙◌, ◌∷◌, ◌≡◌, ◌≢◌, ◌≤ℤ◌, ◌≤◌, ◌⊎◌}
pub use Rattle.std.proofs.lemmas.Bool.{and_from, and_parts, cases_Bool, cases_lt, cond-false, cond-true, eq-eqb, false≢true, ne_eqb, not-false, not-true}
pub use Rattle.std.proofs.lemmas.Bool.{not_from_false, true≢false}
pub use Rattle.std.proofs.lemmas.Bool.Decides.{eqb_tells, nat_tests}
pub use Rattle.std.proofs.lemmas.Int.{ints}
pub use Rattle.std.proofs.lemmas.Option.{same_Some, slice_get-get_or, slice_get_read, slice_get_within}
pub use Rattle.std.specs.List.{AllByRecursion, range_with_len}
pub use Rattle.std.specs.Prelude.{filter, negsuc}
pub use Rattle.ta_automaton.proofs.Moves.{Fits, value_at-location}
pub use Rattle.ta_automaton.proofs.Thresholds.{from_within, to_within, after_earlier, pattern_within}
pub use Rattle.ta_automaton.proofs.Trails.{run_length}
pub use Rattle.ta_automaton.specs.Places.{Whole, location_place}
pub use Rattle.ta_automaton.specs.Runs.{Config, Holds, Initial, MaskedHold, Move, Occurs, Step, Steps, Walk, value_at, number_at}
pub use Rattle.ta_automaton.specs.declared.automaton.Automaton.{Automaton}
pub use Rattle.ta_automaton.specs.declared.condition.Comparison.{Comparison}
pub use Rattle.ta_automaton.specs.declared.condition.Condition.{Condition}
pub use Rattle.ta_automaton.specs.declared.pattern.Event.{Event}
pub use Rattle.ta_automaton.specs.declared.pattern.Pattern.{Pattern}
pub use Rattle.ta_automaton.specs.declared.rule.Rule.{Rule}
pub use Rattle.ta_base.proofs.Bits.{all_below-at, all_below-false, all_below-from, at_set, bit_set, bit_true, no_bit}
pub use Rattle.ta_base.proofs.Booleans.{implies-at, implies-from}
pub use Rattle.ta_base.proofs.Lists.{at_most_first, get_end, push_cases, slice_get_left, some_at}
pub use Rattle.ta_base.proofs.Members.{In-filter, cond_child, in_filter}
pub use Rattle.ta_base.proofs.Naturals.{not_same}
pub use Rattle.ta_base.specs.Lists.{Distinct, EachFrom}
pub use Rattle.ta_base.specs.Masks.{In, all_below, has_bit, implies}
pub use Rattle.ta_encode.proofs.Moments.{AllHold-append, AllHold-left, Moment, RowFails, guards_fail, opposite_value}
pub use Rattle.ta_encode.proofs.Safety.{SolvesAlong, extend, none_along, prefix_legal, prefix_rows, take_apart}
pub use Rattle.ta_encode.specs.Laws.{EndsAt, RunsThrough, WordFires, position_in, steps_of}
pub use Rattle.ta_encode.specs.System.{AllHold, LinearRow, counter_row, guard_rows, negated, opposite, row_value, word_rows}
pub use Rattle.ta_encode.specs.Unknowns.{start_meanings}
unfoldable pub use Rattle.ta_encode.specs.Unknowns.{meanings}
pub use Rattle.ta_linear.specs.Terms.{coefficient}
pub use Rattle.ta_linear.specs.Values.{RowHolds, value_of}
pub use Rattle.ta_linear.specs.declared.row.Row.{Row}
pub use Rattle.ta_rest.specs.Endings.{ComesLast, Endings, FewEvents, IsEnding, LastMoved, RestAdded, events_below, rest_name}
pub use Rattle.ta_rest.specs.Laws.{EndingsRestAlike, EndsOfSolutionsRest, RefutedEndingsRest, RefutedEndingsShow, RestingRunsSolve, SolutionsComeToRest}
pub use Rattle.ta_rest.specs.Laws.{StepsOfSolutionsRest}
pub use Rattle.ta_rest.specs.Quiet.{MaskedQuietlyHold, MustMove, NoneSubtracted, OneFails, QuietRest, QuietlyHolds, Stuck, is_silent, loud_terms, without}
pub use Rattle.ta_rest.specs.QuietLaws.{EndingsQuietRestAlike, LoudTermsAreLeft, QuietAlone, QuietRestIsStuck, QuietRestIsWeaker, QuietSafeIsStronger}
pub use Rattle.ta_rest.specs.QuietLaws.{RestIsQuietRest, RestSafeIsQuietRestSafe}
pub use Rattle.ta_rest.specs.Rest.{AtRest, ComeAfterEarlier, ComesTo, RestOccurs}
pub use Rattle.ta_rest.specs.RestSearch.{leads_out, must_be_left, rest_search}
unfoldable pub use Rattle.ta_rest.specs.RestSearch.{end_rows, rest_rows}
pub use Rattle.ta_scope.specs.LongerCycles.{LoopsAlone}
pub use Rattle.ta_words.specs.Words.{LegalWord, follows, has_fallen, has_rise, is_complete}
unfoldable pub use Rattle.ta_words.specs.Words.{children, has_event}
pub use Rattle.ta_words.specs.declared.element.Element.{Element}
pub use Rattle.ta_automaton.proofs.Fire.{fire, fire_step}
pub use Rattle.ta_automaton.specs.Narrow.{IsNarrow}
pub use Rattle.ta_automaton.specs.declared.file.File.{File}
pub use Rattle.ta_base.proofs.Integers.{is_negative, negative_false, negative_true}
pub use Rattle.ta_encode.proofs.Prefixes.{prefix_fewer}
pub use Rattle.ta_encode.specs.Asking.{ask_node}
pub use Rattle.ta_encode.specs.Lines.{BoundsWithin}
pub use Rattle.ta_encode.specs.declared.ask.Ask.{Ask}
pub use Rattle.ta_linear.proofs.TermLemmas.{terms_value-same}
pub use Rattle.ta_rest.specs.Trees.{search_of_claim}
