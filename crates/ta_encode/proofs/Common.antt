-- The names that the proofs of this crate cite, passed on from one place. Declares nothing.
pub use Rattle.std.proofs.Common.{Bool, FitsSigned, IsBitSet, List, None, Option, Some, [], ap, append_assoc, arith, bit_or, cond, drop, eqb, false, get_or}
pub use Rattle.std.proofs.Common.{replicate}
pub use Rattle.std.proofs.Common.{inl, inr, length, length-append, map, negsuc, not, of_z, pos, refl, reverse, slice_get, subst, suc, sum, sym, take, to_z}
pub use Rattle.std.proofs.Common.{true, unsigned_abs, zero, zero-add, ℕ, ℤ, ⊎_elim, ◌&&◌, ◌*ℤ◌, ◌*◌, ◌++◌, ◌+ℤ◌, ◌+◌, ◌-ℤ◌, ◌-◌, ◌<ℤ◌, ◌<◌, ◌^◌, ◌||◌, ◌∙◌, ◌∷◌}
pub use Rattle.std.proofs.Common.{◌≡◌, ◌≢◌, ◌≤ℤ◌, ◌≤◌, ◌⊎◌}
pub use Rattle.std.proofs.Math.IntN.{*ℤ-zero, zero-*ℤ, +ℤ_idr}
pub use Rattle.std.proofs.Math.Seq.{take-add, take-length}
pub use Rattle.std.proofs.lemmas.Bool.{and_from, and_parts, cases_Bool, cases_eq, cases_lt, cond_both, eq-eqb, eqb-false, eqb-true, false≢true, ltb-false}
pub use Rattle.std.proofs.lemmas.Bool.{ne_eqb, not-false, not-true, not_from_false, or_cases, or_left, or_parts, or_right}
pub use Rattle.std.proofs.lemmas.Bool.Decides.{eqb_tells, nat_tests}
pub use Rattle.std.proofs.lemmas.Int.{fits_signed_mul, ints}
pub use Rattle.std.proofs.lemmas.List.{append-nil, get_or-map, get_or-take, get_or_append_left, get_or_push, length-drop, length-map, length-reverse, take_all}
pub use Rattle.std.proofs.lemmas.List.{length-take-le, map-append, map-id, reverse-append, reverse-reverse, take-append-drop, take-append-le, take-take}
pub use Rattle.std.proofs.lemmas.List.{take_at, take_more}
pub use Rattle.std.proofs.lemmas.List.Elements.{All-push, filter_agree}
pub use Rattle.std.proofs.lemmas.List.FromFn.{length-range_with_len}
pub use Rattle.std.proofs.lemmas.Option.{same_Some, slice_get-get_or, slice_get_past, slice_get_read, slice_get_within}
pub use Rattle.std.proofs.lemmas.Result.{IfOk-weaker, on_ok_weaker}
pub use Rattle.std.proofs.lemmas.Simd.{map-map}
pub use Rattle.std.specs.Int.{bit_not, w128}
pub use Rattle.std.specs.List.{All, AllByRecursion, range_with_len}
pub use Rattle.std.specs.Prelude.{filter, flat_map, if◌then◌else◌, nat_lt, slice_index, slice_index_or, ◌==◌}
pub use Rattle.ta_automaton.proofs.Fire.{Whole, fire, fire_step, fire_whole, fits_whole}
pub use Rattle.ta_automaton.proofs.Moves.{Fits, fits_after, loop_at, move_at, place_cases, shared_change-location, shared_change-parameter}
pub use Rattle.ta_automaton.proofs.Moves.{shared_change-shared, step_later, value_at-location, value_at-parameter, value_at-shared}
pub use Rattle.ta_automaton.proofs.Onward.{EachRule, NoneInto, Onward, Piece, change_location, change_of, fire_in_order, holds_before_last, later_after}
pub use Rattle.ta_automaton.proofs.Thresholds.{Later, after_earlier, fall_back, falls, from_within, pattern_within, processes_value, resilience_at}
pub use Rattle.ta_automaton.proofs.Thresholds.{resilience_holds, rise_on, rises, rule_within, stays_below, stays_true}
pub use Rattle.ta_automaton.proofs.Trails.{Grows, Trail, run_length}
pub use Rattle.ta_automaton.specs.Places.{location_place, rule_change}
unfoldable pub use Rattle.ta_automaton.specs.Places.{shared_change}
pub use Rattle.ta_automaton.specs.Runs.{Admissible, Config, Holds, InScope, Initial, LoopsPure, MaskedHold, Occurs, Safe, Step, Steps, value_at}
pub use Rattle.ta_automaton.specs.declared.automaton.Automaton.{Automaton}
pub use Rattle.ta_automaton.specs.declared.condition.Comparison.{Comparison}
pub use Rattle.ta_automaton.specs.declared.file.File.{File}
pub use Rattle.ta_automaton.specs.declared.pattern.Pattern.{Pattern}
pub use Rattle.ta_automaton.specs.declared.rule.Rule.{Rule}
pub use Rattle.ta_base.proofs.Bits.{all_below-at, all_below-false, all_below-from, bit_off, bit_on, bit_set, bit_true, has_none, has_or, mask_of-bit}
pub use Rattle.ta_base.proofs.Bits.{none_kept_empty, standing_bit}
pub use Rattle.ta_base.proofs.Booleans.{and_false, implies-at, implies-from}
pub use Rattle.ta_base.proofs.Each.{coefficients_turned, each_append, each_at, each_from_at, each_get_or, each_in, each_map, each_map_all, each_weaker}
pub use Rattle.ta_base.proofs.Integers.{abs_minus, abs_product, abs_sum, by_one, choose_small, distributes, distributes_right, fits_sum, is_negative, is_none}
pub use Rattle.ta_base.proofs.Integers.{less_none, less_small, minus_times, mul-ge-zero, natural, negative_false, negative_true, not_none, one_term_value}
pub use Rattle.ta_base.proofs.Integers.{one_times, pos_natural, times_assoc, to_z_abs, to_z_range, zero_or_not}
pub use Rattle.ta_base.proofs.Lists.{filter_shorter, get_drop, get_map, get_of_drop, get_of_map, get_parts, get_past, get_right, item_none, item_one}
pub use Rattle.ta_base.proofs.Lists.{items_none, items_one, map_constant, map_same, maps_length, only_item, reverse_more, slice_get_left, some_at, fewer_alike}
pub use Rattle.ta_base.proofs.Members.{In-filter, contains_of, in_append, in_filter, in_map, in_more, in_of, only_in}
pub use Rattle.ta_base.proofs.Naturals.{arrives, below_or_last, cases_start, mask_of, mask_of-below, mask_of-some, cond_apart, cond_same, untouched}
pub use Rattle.ta_base.proofs.Ranges.{In-numbers, after_zeros, alike, at_index, at_number, before_block, count_few, count_none, count_one, each_index}
pub use Rattle.ta_base.proofs.Ranges.{in_numbers, numbers_more, numbers_rise, passed_none, passed_one, past_numbers, rises_at, rises_below, rises_filter}
pub use Rattle.ta_base.proofs.Ranges.{rises_length}
pub use Rattle.ta_base.proofs.Sums.{range_sum-front, range_sum-same, range_sum-zero}
pub use Rattle.ta_base.specs.Lists.{Rises}
pub use Rattle.ta_base.specs.Masks.{In, all_below, has_bit, implies}
pub use Rattle.ta_base.proofs.Times.{EachOnce, total-by_times, times-passed}
pub use Rattle.ta_base.proofs.Totals.{one_if-natural, one_if-ne, one_if-shift, one_if-same, one_inside, one_outside, total-same, total-zero, total-items}
pub use Rattle.ta_base.proofs.Totals.{total-naturals}
pub use Rattle.ta_base.specs.Sums.{one_if, times_in}
unfoldable pub use Rattle.ta_base.specs.Sums.{total}
unfoldable pub use Rattle.ta_base.proofs.Sums.{range_sum}
pub use Rattle.ta_cert.specs.Tree.{Ask, Done, Forest, Leaf, More, Split, Tree, all_preorder, forest_preorder, preorder}
pub use Rattle.ta_cert.specs.declared.line.Node.{Node}
pub use Rattle.ta_encode.specs.Code.{AreRowsOf, IsRowOf, SystemAt, SystemOf}
pub use Rattle.ta_encode.specs.Ends.{ended_rows}
pub use Rattle.ta_encode.specs.InPreorder.{ProofsAreDetermined, ProofsReadInOrder, RefutedInOrder}
pub use Rattle.ta_encode.specs.Inside.Draft.{Adds, AddsUnknowns, Continues, IsDraft, IsDraftOf}
pub use Rattle.ta_encode.specs.Inside.Firings.{firing}
pub use Rattle.ta_encode.specs.Inside.Lines.{AddsRows, AreWritten, IsBehind, SmallCondition, SmallEvents, SmallForm, SmallRows, block_row, bound_constant}
pub use Rattle.ta_encode.specs.Inside.Lines.{bound_sense, constant_in_sense, counters_outside, in_sense, start_sense}
pub use Rattle.ta_encode.specs.Inside.Rules.{AreOfRules}
pub use Rattle.ta_encode.specs.Laws.{EndsAt, FiresBefore, FiresFall, GoesForward, IsOne, IsReordered, ProofsLeaveNoSolution, ProofsShowSafety, ReorderedTo}
pub use Rattle.ta_encode.specs.Laws.{RunsReorder, RunsReorderTo, RunsThrough, SolutionsBecomeRuns, StepsOfSolutionsRun, WordFires, position_in, start_values}
pub use Rattle.ta_encode.specs.Laws.{steps_of, values_of_prefix}
pub use Rattle.ta_encode.specs.Lines.{BoundWithin, BoundsWithin, SmallTerms, coefficient_in_sense, line_coefficient, line_row}
pub use Rattle.ta_encode.specs.Marks.{AreMarks, IsPart, MarkHolds, SameRows, mark_at, no_mark}
pub use Rattle.ta_encode.specs.Named.{AreThere, NamesRows, row_number_at, row_numbered, rows_named}
pub use Rattle.ta_encode.specs.PatternSearch.{empty_word, pattern_search}
pub use Rattle.ta_encode.specs.Refutes.{IsLeaf, LeafOfRows, LeafTest, ProofBy, ProofOf, RefuteAll, RefuteEach, linear_coefficient_in, linear_constant_in}
unfoldable pub use Rattle.ta_encode.specs.Refutes.{RefutesBy}
pub use Rattle.ta_encode.specs.Sample.{HasStart, SamplesStart, StartsAreSampled, sample_search, sampled}
unfoldable pub use Rattle.ta_encode.specs.Sample.{sample_meanings, sample_rows}
pub use Rattle.ta_encode.specs.Search.{Answers, MayAsk, Pending, Search, SolvesAt, all_or_none, answered, asked, bound_at, bounded, bounded_rows, longer}
pub use Rattle.ta_encode.specs.Search.{only_extend}
pub use Rattle.ta_encode.specs.System.{AllHold, Bound, High, LinearRow, Low, Side, SolvesWord, bound_row, condition_rows, counter_row, counter_rows, event_rows}
pub use Rattle.ta_encode.specs.System.{open_rows}
pub use Rattle.ta_encode.specs.System.{form_row, guard_rows, negated, only_at, opposite, processes_row, row_value, side_row, singles_row, standing_rows}
pub use Rattle.ta_encode.specs.System.{start_coefficient, start_guard_rows}
unfoldable pub use Rattle.ta_encode.specs.System.{fall_rows, happening_rows, rise_rows, start_rows, sum_of_products, word_rows}
pub use Rattle.ta_encode.specs.Unknowns.{Count, Meaning, Parameter, Single, Start, counts_after, place_coefficient, singles_after, start_locations}
unfoldable pub use Rattle.ta_encode.specs.Unknowns.{meanings, start_meanings}
pub use Rattle.ta_encode.specs.declared.draft.Draft.{Draft}
pub use Rattle.ta_encode.specs.declared.growing.Mark.{Mark}
pub use Rattle.ta_encode.specs.declared.line.Sense.{Sense}
pub use Rattle.ta_encode.specs.declared.line.Sense.TheVariants.{Negated, Opposite, Plain}
pub use Rattle.ta_encode.specs.declared.origin.Origin.{Origin}
pub use Rattle.ta_implied.proofs.Copying.{below_append}
pub use Rattle.ta_implied.specs.Implied.{Good, IsPair, RiseHolds}
pub use Rattle.ta_linear.proofs.TermLemmas.{IsNormal-higher, IsNormal-lower, IsNormal-push, coefficient-above, coefficient-append, coefficient-below}
pub use Rattle.ta_linear.proofs.TermLemmas.{terms_value-same}
pub use Rattle.ta_linear.specs.Numbers.{InRange}
pub use Rattle.ta_linear.specs.Rows.{AllBelow}
pub use Rattle.ta_linear.specs.Terms.{IsNormal, coefficient}
pub use Rattle.ta_linear.specs.Values.{RowHolds, Solves, terms_value, value_of}
pub use Rattle.ta_linear.specs.declared.form.Form.{Form}
pub use Rattle.ta_linear.specs.declared.row.Row.{Row}
pub use Rattle.ta_linear.specs.declared.row.System.{System}
pub use Rattle.ta_words.proofs.Counts.{legal_length}
pub use Rattle.ta_words.specs.Words.{LegalUnder, LegalWord, follows, is_complete, is_due, is_ready, is_standing, may_fire, may_rise}
unfoldable pub use Rattle.ta_words.specs.Words.{allowed_rules, children, has_event, has_fallen, has_rise}
pub use Rattle.ta_words.specs.declared.element.Element.{Element}
pub use Rattle.ta_words.specs.declared.element.Element.TheVariants.{Event, Fall, Rise}
pub use Rattle.std.specs.Vec.Iter.{into_iter_items}
pub use Rattle.ta_automaton.specs.Patterns.{PatternOver}
pub use Rattle.ta_encode.specs.Inside.Counters.{AreCounters, counter_coefficient, terms_at, terms_in}
pub use Rattle.ta_encode.specs.Inside.Sparse.{Sparse}
pub use Rattle.ta_encode.specs.declared.ask.Inner.TheVariants.{Asks, Splits}
pub use Rattle.ta_encode.specs.declared.counters.Counter.{Counter}
