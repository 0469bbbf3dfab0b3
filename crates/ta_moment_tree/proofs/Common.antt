-- The names that the proofs of this crate cite, passed on from one place. Declares nothing.
pub use Rattle.std.proofs.Common.{Bool, List, None, Option, Some, [], ap, append_assoc, arith, cond, drop, eqb, false, get_or}
pub use Rattle.std.proofs.Common.{lit<, mul-le-mul}
pub use Rattle.std.proofs.Common.{inl, inr, length, length-append, map, negsuc, not, of_z, pos, refl, reverse, slice_get, subst, suc, sym, take, to_z}
pub use Rattle.std.proofs.Common.{true, unsigned_abs, zero, ℕ, ℤ, ◌&&◌, ◌*ℤ◌, ◌*◌, ◌++◌, ◌+ℤ◌, ◌+◌, ◌-ℤ◌, ◌-◌, ◌<◌, ◌^◌, ◌||◌, ◌∙◌, ◌∷◌}
pub use Rattle.std.proofs.Common.{◌≡◌, ◌≢◌, ◌≤◌, ◌⊎◌}
pub use Rattle.std.proofs.Math.IntN.{*ℤ-zero, zero-*ℤ}
pub use Rattle.std.proofs.Math.Seq.{take-length}
pub use Rattle.std.proofs.lemmas.Bool.{and_from, and_parts, cases_eq, cases_lt, cond_both, eq-eqb, eqb-false, false≢true, ltb-false}
pub use Rattle.std.proofs.lemmas.Bool.{ne_eqb, or_cases, true≢false}
pub use Rattle.std.proofs.lemmas.Bool.Decides.{eqb_tells, nat_tests}
pub use Rattle.std.proofs.lemmas.Int.{ints}
pub use Rattle.std.proofs.lemmas.List.{append-nil, get_or-map, length-map, drop_more}
pub use Rattle.std.proofs.lemmas.List.{length-take-le, map-append, reverse-append, take-append-drop, take-append-le, take-take}
pub use Rattle.std.proofs.lemmas.List.{take_more}
pub use Rattle.std.proofs.lemmas.List.Elements.{filter-append}
pub use Rattle.std.proofs.lemmas.List.FromFn.{length-range_with_len}
pub use Rattle.std.proofs.lemmas.Option.{same_Some, slice_get-get_or, slice_get_past, slice_get_read, slice_get_within, slice_get-map}
pub use Rattle.std.proofs.lemmas.Result.{IfOk-weaker}
pub use Rattle.std.specs.Int.{w128}
pub use Rattle.std.specs.List.{AllByRecursion, range_with_len, HoldsAt}
pub use Rattle.std.specs.Prelude.{filter, flat_map, if◌then◌else◌, nat_lt, slice_index_or, ◌==◌, Err, option_copied}
pub use Rattle.ta_automaton.specs.Places.{location_place, rule_change}
pub use Rattle.ta_automaton.specs.declared.automaton.Automaton.{Automaton}
pub use Rattle.ta_automaton.specs.declared.condition.Comparison.{Comparison}
pub use Rattle.ta_automaton.specs.declared.pattern.Pattern.{Pattern}
pub use Rattle.ta_automaton.specs.declared.rule.Rule.{Rule}
pub use Rattle.ta_base.proofs.Bits.{all_below-from}
pub use Rattle.ta_base.proofs.Bits.{any_below-at}
pub use Rattle.ta_base.proofs.Each.{each_append, each_at, each_get_or, each_in, each_map_all}
pub use Rattle.ta_base.proofs.Integers.{abs_minus, abs_sum, is_none}
pub use Rattle.ta_base.proofs.Integers.{not_none}
pub use Rattle.ta_base.proofs.Integers.{to_z_abs, to_z_range}
pub use Rattle.ta_base.proofs.Lists.{filter_shorter, get_map, get_parts, get_past}
pub use Rattle.ta_base.proofs.Lists.{slice_get_before, slice_get_right}
pub use Rattle.ta_base.proofs.Lists.{reverse_more, slice_get_left, fewer_alike}
pub use Rattle.ta_base.proofs.Members.{in_append, in_map}
pub use Rattle.ta_base.proofs.Naturals.{below_or_last, cond_apart, cond_same}
pub use Rattle.ta_base.proofs.Ranges.{at_number, count_few, count_none, count_one}
pub use Rattle.ta_base.proofs.Ranges.{filter_more}
pub use Rattle.ta_base.proofs.Ranges.{in_numbers, numbers_more, numbers_rise, passed_none, passed_one, rises_filter}
pub use Rattle.ta_base.specs.Lists.{Rises}
pub use Rattle.ta_base.specs.Masks.{In, has_bit, any_below}
pub use Rattle.ta_base.specs.Sums.{one_if}
pub use Rattle.ta_cert.specs.declared.line.Node.{Node}
pub use Rattle.ta_encode.specs.Code.{AreRowsOf, IsRowOf, SystemAt}
pub use Rattle.ta_encode.specs.Inside.Lines.{IsBehind, SmallForm, bound_constant}
pub use Rattle.ta_encode.specs.Inside.Lines.{bound_sense}
pub use Rattle.ta_encode.specs.Lines.{BoundsWithin, SmallTerms, coefficient_in_sense}
pub use Rattle.ta_encode.specs.Marks.{SameRows}
pub use Rattle.ta_encode.specs.Search.{Pending, Search, bounded_rows, all_or_none, Comes}
pub use Rattle.ta_encode.specs.System.{LinearRow, bound_row, condition_rows, form_row}
pub use Rattle.ta_encode.specs.System.{only_at, opposite, processes_row, side_row}
pub use Rattle.ta_encode.specs.declared.meaning.Meaning.{Meaning}
pub use Rattle.ta_encode.specs.declared.meaning.Meaning.TheVariants.{Parameter, Start}
pub use Rattle.ta_encode.specs.Unknowns.{place_coefficient, start_locations}
pub use Rattle.ta_linear.proofs.TermLemmas.{IsNormal-higher, IsNormal-push, coefficient-append}
pub use Rattle.ta_linear.specs.Numbers.{InRange}
pub use Rattle.ta_linear.specs.Rows.{AllBelow}
pub use Rattle.ta_linear.specs.Terms.{IsNormal, coefficient}
pub use Rattle.ta_linear.specs.declared.form.Form.{Form}
pub use Rattle.ta_linear.specs.declared.row.Row.{Row}
pub use Rattle.ta_linear.specs.declared.row.System.{System}
pub use Rattle.std.proofs.Math.ListN.{drop_of_length-le}
pub use Rattle.std.proofs.lemmas.Grind.{flat_map-append}
pub use Rattle.std.specs.Option.{IfSome, MatchOption, option_map}
pub use Rattle.ta_automaton.specs.declared.task.Task.{Task}
pub use Rattle.ta_encode.proofs.Drafts.{start_few}
pub use Rattle.ta_encode.specs.Asking.{ask_node}
pub use Rattle.ta_encode.specs.Inside.Sparse.{Sparse}
pub use Rattle.ta_encode.specs.TreeCalls.{IsSmall}
pub use Rattle.ta_encode.specs.declared.meaning.Bound.{Bound}
pub use Rattle.ta_linear.specs.Forms.{IsMultiple, MultipleOutOfRange}
pub use Rattle.ta_moment_tree.specs.Counts.{is_pair_in}
pub use Rattle.ta_moment_tree.specs.Cuts.{IsMark}
pub use Rattle.ta_moment_tree.specs.Draft.{Added, is_plain, known_of, IsDraft}
pub use Rattle.ta_moment_tree.specs.Forms.{vector_of, form_of, forms_of, SmallBy, SmallVector, has_negative, all_forms}
pub use Rattle.ta_moment_tree.specs.Kept.{NodeIs, AreMarks}
pub use Rattle.ta_moment_tree.specs.Makers.{moment_maker}
pub use Rattle.ta_moment_tree.specs.Moments.{moment_of, moments_of, MomentsSpeak, SmallMoments}
pub use Rattle.ta_moment_tree.specs.Nodes.{IsNode}
pub use Rattle.ta_moment_tree.specs.Parts.{guard_of, rule_of}
pub use Rattle.ta_moment_tree.specs.Plain.{plain_rows}
pub use Rattle.ta_moment_tree.specs.Rows.{AddsForms}
pub use Rattle.ta_moment_tree.specs.Sizes.{AreAnswers}
pub use Rattle.ta_moment_tree.specs.Systems.{bound_forms, bound_form}
pub use Rattle.ta_moment_tree.specs.Trees.{asking_of, search_of_moments}
pub use Rattle.ta_moment_tree.specs.declared.draft.Draft.{Draft}
pub use Rattle.ta_moment_tree.specs.declared.encoding.MomentEncoding.{MomentEncoding}
pub use Rattle.ta_moment_tree.specs.declared.mark.NodeMark.{NodeMark}
pub use Rattle.ta_moments.proofs.Speaking.{vector_more, VectorSpeaks, speak_fresh, speak_number, event_less, nodes_begin}
pub use Rattle.ta_moments.specs.Facts.{guards_of, has_guard, is_open, is_moving, moving_rules, needing, sparing, candidates, may_be_stuck, question_of}
pub use Rattle.ta_moments.specs.Facts.{same_question, has_later, comes_after}
pub use Rattle.ta_moments.specs.Forms.{UnknownForm, plus_form, form_of_row, number_form, unknown_form, minus_form, times_form, below_zero, may_be_negative}
pub use Rattle.ta_moments.specs.Forms.{negated_form, opposite_form}
pub use Rattle.ta_moments.specs.Laws.{Speaks}
pub use Rattle.ta_moments.specs.Moments.{Known, Moment, Vector, with_fact, with_more, after_vector, before_vector, first_vector, guard_at, place_form, quiet_at}
pub use Rattle.ta_moments.specs.Moments.{Point, rows_of_event, rows_of_after, rows_of_end, end_vector, event_vector, nothing_fired, rows_at_start}
pub use Rattle.ta_moments.specs.Moments.{unknowns_at_first, at_first, early, late, Pair, below, counters_at, event_at, guards, is_beside, rows_of_first}
pub use Rattle.ta_moments.specs.Moments.{rows_of_last, rows_of_order, rows_of_same, source_at, start_form, condition_at, form_at}
pub use Rattle.ta_moments.specs.Questions.{guard_at_end, rule_at_end}
pub use Rattle.ta_moments.specs.Refutes.{Asking, answers, are_pairs, root, Exists, known_at}
pub use Rattle.ta_moments.specs.Searched.{Maker, answers_if_open, candidate_of, exists_as, moment_search, pending_of, row_of_form, start_of}
pub use Rattle.ta_moments.specs.declared.fact.Fact.{Fact}
pub use Rattle.ta_moments.specs.declared.fact.Fact.TheVariants.{Never, First, Stands, Last, Before, After, Same, Vacant, Fails}
pub use Rattle.ta_moments.specs.declared.fact.Question.{Question}
pub use Rattle.ta_moments.specs.declared.fact.Question.TheVariants.{OfGuard, OfOrder, OfStuck}
pub use Rattle.ta_rest.specs.Quiet.{loud_terms, is_silent}
pub use denote.Bor.{Bor}
pub use Rattle.ta_automaton.specs.declared.pattern.Event.{Event}
