-- The names that the proofs of this crate cite, passed on from one place. Declares nothing.
pub use Rattle.std.proofs.Common.{Bool, FitsSigned, IsBitSet, List, None, Option, Some, [], ap, append-nil, append_assoc, arith, cond, drop, drop-cons, eqb}
pub use Rattle.std.proofs.Common.{false, get_or, inl, inr, length, length-append, map, not, pos, refl, replicate, reverse, rules, slice_get, subst, suc, sym}
pub use Rattle.std.proofs.Common.{take, true, unsigned_abs, zero, ℕ, ℤ, ◌*ℤ◌, ◌++◌, ◌+◌, ◌<ℤ◌, ◌<◌, ◌^◌, ◌∙◌, ◌∷◌, ◌≡◌, ◌≢◌, ◌≤ℤ◌, ◌≤◌}
pub use Rattle.std.proofs.lemmas.Bool.{and_parts, cases_Bool, cases_lt, eqb-true, false≢true, not-true, not_from_false, or_parts, or_right, true≢false}
pub use Rattle.std.proofs.lemmas.Bool.Decides.{eqb_tells, nat_tests}
pub use Rattle.std.proofs.lemmas.Int.{ints, to_z-of_z}
pub use Rattle.std.proofs.lemmas.List.{drop-map, drop_all, drop_at, length-map, length-reverse, length-take, map-append, reverse-reverse, take-map, take_all}
pub use Rattle.std.proofs.lemmas.List.{take_more}
pub use Rattle.std.proofs.lemmas.List.FromFn.{length-range_with_len}
pub use Rattle.std.proofs.lemmas.Option.{get_or_from_slice_get, slice_get_within}
pub use Rattle.std.proofs.lemmas.Result.{IfOk-weaker, IfOk-from_err}
pub use Rattle.std.specs.Int.{w128}
pub use Rattle.std.specs.List.{AllByRecursion, range_with_len}
pub use Rattle.std.specs.Prelude.{filter, slice_index, slice_index_or, int_lt, nat_lt, ◌||◌}
pub use Rattle.ta_automaton.proofs.Thresholds.{after_earlier, pattern_within}
pub use Rattle.ta_automaton.specs.Runs.{Config, HappensAt, InScope}
pub use Rattle.ta_automaton.specs.declared.automaton.Automaton.{Automaton}
pub use Rattle.ta_automaton.specs.declared.file.File.{File}
pub use Rattle.ta_automaton.specs.declared.pattern.Pattern.{Pattern}
pub use Rattle.ta_automaton.specs.declared.rule.Rule.{Rule}
pub use Rattle.ta_base.proofs.Bits.{all_below-at, bit_set, bit_true, any_below-at, any_below-next, any_below-none}
pub use Rattle.ta_base.proofs.Each.{each_append, each_from, each_from_in, each_push, known_naturals, each_at}
pub use Rattle.ta_base.proofs.Lists.{filter_false, filter_true, get_map, get_parts, last_item, map_same, natural_at, naturals_back, only_item, range_more}
pub use Rattle.ta_base.proofs.Lists.{reverse_onto, slice_get_left, some_at}
pub use Rattle.ta_base.proofs.Members.{In-filter, in_at, in_filter, place_of, In-left, In-right}
pub use Rattle.ta_base.proofs.Naturals.{count_most, other_number, same_number, below_by, beyond_by}
pub use Rattle.ta_base.proofs.Ranges.{item_at, map_from, no_item, number_here}
pub use Rattle.ta_base.specs.Masks.{In, all_below, has_bit, implies, any_below}
unfoldable pub use Rattle.ta_base.specs.Sums.{times_in, total}
pub use Rattle.ta_base.proofs.Times.{times-append}
pub use Rattle.ta_encode.proofs.Moments.{AllHold-left}
pub use Rattle.ta_encode.proofs.Singles.{NumberBelow, numbers_below, one_single, only_single, singles_hold}
pub use Rattle.ta_encode.proofs.Values.{AllHold-right, allowed_may, event_ready, unfolded, unfolded-may}
pub use Rattle.ta_encode.specs.Laws.{FiresBefore, SolvedWord, WordFires, position_in, start_values, steps_of}
pub use Rattle.ta_encode.specs.System.{AllHold, fall_rows}
unfoldable pub use Rattle.ta_encode.specs.System.{sum_of_products, word_rows}
pub use Rattle.ta_encode.specs.Unknowns.{counts_after, place_coefficient, singles_after, start_locations}
unfoldable pub use Rattle.ta_encode.specs.Unknowns.{meanings, start_meanings}
pub use Rattle.ta_encode.specs.declared.encoded.Solution.{Solution}
pub use Rattle.ta_encode.specs.declared.meaning.Meaning.{Meaning}
pub use Rattle.ta_encode.specs.declared.meaning.Meaning.TheVariants.{Count, Parameter, Single, Start}
pub use Rattle.ta_replay.proofs.PieceLines.{are_short, no_steps, show}
pub use Rattle.ta_replay.specs.Pieces.{HasFewSteps, MarksInOrder, OncePerRule, Piece, PiecesHappen, last_lines, piece_lines, pieces_lines, pieces_marks}
pub use Rattle.ta_replay.specs.Pieces.{step_line, steps_count, steps_until}
pub use Rattle.ta_replay.specs.Shows.{ShowsPattern, unit_steps, Shows}
pub use Rattle.ta_replay.specs.declared.run.Run.{Run}
pub use Rattle.ta_replay.specs.declared.run.RunLine.TheVariants.{Mark, Step}
pub use Rattle.ta_scope.proofs.Arranging.{arranged_within}
pub use Rattle.ta_scope.specs.Arranged.{AreRuleCounts, ArrangedOf, count_at}
pub use Rattle.ta_witness.specs.Inside.Making.{AddsPiece, AddsPieceEnd, AddsPieces, AreNaturals, AreValues, EachMayEnd, IsMadeFrom, IsSingle, MayEnd, RunOf}
pub use Rattle.ta_witness.specs.Values.{same_meaning}
unfoldable pub use Rattle.ta_witness.specs.Values.{unknown_value}
pub use Rattle.ta_witness.specs.Witness.{EndsPiece, IsSolution, PieceOf, PiecesOf, WitnessOf, WitnessesAreDetermined, WitnessesShow, counts_before}
pub use Rattle.ta_witness.specs.Witness.{solution_value}
pub use Rattle.ta_words.proofs.Counts.{in_children, legal_length, legal_weight}
pub use Rattle.ta_words.specs.Words.{LegalWord, children, follows, has_fallen, has_rise, may_fire}
unfoldable pub use Rattle.ta_words.specs.Words.{allowed_rules, has_event}
pub use Rattle.ta_words.specs.declared.element.Element.{Element}
pub use Rattle.ta_words.specs.declared.element.Element.TheVariants.{Event, Fall, Rise}
pub use Rattle.ta_base.proofs.Totals.{total-within}
pub use Rattle.ta_counter.specs.Values.{Value}
pub use Rattle.ta_linear.specs.Terms.{IsNormal}
pub use Rattle.ta_linear.specs.Values.{point_of, value_of}
pub use Rattle.ta_linear.specs.declared.form.Form.{Form}
pub use Rattle.ta_moment_tree.specs.Draft.{IsDraft}
pub use Rattle.ta_moment_tree.specs.Forms.{vector_of}
pub use Rattle.ta_moment_tree.specs.declared.encoding.MomentEncoding.{MomentEncoding}
pub use Rattle.ta_moments.proofs.Common.{◌-◌, Asking, Node, Point, Pair, event_vector, moving_rules, known_at, end_vector, of_rest, In-numbers, in_numbers}
pub use Rattle.ta_moments.proofs.Common.{value_at, ◌⊎◌, At, In-map, slice_get-get_or}
pub use Rattle.ta_moments.proofs.Happening.{comparisons_same}
pub use Rattle.ta_moments.proofs.Knowing.{event_moment}
pub use Rattle.ta_moments.proofs.Nodes.{all_positions}
pub use Rattle.ta_moments.proofs.Resting.{only_last}
pub use Rattle.ta_moments.proofs.Segments.{sum_grows, no_firings, sorted_is_chain, Emptied}
pub use Rattle.ta_moments.proofs.Speaking.{spoken}
pub use Rattle.ta_moments.proofs.Wholes.{whole_settled, read_of}
pub use Rattle.ta_moments.specs.Chains.{Counts, Chain, NoneFewer, Rising, firings_in, Comparable, Stands, value_after}
pub use Rattle.ta_moments.specs.Nodes.{counts_of}
pub use Rattle.ta_moments.specs.Whole.{WholeNode, form_value}
pub use Rattle.ta_replay.proofs.Lines.{unit_steps-append}
pub use Rattle.ta_replay.proofs.OneRun.{run_same}
pub use Rattle.ta_replay.specs.Fits.{LineFits, Fits}
pub use Rattle.ta_replay.specs.declared.run.RunLine.{RunLine}
pub use Rattle.ta_rest.specs.Endings.{ComesLast}
pub use Rattle.ta_rest.specs.Rest.{ComeAfterEarlier}
pub use Rattle.ta_scope.proofs.ArrangedLaws.{FromCounts, from_counts}
pub use Rattle.ta_scope.proofs.ArrangedOnce.{arranged_once}
pub use Rattle.ta_scope.specs.Legal.{arranged_steps, StepsWithin}
pub use Rattle.ta_witness.specs.Given.{EncodesSomeWhole, EncodesWhole, RunOfEncoding, MomentStays, VectorStays}
pub use Rattle.ta_witness.specs.Inside.StopLines.{AddsStops, gap, gaps, marked, AddsStop, last_counts, StopFits}
pub use Rattle.ta_witness.specs.Inside.Stops.{form_values, is_below, moving_counts, MomentWithin, shape, Shape, mark_at, moment_shapes, Places}
pub use Rattle.ta_witness.specs.MomentRuns.{WholeOf, start_value, MomentRunOf}
pub use Rattle.ta_witness.specs.Stops.{PiecesTo, firings_to, listed, event_stop, stops_of, no_counts, node_stops, moment_stops}
