-- The names that the proofs of this crate cite, passed on from one place. Declares nothing.
pub use Rattle.ta_replay.specs.declared.run.RunLine.TheVariants.{Mark, Step}
pub use Rattle.ta_replay.specs.declared.run.RunLine.{RunLine}
pub use Rattle.ta_replay.specs.declared.run.Run.{Run}
pub use Rattle.ta_replay.specs.declared.fault.RunFault.TheVariants.{Count, Guard, Memory, MissingEvent, NotEmpty, Order, Overflow, Processes, Resilience, Start}
pub use Rattle.ta_replay.specs.declared.fault.RunFault.{RunFault}
pub use Rattle.ta_replay.specs.TextFaults.{FormAt, FormFor, IsFront, IsMalformedRun, IsMisformed, IsMisnamed, IsNamedLine, IsTrailingRun, IsUnfinishedRun}
pub use Rattle.ta_replay.specs.TextFaults.{IsValued, LinesGoOn, TextFault}
pub use Rattle.ta_replay.specs.Shows.{IsMarked, MarkedOnce, MarksAt, ShownRunsOccur, Shows, ShowsPattern, factor_of, factors_sum, marks_count, steps_before}
pub use Rattle.ta_replay.specs.Shows.{unit_steps}
pub use Rattle.ta_replay.specs.RunText.{IsRunText, Slot, head_line, line_of, lines_of, lines_text, name_at, named_line, parameter_slot, parameter_slots}
pub use Rattle.ta_replay.specs.RunText.{run_lines, run_text, slots, start_slot, start_slots, value_lines, valued_line}
pub use Rattle.ta_replay.specs.Replays.{ConditionStays, EmptyAt, FirstFilled, InOrder, LinePasses, LineStays, LineTakes, MarkPasses, MaskedStay, MayTakeLines}
pub use Rattle.ta_replay.specs.Replays.{NoneFilled, NumbersStay, ReplayStays, StepStays, Takes, ValuesAfter, line_change}
pub use Rattle.ta_replay.specs.ReplayFaults.{ConfigRefuses, FilledAt, FirstRefusal, LacksMark, LineRefuses, LineStops, MarkRefuses, RefusedThough, ReplayFault}
pub use Rattle.ta_replay.specs.ReplayFaults.{StartRefuses, StartStops, StepFills, StepRefuses, run_line_number}
pub use Rattle.ta_replay.specs.Pieces.{OncePerRule, Piece, PiecesAreShort, PiecesShow, last_lines, piece_lines, pieces_lines, pieces_marks, rule_of, step_line}
pub use Rattle.ta_replay.specs.Pieces.{steps_count, steps_until}
pub use Rattle.ta_replay.specs.Inside.Reading.StepRefused.{Refused, Trailing, Unfinished}
pub use Rattle.ta_replay.specs.Inside.Reading.{HeadRead, IsNameOf, IsStatement, NoNameOf, NoValue, OtherValue, StatementRefused, StepRead, StepRefused}
pub use Rattle.ta_replay.specs.Inside.Reading.{StepsBegun, StepsFault, StepsRead, StepsStopped, ValueRead, ValueRefused, ValuesBegun, ValuesFault, ValuesRead}
pub use Rattle.ta_replay.specs.Inside.Reading.{ValuesStopped}
pub use Rattle.ta_replay.specs.Inside.Following.{FirstUnmarked, FitsPattern, Following, MarksAfter, Path, PatternOf, StartsWith}
pub use Rattle.ta_replay.specs.Fits.{Fits, LineFits}
pub use Rattle.ta_pattern.specs.Empty.{KeepsEmpty}
pub use Rattle.ta_pattern.proofs.Agreeing.{counter_there, holds_there, keeps_empty}
pub use Rattle.ta_linear.specs.declared.row.Row.{Row}
pub use Rattle.ta_linear.specs.Values.{point_of}
pub use Rattle.ta_counter.specs.declared.config.Config.{Config}
pub use Rattle.ta_counter.specs.Values.{Value}
pub use Rattle.ta_counter.specs.Steps.{Fires, StepFails, StepIsTaken, before_last}
pub use Rattle.ta_counter.specs.Starts.{MayStart, StartFails, StartsAt}
pub use Rattle.ta_counter.specs.Guards.{BadGuard, MaskedPass, MaskedStop}
pub use Rattle.ta_counter.specs.Configs.{IsOf, config_of, model_of, naturals, places_of}
pub use Rattle.ta_counter.specs.Checks.{AllPass, ConditionPasses, ConditionStopsAt, Over, RowFails, RowOutOfRange, RowPasses, RowsOver, RowsPass, RowsStop}
pub use Rattle.ta_counter.specs.Checks.{StopsAt}
pub use Rattle.ta_counter.proofs.Stepping.{no_steps, taken_fires}
pub use Rattle.ta_counter.proofs.Starting.{no_start, starts_natural}
pub use Rattle.ta_counter.proofs.Rows.{fails_from, holds_from}
pub use Rattle.ta_counter.proofs.Models.{model_at, model_whole, naturals_at, same_model}
pub use Rattle.ta_base.specs.Lists.{Distinct, EachFrom}
pub use Rattle.ta_base.specs.Bytes.{Avoids, IsWord, SplitAt}
pub use Rattle.ta_base.proofs.Sums.{sum-ones}
pub use Rattle.ta_base.proofs.Ranges.{each_below, rises_at, rises_length, rises_length_added, rises_within}
unfoldable pub use Rattle.ta_base.proofs.Naturals.{sum_below}
pub use Rattle.ta_base.proofs.Naturals.{capped, neither_below}
pub use Rattle.ta_base.proofs.Lists.{avoids-append, avoids_known, differ, first_byte, front_get, get_front, get_or-pos, get_parts, not_parted, read_same}
pub use Rattle.ta_base.proofs.Lists.{same_parts, slice_get_left, slice_get_right, some_at, take_next}
pub use Rattle.ta_base.proofs.Integers.{abs_natural, natural_of, pos_same}
pub use Rattle.ta_base.proofs.Each.{each_append, each_at, each_back, each_from_at, each_front, each_get_or, each_map, each_push, each_take, last_only}
pub use Rattle.ta_base.proofs.Each.{word_avoids, each_weaker}
pub use Rattle.ta_base.proofs.Bits.{bit_below, no_bit}
unfoldable pub use Rattle.ta_base.specs.Sums.{total}
pub use Rattle.ta_base.proofs.Totals.{total-append}
pub use Rattle.ta_automaton.specs.declared.rule.Rule.{Rule}
pub use Rattle.ta_automaton.specs.declared.pattern.Pattern.{Pattern}
pub use Rattle.ta_automaton.specs.declared.pattern.Event.{Event}
pub use Rattle.ta_automaton.specs.declared.file.File.{File}
pub use Rattle.ta_automaton.specs.declared.condition.Condition.{Condition}
pub use Rattle.ta_automaton.specs.declared.condition.Comparison.{Comparison}
pub use Rattle.ta_automaton.specs.declared.automaton.Automaton.{Automaton}
pub use Rattle.ta_automaton.specs.Shape.{RuleWithin, name_of}
pub use Rattle.ta_automaton.specs.Runs.{At, HappensAt, Holds, HoldsAt, Initial, Steps, value_at}
pub use Rattle.ta_automaton.specs.Places.{location_place, rule_change}
pub use Rattle.ta_automaton.specs.Patterns.{EventWithin, PatternWithin, event_name, pattern_name}
pub use Rattle.ta_automaton.specs.Names.{Name}
pub use Rattle.ta_automaton.proofs.Trails.{run_length}
pub use Rattle.ta_automaton.proofs.Thresholds.{pattern_within}
pub use Rattle.ta_automaton.proofs.Moves.{fits_after, move_at, place_cases, value_at-location, value_at-parameter, value_at-shared}
pub use Rattle.ta_automaton.proofs.Fire.{Whole, fits_whole}
pub use Rattle.std.specs.Prelude.{option_map}
pub use Rattle.std.specs.List.{AllByRecursion}
pub use Rattle.std.specs.Int.{w128}
pub use Rattle.std.specs.Fmt.{signed_decimal}
pub use Rattle.std.proofs.result.Match.{err_is}
pub use Rattle.std.proofs.lemmas.Option.{get_or_from_slice_get, same_Some, slice_get-get_or, slice_get-map, slice_get_past, slice_get_read, slice_get_within}
pub use Rattle.std.proofs.lemmas.List.{append_cancel_left, at_drop_all, ext_get_or, get_or-map, get_or-take, get_or_default, get_or_past, length-map}
pub use Rattle.std.proofs.lemmas.List.{length-replicate, length_push, map_push, same_from_push}
pub use Rattle.std.proofs.lemmas.Int.{ints, to_z-of_z, to_z_pos}
pub use Rattle.std.proofs.lemmas.Bool.Decides.{eqb_tells, nat_tests}
pub use Rattle.std.proofs.lemmas.Bool.{cases_lt, cases_order, false≢true}
pub use Rattle.std.proofs.Math.Seq.{take-append_seam, take-length}
pub use Rattle.std.proofs.Common.{Bool, FitsSigned, IsBitSet, IsTrue, List, None, Ok, Option, Some, [], ap, append-nil, append_assoc, arith, below_more, codes}
pub use Rattle.std.proofs.Common.{cond, decimal, drop, eqb, false, get_or, inl, inr, length, length-append, length-drop, length-take-le, lit<, lit≤, map, min}
pub use Rattle.std.proofs.Common.{negsuc, of_z, pos, refl, replicate, rules, slice_get, string_bytes, subst, suc, sym, take, take-append-drop, to_z}
pub use Rattle.std.proofs.Common.{unsigned_abs, zero, ℕ, ℤ, ⊎_elim, ◌*ℤ◌, ◌*◌, ◌++◌, ◌+ℤ◌, ◌+◌, ◌-◌, ◌<◌, ◌^◌, ◌↔◌, ◌∙◌, ◌∷◌, ◌≡◌, ◌≢◌, ◌≤ℤ◌, ◌≤◌, ◌⊎◌}
