-- The names that the proofs of this crate cite, passed on from one place. Declares nothing.
pub use Rattle.std.proofs.Common.{IsBitSet, List, None, Option, Some, [], ap, append-nil, append_assoc, arith, drop, get_or, inl, inr, length, length-append}
pub use Rattle.std.proofs.Common.{map, min, negsuc, pos, refl, replicate, rules, set, slice_get, subst, suc, sym, take, take-append-drop, unsigned_abs, zero, ℕ}
pub use Rattle.std.proofs.Common.{ℤ, ◌*ℤ◌, ◌++◌, ◌+ℤ◌, ◌+◌, ◌-ℤ◌, ◌-◌, ◌<◌, ◌^◌, ◌∙◌, ◌∷◌, ◌≡◌, ◌≢◌, ◌≤ℤ◌, ◌≤◌, ◌⊎◌}
pub use Rattle.std.proofs.Math.IntN.{zero-*ℤ}
pub use Rattle.std.proofs.lemmas.Bool.{cases_lt, cases_order, false≢true}
pub use Rattle.std.proofs.lemmas.Bool.Decides.{eqb_tells}
pub use Rattle.std.proofs.lemmas.Int.{ints}
pub use Rattle.std.proofs.lemmas.List.{ext_get_or, get_or-set_other, get_or-set_same, get_or_past, length-map, length-replicate, length-set, map_push, take_all}
pub use Rattle.std.proofs.lemmas.List.{take_more}
pub use Rattle.std.proofs.lemmas.Option.{same_Some, slice_get-get_or, slice_get_within}
pub use Rattle.std.proofs.lemmas.Result.{on_ok_weaker}
pub use Rattle.std.proofs.result.Match.{err_is}
pub use Rattle.std.specs.List.{AllByRecursion, range_with_len}
pub use Rattle.ta_automaton.proofs.Moves.{move_at, shared_change-shared}
pub use Rattle.ta_automaton.proofs.Onward.{EachRule, change_of, later_after}
pub use Rattle.ta_automaton.proofs.Thresholds.{Later, fall_back, falls, pattern_within, rule_within, stays_true}
pub use Rattle.ta_automaton.proofs.Trails.{run_length}
pub use Rattle.ta_automaton.specs.Places.{Whole, location_place, rule_change, shared_change}
pub use Rattle.ta_automaton.specs.Runs.{At, Config, Holds, InScope, Steps, value_at}
pub use Rattle.ta_automaton.specs.declared.automaton.Automaton.{Automaton}
pub use Rattle.ta_automaton.specs.declared.file.File.{File}
pub use Rattle.ta_automaton.specs.declared.pattern.Pattern.{Pattern}
pub use Rattle.ta_automaton.specs.declared.rule.Rule.{Rule}
pub use Rattle.ta_base.proofs.Bits.{at_set, bit_below, set_at}
pub use Rattle.ta_base.proofs.Each.{each_append, each_at, each_back, each_copies, each_front, each_get_or, each_take}
pub use Rattle.ta_base.proofs.Integers.{abs_natural, distributes_right, minus_times, mul-ge-zero, natural_or_not, next_value, one_times, replicate_zeros}
pub use Rattle.ta_base.proofs.Lists.{cut_at, get_of_drop, read_same, replicate_cut, some_at, split_last, take_next}
pub use Rattle.ta_base.proofs.Naturals.{at_most, capped, neither_below, two_bits}
pub use Rattle.ta_base.proofs.Ranges.{at_number}
pub use Rattle.ta_base.proofs.Totals.{one_if-natural, one_if-ne, total-append, total-replicate}
pub use Rattle.ta_base.specs.Sums.{one_if}
unfoldable pub use Rattle.ta_base.specs.Sums.{times_in, total}
pub use Rattle.ta_compress.specs.Faults.{CompressFaultOf, Compressible, GuardsOutOfRangeAt, GuardsOutOfRangeFirstIn, GuardsOutOfRangeIn, GuardsStayed}
pub use Rattle.ta_compress.specs.Faults.{IsShortRun, IsSmallReplay, ReplaysInRange}
pub use Rattle.ta_compress.specs.Inside.Drafts.{Advances, Closes, CountsStep, DraftAt, DraftIsReady, DraftStops, GuardsOutOfRangeWithin, HasFallen}
pub use Rattle.ta_compress.specs.Inside.Drafts.{IsFirstDraft, LineKeeps, LineMay, MayRepeat, MayStep, OneMore, RepeatStops, RepeatsRule, Room, SameGuards}
pub use Rattle.ta_compress.specs.Inside.Drafts.{repeated, zeros}
pub use Rattle.ta_compress.specs.Pieces.{AreCut, CompressOf, CutOf, CutPiece, DropsAt, IsPiece, IsShortened, Still, SwitchesAt, counts_of, lines_in, units}
pub use Rattle.ta_compress.specs.Tales.{LinesTell, SameTale, StepsLead}
pub use Rattle.ta_compress.specs.Units.{Drops, EndsAtLastMark, SomeDiffers, Switches, unfolded, unit, value_after}
pub use Rattle.ta_compress.specs.declared.draft.Draft.{Draft}
pub use Rattle.ta_compress.specs.declared.fault.CompressFault.{CompressFault}
pub use Rattle.ta_compress.specs.declared.fault.CompressFault.TheVariants.{Memory, Replay, TooManySteps}
pub use Rattle.ta_counter.proofs.Models.{model_at, model_whole, same_model}
pub use Rattle.ta_counter.specs.Configs.{IsOf, config_of, naturals}
pub use Rattle.ta_counter.specs.Holding.{GuardsAre, GuardsStay, HoldsThere, MaskAt}
pub use Rattle.ta_counter.specs.Starts.{StartFails, StartsAt}
pub use Rattle.ta_counter.specs.Values.{Value}
pub use Rattle.ta_counter.specs.declared.holding.Guards.{Guards}
pub use Rattle.ta_linear.specs.Numbers.{InRange}
pub use Rattle.ta_linear.specs.Values.{RowHolds, point_of, value_of}
pub use Rattle.ta_linear.specs.declared.row.Row.{Row}
pub use Rattle.ta_pattern.specs.Empty.{KeepsEmpty}
pub use Rattle.ta_replay.proofs.Lines.{factors_sum-next, unit_steps-append}
pub use Rattle.ta_replay.proofs.Showing.{first_whole, lines-change, shown_first}
pub use Rattle.ta_replay.specs.Fits.{Fits, LineFits}
pub use Rattle.ta_replay.specs.Inside.Following.{FitsPattern}
pub use Rattle.ta_replay.specs.Pieces.{OncePerRule, last_lines, piece_lines, pieces_lines, step_line, steps_count}
pub use Rattle.ta_replay.specs.ReplayFaults.{FirstRefusal, ReplayFault, run_line_number}
pub use Rattle.ta_replay.specs.Replays.{NumbersStay, ValuesAfter, line_change}
pub use Rattle.ta_replay.specs.Shows.{IsFirstConfig, MarksAt, Shows, ShowsPattern, factor_of, factors_sum, marks_count, steps_before, unit_steps}
pub use Rattle.ta_replay.specs.declared.fault.RunFault.{RunFault}
pub use Rattle.ta_replay.specs.declared.run.Run.{Run}
pub use Rattle.ta_replay.specs.declared.run.RunLine.{RunLine}
pub use Rattle.ta_replay.specs.declared.run.RunLine.TheVariants.{Mark, Step}
pub use Rattle.ta_scope.specs.Arranged.{AreRuleCounts, ArrangedOf, count_at}
pub use Rattle.ta_scope.specs.Legal.{GuardsHold, LeadsToEnd, StepsWithin, fall_mask, rise_mask, value_at_end}
pub use mathlib.Core.Path.{fun_ext}
pub use mir.Syntax.{w128}
pub use mir.Val.{of_z, to_z}
