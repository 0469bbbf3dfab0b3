-- The names that the proofs of this crate cite, passed on from one place. Declares nothing.
pub use Rattle.std.proofs.Common.{Bool, List, None, Option, Some, [], ap, append-nil, append_assoc, arith, codes, decimal, drop, eqb, false, get_or}
pub use Rattle.std.proofs.Common.{unsigned_abs, cond, negsuc, FitsSigned, not}
pub use Rattle.std.proofs.Common.{if◌then◌else◌, inl, inr, length, length-append, lit<, lit≤, map, option_map, pos, refl, rules, slice_get, subst, suc, sym}
pub use Rattle.std.proofs.Common.{take, true, zero, ℕ, ℤ, ◌++◌, ◌+◌, ◌-◌, ◌<◌, ◌^◌, ◌||◌, ◌∙◌, ◌∷◌, ◌≡◌, ◌≤◌, ◌⊎◌}
pub use Rattle.std.proofs.lemmas.Bool.{eq-eqb, eqb-true}
pub use Rattle.std.proofs.lemmas.List.{append_cancel_left, append_cancel_right, length-map, map-append, take-append-le, take_all, take_more}
pub use Rattle.std.specs.Fmt.{signed_decimal}
pub use Rattle.std.specs.Iterator.Adapters.{zip_first, zip_second}
pub use Rattle.std.specs.List.{AllByRecursion, slice_split, take-map, range_with_len}
pub use Rattle.std.specs.Prelude.{option_and_then, ◌==◌, IsTrue, filter, flat_map}
pub use Rattle.std.specs.Slice.Iter.{iter_rest}
pub use Rattle.std.specs.String.{string_bytes}
pub use Rattle.serde_json.proofs.Views.{view-Array}
pub use Rattle.serde_json.specs.Data.{array}
pub use Rattle.serde_json.specs.Read.{of_items, of_json, of_members, read}
pub use Rattle.serde_json.specs.View.{items_of, items_view, view}
pub use Rattle.serde_json.specs.Written.{compact_text, has_float, items_have_float, items_outline, members_outline, outline}
pub use Rattle.ta_automaton.specs.Patterns.{PatternWithin, pattern_name}
pub use Rattle.ta_automaton.specs.declared.file.File.{File}
pub use Rattle.ta_automaton.specs.declared.pattern.Pattern.{Pattern}
pub use Rattle.ta_base.proofs.DecimalDigits.{between, number_clear, number_other, number_same, decimal_avoids}
pub use Rattle.ta_base.proofs.Each.{distinct_map_at, each_at, each_front, word_avoids, each_get_or}
pub use Rattle.ta_base.proofs.Lists.{apart_third, avoids-append, avoids_known, behind_line, differ, either_clear, first_byte, heads_apart, split_line}
pub use Rattle.ta_base.proofs.Lists.{piece_written, tails, heads}
pub use Rattle.ta_base.specs.Bytes.{Avoids, is_word}
pub use Rattle.ta_counter.specs.Values.{Value}
pub use Rattle.ta_replay.proofs.Decimals.{number_avoids}
pub use Rattle.ta_replay.proofs.OneRun.{run_clear}
pub use Rattle.ta_replay.proofs.RunFronts.{each_run_line, run_front}
pub use Rattle.ta_replay.specs.RunText.{lines_text, named_line, run_lines, run_text, valued_line}
pub use Rattle.ta_report.specs.Check.{is_proved, proofs_text, proofs_told, word_told, given_line}
pub use Rattle.ta_report.specs.Json.{JsonIsDistinct, JsonIsRead, JsonRuns, JsonSafe, JsonSays, JsonUnsafe, digits_data, json_text, report_data, sample_data}
pub use Rattle.ta_report.specs.Json.{text_lines, texts_data, unknown_sample_data, unknown_verdict_data, value_data, values_data, verdict_data, verdict_member}
pub use Rattle.ta_report.specs.Json.{verdicts_data}
pub use Rattle.ta_report.specs.Picked.{entry_of, first_picked, listed, picked}
pub use Rattle.ta_report.specs.declared.pick.Pick.{Pick}
pub use Rattle.ta_report.specs.declared.pick.Pick.TheVariants.{All, One}
pub use Rattle.ta_report.specs.Report.{PlaceFits, ReportsAreDistinct, SampleFits, VerdictFits, overflow_text, place_text, rest_word, run_part, safe_word}
pub use Rattle.ta_report.specs.Report.{sample_line, sample_text, spent_text, told_line, told_lines, told_text, unsafe_word, values_text, verdict_line}
pub use Rattle.ta_report.specs.Report.{verdict_lines, verdict_text, word_before}
pub use Rattle.ta_report.specs.declared.verdict.ReportKind.{ReportKind}
pub use Rattle.ta_report.specs.declared.verdict.ReportKind.TheVariants.{Leaf, Pivot, Run}
pub use Rattle.ta_report.specs.declared.verdict.ReportSample.{ReportSample}
pub use Rattle.ta_report.specs.declared.verdict.Verdict.{Verdict}
pub use Rattle.ta_report.specs.declared.verdict.Verdict.TheVariants.{Overflow, Safe, Spent, Unsafe}
pub use Rattle.serde_json.specs.Find.{get, get_item}
pub use Rattle.std.proofs.lemmas.Bool.Decides.{eqb_tells}
pub use Rattle.std.proofs.lemmas.Int.{to_z-of_z}
pub use Rattle.std.proofs.lemmas.Option.{same_Some}
pub use Rattle.std.proofs.lemmas.Result.{on_ok_weaker}
pub use Rattle.std.specs.Int.{w128}
pub use Rattle.ta_automaton.specs.Names.{Name}
pub use Rattle.ta_automaton.specs.declared.automaton.Automaton.{Automaton}
pub use Rattle.ta_automaton.specs.declared.pattern.Event.{Event}
pub use Rattle.ta_base.specs.Lists.{Distinct}
pub use Rattle.ta_base.specs.Masks.{has_bit, In}
pub use Rattle.ta_base.specs.declared.limits.TheConstants.{LARGEST_NUMBER}
pub use Rattle.ta_moments.specs.Facts.{is_moving}
pub use Rattle.ta_report.specs.CheckJson.{proofs_data, proofs_json, proved_word, told_data, given_members, proofs_member, proofs_of}
pub use Rattle.ta_report.specs.Printed.{HasLine, LineAt, told_of}
pub use Rattle.ta_report.specs.PrintedRuns.{unsafe_words}
pub use Rattle.ta_report.specs.Show.{each, mask_text, name_text, name_at, location_text, sum_text, row_text, condition_text, update_text, rule_text}
pub use Rattle.ta_report.specs.Show.{amount_text, many, mask_number, place_name, first_sign, first_text, next_sign, term_text, constant_text, summands_text}
pub use Rattle.ta_report.specs.Show.{numbered}
pub use Rattle.ta_report.specs.Telling.{TellsSafe, TellsUnsafe, report_of}
pub use Rattle.ta_report.specs.Unknowns.{fired_name, fired_names, start_name, unknown_names, pattern_unknowns_text}
