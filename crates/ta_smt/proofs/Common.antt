-- The names that the proofs of this crate cite, passed on from one place. Declares nothing.
pub use Rattle.std.proofs.Common.{Bool, Bor, FitsSigned, List, None, Option, Some, [], ap, append-nil, append_assoc, arith, below_more, codes, cond, decimal}
pub use Rattle.std.proofs.Common.{drop, eqb, eqb-true, false, get_or, inl, inr, is_some, length, length-append, lit<, map, nat_eq, negsuc, of_z, pos, refl}
pub use Rattle.std.proofs.Common.{reverse, rules, slice_get, string_bytes, subst, suc, sym, take, tests, to_z, true, unsigned_abs, zero, ℕ, ℤ, ◌&&◌, ◌*ℤ◌, ◌++◌}
pub use Rattle.std.proofs.Common.{◌+ℤ◌, ◌+◌, ◌-◌, ◌<◌, ◌^◌, ◌||◌, ◌∙◌, ◌∷◌, ◌≡◌, ◌≢◌, ◌≤ℤ◌, ◌≤◌, ◌⊎◌}
pub use Rattle.std.proofs.lemmas.Bool.{cases_lt, cases_order, false≢true}
pub use Rattle.std.proofs.lemmas.Int.{ints, to_z-of_z}
pub use Rattle.std.proofs.lemmas.Iterator.Splits.{YieldsList-from_str_split}
pub use Rattle.std.proofs.lemmas.List.{append_cancel_left, at_drop_all, at_drop_more, length-map, length-reverse, map-append, take-take}
pub use Rattle.std.proofs.lemmas.Option.{same_Some, slice_get-get_or, slice_get_within}
pub use Rattle.std.proofs.result.Match.{err_is}
pub use Rattle.std.specs.Fmt.{signed_decimal}
pub use Rattle.std.specs.Int.{w128}
pub use Rattle.std.specs.List.{All, AllByRecursion, flat_map, list_all, slice_split, range_with_len}
pub use Rattle.std.specs.Prelude.{IsTrue, MatchOption, option_and_then, option_map, slice_index, ◌↔◌}
pub use Rattle.std.specs.Str.{bytes_eq}
pub use Rattle.ta_automaton.proofs.Numbered.{of_pattern, same_pattern}
pub use Rattle.ta_automaton.specs.Numbered.{OfPattern}
pub use Rattle.ta_automaton.specs.declared.automaton.Automaton.{Automaton}
pub use Rattle.ta_automaton.specs.declared.file.File.{File}
pub use Rattle.ta_automaton.specs.declared.pattern.Pattern.{Pattern}
pub use Rattle.ta_base.proofs.DecimalDigits.{found_here, none_here, numeral_same, zero_text}
pub use Rattle.ta_base.proofs.Each.{all_at, distinct_map_at, each_append, each_back, each_front, each_push}
pub use Rattle.ta_base.proofs.Lists.{PassedTo, all_passed, append_nothing, first_byte, front_get, heads, not_empty, not_parted, one_passed, piece_written}
pub use Rattle.ta_base.proofs.Lists.{read_same, take_next}
pub use Rattle.ta_base.proofs.Naturals.{below_by, beyond_by, shifted}
pub use Rattle.ta_base.specs.Masks.{In}
pub use Rattle.ta_counter.specs.Checks.{RowFails, RowOutOfRange, RowPasses, RowsOver, RowsPass}
pub use Rattle.ta_counter.specs.Values.{Value}
pub use Rattle.ta_encode.proofs.CodeRows.{rows_count, solution_back, solution_of, unbounded}
pub use Rattle.ta_encode.specs.Code.{AreRowsOf, IsRowOf, SystemOf}
pub use Rattle.ta_encode.specs.PatternSearch.{pattern_search}
pub use Rattle.ta_encode.specs.System.{LinearRow, SolvesWord, bound_row, system_rows, word_rows}
pub use Rattle.ta_linear.specs.Numbers.{InRange}
pub use Rattle.ta_linear.specs.Rows.{AllBelow}
pub use Rattle.ta_linear.specs.Sums.{StaysInRange}
pub use Rattle.ta_linear.specs.Values.{RowHolds, Solves, point_of, terms_value, value_of}
pub use Rattle.ta_linear.specs.declared.form.Form.{Form}
pub use Rattle.ta_linear.specs.declared.row.Row.{Row}
pub use Rattle.ta_linear.specs.declared.row.System.{System}
pub use Rattle.ta_replay.proofs.Decimals.{number_avoids, number_same, stored}
pub use Rattle.ta_replay.proofs.ListSteps.{lines_text-append}
pub use Rattle.ta_replay.specs.RunText.{lines_text}
pub use Rattle.ta_smt.specs.Admit.{AdmitFaultOf, Admits, AdmitsAreExact, AdmittedRunOutOfRange, AskedWord, FirstBadRow, IsCompleteWord, IsIncomplete}
pub use Rattle.ta_smt.specs.Admit.{SystemAsked, SystemStays, WrongCount, asked}
pub use Rattle.ta_smt.specs.Export.{DenotesSolutions, IsNaturalSolution, constant, multiple, natural_claim, on_side, part, row_claim, script_of, summands}
pub use Rattle.ta_smt.specs.Export.{summed_term, system_text}
pub use Rattle.ta_smt.specs.Inside.Checking.{BadRow, CheckFault, IsChecked, IsRunOfValues, PassesCheck, RowFault, RowStops, RunFault, WordFault}
pub use Rattle.ta_smt.specs.Inside.Elements.{those_elements, with_element}
pub use Rattle.ta_smt.specs.Inside.Leads.{led_text}
pub use Rattle.ta_smt.specs.Inside.Reading.{LineFault, NextValue}
pub use Rattle.ta_smt.specs.Named.{IsLegalWord, IsNamed, IsWholeWordOf, IsWordOf, IsWordText, NoChild, NoWhole, SolvesAsked, Spelling, WholeFaultOf}
pub use Rattle.ta_smt.specs.Named.{WholeWordsAreExact, WordFaultOf, WordsAreExact, spelling}
pub use Rattle.ta_smt.specs.Script.{AtLeast, Lone, Numeral, Product, Script, ScriptFits, Sum, Summand, SummandFits, Term, TermFits, Unknown, assert_line}
pub use Rattle.ta_smt.specs.Script.{declare_line, script_text, summand_text, summands_text, term_text, unknown_text}
pub use Rattle.ta_smt.specs.Spelling.{FirstStranger}
pub use Rattle.ta_smt.specs.Values.{FirstBadLine, IsNoNumber, IsUnfinished, IsValuesText, values_text}
pub use Rattle.ta_smt.specs.WordText.{each_element, element_of, elements_in, elements_of}
unfoldable pub use Rattle.ta_smt.specs.WordText.{number_up_to}
pub use Rattle.ta_smt.specs.declared.fault.AdmitFault.{AdmitFault}
pub use Rattle.ta_smt.specs.declared.side.Side.{Side}
pub use Rattle.ta_smt.specs.declared.side.Side.TheVariants.{Left, Right}
pub use Rattle.ta_words.proofs.Tasks.{of_task, to_task}
pub use Rattle.ta_words.specs.Words.{LegalWord, children, is_complete}
pub use Rattle.ta_words.specs.declared.element.Element.{Element}
