-- The names that the proofs of this crate cite, passed on from one place. Declares nothing.
pub use Rattle.std.proofs.Common.{Bool, Fits, ℤ, List, None, Option, Some, [], ap, arith, bit_or, cond, false, inl, inr, length, length-append, lit<, map, not}
pub use Rattle.std.proofs.Common.{refl, reverse, rules, slice_get, subst, suc, sym, true, w32, zero, ℕ, ◌%◌, ◌&&◌, ◌*◌, ◌++◌, ◌+◌, ◌-◌, ◌<◌, ◌^◌, ◌||◌, ◌∙◌}
pub use Rattle.std.proofs.Common.{◌∷◌, ◌≡◌, ◌≤◌}
pub use Rattle.std.proofs.lemmas.Option.{slice_get-map, slice_get_read, slice_get_within}
pub use Rattle.std.proofs.lemmas.Result.{IfOk-weaker}
pub use Rattle.std.specs.List.{range_with_len}
pub use Rattle.std.specs.Prelude.{filter, if◌then◌else◌, ◌==◌, ◌↔◌}
pub use Rattle.ta_automaton.specs.Patterns.{PatternOver}
pub use Rattle.ta_automaton.specs.declared.automaton.Automaton.{Automaton}
pub use Rattle.ta_automaton.specs.declared.file.File.{File}
pub use Rattle.ta_automaton.specs.declared.pattern.Pattern.{Pattern}
pub use Rattle.ta_automaton.specs.declared.rule.Rule.{Rule}
pub use Rattle.ta_base.proofs.Bits.{has_none, left_bit, standing_bit, with_bit}
pub use Rattle.ta_base.proofs.Members.{in_at}
pub use Rattle.ta_base.proofs.Naturals.{shifted}
pub use Rattle.ta_base.proofs.Ranges.{count_few, filter_numbers_same, numbers_end, passed_length, slice_numbers}
pub use Rattle.ta_base.specs.Masks.{In, has_bit, implies, any_below}
unfoldable pub use Rattle.ta_base.specs.Masks.{all_below}
pub use Rattle.ta_rest.specs.Claims.{ProofsShowClaims, search_for}
pub use Rattle.ta_rest.specs.declared.claim.Claim.{Claim}
pub use Rattle.ta_rest.specs.declared.claim.Claim.TheVariants.{RestSafe, Safe}
pub use Rattle.ta_cert.specs.declared.line.Node.TheVariants.{Extend}
pub use Rattle.ta_encode.proofs.RowCounts.{few_rows, few_unknowns, guards_few, small_of}
pub use Rattle.ta_encode.specs.Cursors.{node_at}
pub use Rattle.ta_encode.specs.TreeCalls.{AnswerIs, IsSmall, TellsMayAsk}
pub use Rattle.ta_encode.specs.Code.{AreRowsOf, SystemAt}
pub use Rattle.ta_encode.specs.PatternSearch.{all_starts, empty_word, pattern_search}
pub use Rattle.ta_encode.specs.Search.{BeginsAtWord, Comes, Pending}
pub use Rattle.ta_encode.specs.Unknowns.{meanings}
pub use Rattle.ta_linear.specs.declared.row.System.{System}
pub use Rattle.ta_rest.specs.RestSearch.{leads_out, must_be_left, rest_search}
unfoldable pub use Rattle.ta_rest.specs.RestSearch.{end_rows, rest_rows}
pub use Rattle.ta_words.proofs.Counts.{under_none}
pub use Rattle.ta_words.specs.Words.{LegalUnder, LegalWord, has_fallen, has_rise, is_complete, is_ready, is_standing, may_rise}
unfoldable pub use Rattle.ta_words.specs.Words.{children}
pub use Rattle.ta_words.specs.declared.element.Element.{Element}
pub use Rattle.ta_words.specs.declared.element.Element.TheVariants.{Event, Fall, Rise}
