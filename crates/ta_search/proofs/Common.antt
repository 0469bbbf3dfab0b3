-- The names that the proofs of this crate cite, passed on from one place. Declares nothing.
pub use Rattle.std.proofs.Common.{Bool, IfOk, List, None, Option, Result, Some, [], ap, append-nil, append_assoc, arith, codes, decimal, drop, eqb, false}
pub use Rattle.std.proofs.Common.{get_or, inl, inr, length, length-append, lit<, map, nat_lt, not, refl, slice_get, string_bytes, subst, suc, sym, take, true}
pub use Rattle.std.proofs.Common.{zero, ℕ, ℤ, ◌%◌, ◌&&◌, ◌*◌, ◌++◌, ◌+◌, ◌/◌, ◌<◌, ◌^◌, ◌∙◌, ◌∷◌, ◌≡◌, ◌≢◌, ◌≤◌, ◌||◌, ◌⊎◌}
pub use Rattle.std.proofs.lemmas.Bool.{and_parts, cases_Bool, cases_eq, cases_lt, false≢true, or_parts}
pub use Rattle.std.proofs.lemmas.List.{append_cancel_left, drop_all, drop_more, get_or-append-add, get_or-map, get_or_append_left, length-map, map-append}
pub use Rattle.std.proofs.lemmas.List.{take_all, take_more}
pub use Rattle.std.proofs.lemmas.Nat.{div-add-mod', mul-le}
pub use Rattle.std.proofs.lemmas.Option.{get_or_from_slice_get, same_Some, slice_get_past, slice_get_read, slice_get_within}
pub use Rattle.std.proofs.lemmas.Slice.Eq.{bytes_eq-Decides}
pub use Rattle.std.specs.List.{AllByRecursion, list_all, list_any, range_with_len}
pub use Rattle.std.specs.Prelude.{IsTrue, option_map}
pub use Rattle.std.specs.Str.{IsUtf8, bytes_eq}
pub use Rattle.serde_json.proofs.Views.{view-Array}
pub use Rattle.serde_json.specs.Read.{of_members}
pub use Rattle.serde_json.specs.View.{items_of, view}
pub use Rattle.serde_json.specs.Written.{has_float, items_have_float, members_outline}
pub use Rattle.ta_automaton.specs.declared.file.File.{File}
pub use Rattle.ta_automaton.specs.declared.pattern.Pattern.{Pattern}
pub use Rattle.ta_base.proofs.ByteLists.{differs, words_ascii}
pub use Rattle.ta_base.proofs.Each.{each_all, each_append, each_at, each_back, each_map, each_push, each_weaker, word_avoids, word_tells}
pub use Rattle.ta_base.proofs.Lists.{avoids-append, first_byte, heads, named_ended, not_parted, some_at}
pub use Rattle.ta_base.proofs.Naturals.{at_most, quotient_below, rest_below}
pub use Rattle.ta_base.proofs.Options.{below_if, none_behind}
pub use Rattle.ta_base.proofs.Ranges.{In-numbers, each_number, numbers_get_or}
pub use Rattle.ta_base.specs.Bytes.{Avoids, IsWord, SplitAt, is_letter, is_word}
pub use Rattle.ta_base.specs.Lists.{Distinct}
pub use Rattle.ta_base.specs.Masks.{In}
pub use Rattle.ta_check.specs.Certificate.{Certificate}
pub use Rattle.ta_report.specs.Json.{text_lines, texts_data, unknown_sample_data, unknown_verdict_data, verdict_member}
pub use Rattle.ta_report.specs.declared.verdict.Verdict.{Verdict}
pub use Rattle.ta_report.specs.declared.verdict.Verdict.TheVariants.{Overflow, Safe, Spent, Unsafe}
pub use Rattle.ta_search.specs.Filling.{filled_body, filled_text}
pub use Rattle.ta_search.specs.Holes.{AreHoles, AreTooMany, HoleInRange, IsSpelledHole, head_text, hole_line, hole_lines, hole_names, is_among, unknown_place}
pub use Rattle.ta_search.specs.Holes.{value_count, vector_count, word_at}
pub use Rattle.ta_search.specs.Inside.Beside.{AtHand, IsPlaced}
pub use Rattle.ta_search.specs.Inside.Lines.{AddsHole, Declares, HoleRefused, IsHoleName, LineRefused}
pub use Rattle.ta_search.specs.Inside.Trying.{IsOfPattern, vector_at}
pub use Rattle.ta_search.specs.Inside.Objects.{choice_list}
pub use Rattle.ta_search.specs.Outcomes.{HasVerdicts, IsFirstNotSafe, IsRefusedFilling, IsSafe, IsSampled, IsUnknown, IsUnsafe, OutcomeHolds, is_safe}
pub use Rattle.ta_search.specs.Outcomes.{is_unsampled, safe_before}
pub use Rattle.ta_search.specs.SearchJson.{SearchIsRead, choice_data, found_word, hole_data, outcome_data, search_data, tried_data, tries_data, unsafe_data}
pub use Rattle.ta_search.specs.SearchText.{sample_words, tried_text, tried_texts, verdict_words}
pub use Rattle.ta_search.specs.Searching.{AreTried, IsFound, IsSearchEnd, IsTried, LastIsFound, SearchesAreDetermined, is_found}
pub use Rattle.ta_search.specs.TemplateFaults.{BeginsWithHoles, FaultOf, FirstTemplateFault, HasHole, IsOtherLine}
pub use Rattle.ta_search.specs.Vectors.{Ascend, IsBefore, IsChoice, VectorsAreChoices, each_before, hole_values, vectors}
pub use Rattle.ta_search.specs.declared.fault.TemplateFault.{TemplateFault}
pub use Rattle.ta_search.specs.declared.outcome.Outcome.{Outcome}
pub use Rattle.ta_search.specs.declared.outcome.SearchEnd.{SearchEnd}
pub use Rattle.ta_search.specs.declared.outcome.Tried.{Tried}
pub use Rattle.ta_search.specs.declared.template.Hole.{Hole}
pub use Rattle.ta_search.specs.declared.template.Template.{Template}
pub use Rattle.ta_syntax.specs.declared.fault.FileFault.{FileFault}
pub use Rattle.ta_verdict.specs.Certificates.{CertificateOf, CertificatesAreDetermined, SafeOne, safe_numbers, safe_ones}
pub use Rattle.ta_verdict.specs.Verdicts.{AreVerdicts, IsSample, SamplesAreDetermined, VerdictHolds, VerdictsAreDetermined, VerdictsHold, is_unknown}
pub use Rattle.ta_search.specs.declared.terms.Terms.{Terms}
