-- The names that the proofs of this crate cite, passed on from one place. Declares nothing.
pub use Rattle.std.proofs.Common.{Bool, List, MatchOption, None, Option, Some, [], ap, append_assoc, ap₂, arith, bytes_eq, cond, drop, eqb-true, false, Ok, Err}
pub use Rattle.std.proofs.Common.{false-eqb, inl, inr, length, length-append, lit<, map, refl, rules, subst, suc, sym, take, take-append-drop, tests, true}
pub use Rattle.std.proofs.Common.{zero, ℕ, ⊎_elim, ◌++◌, ◌+◌, ◌-◌, ◌<◌, ◌^◌, ◌∙◌, ◌∷◌, ◌≡◌, ◌≤◌}
pub use Rattle.std.proofs.Math.ListN.{drop_of_length-le}
pub use Rattle.std.proofs.lemmas.Bool.Decides.{nat_tests}
pub use Rattle.std.proofs.lemmas.List.{append-nil, append_cancel_left, drop_more, nil_from_length}
pub use Rattle.std.proofs.lemmas.List.Sums.{prefix_len-le-length}
pub use Rattle.std.proofs.result.Match.{err_is}
pub use Rattle.std.specs.Char.{is_ascii_digit}
pub use Rattle.std.specs.List.{AllByRecursion, find, prefix_len}
pub use Rattle.std.specs.Prelude.{IfSome, IsTrue, ◌==◌, ◌⊎◌}
pub use Rattle.std.specs.String.{string_bytes}
pub use Rattle.ta_base.proofs.DecimalDigits.{digits_ascii, letter_no_digit}
pub use Rattle.ta_base.proofs.Each.{all_both, all_front, each_map_all, Fails, fails_after}
pub use Rattle.ta_base.proofs.Lists.{begins_word, front_is, length_of_map, short_map, tails, unlike}
pub use Rattle.ta_base.proofs.Options.{if_ok_then}
pub use Rattle.ta_base.specs.Bytes.{Avoids, BeginsByLetter, is_letter, is_word}
pub use Rattle.ta_syntax.specs.AnswerLaws.{Either, HasGrammarFault, HasTree, StopsReading}
pub use Rattle.ta_syntax.specs.Faults.{FirstGrammarFault, IsPast, IsStopped, IsWrong, SameStart, kinds, offset_of}
pub use Rattle.ta_syntax.specs.Grammar.{AreTerms, Factor, FileText, IsComparison, IsEvent, IsFactor, IsPattern, IsRule, IsSome, IsSum, IsTerm, IsTree, IsUpdate}
pub use Rattle.ta_syntax.specs.Grammar.{PlainComparison, PlainEvent, PlainLocation, PlainPattern, PlainRule, PlainTree, PlainUpdate, Term, Terms, alone, blank}
pub use Rattle.ta_syntax.specs.Grammar.{comparison_kinds, done, each, ended, event_kinds, factor_kinds, file_kinds, further, initial_kinds, led, listed}
pub use Rattle.ta_syntax.specs.Grammar.{location_kinds, more_kinds, name_kinds, named, nested, number, pattern_kinds, relation_kind, rule_kinds, sign_kind}
pub use Rattle.ta_syntax.specs.Grammar.{sum_kinds, term, term_kinds, times, update_kinds}
pub use Rattle.ta_syntax.specs.Inside.Printed.{Prints, head_kinds, sign_before}
pub use Rattle.ta_syntax.specs.FileReading.{IsSpelled, body, places}
pub use Rattle.ta_syntax.specs.Inside.RuleBodies.{event_body, pattern_body, rule_body}
pub use Rattle.ta_syntax.specs.Inside.RuleBodies.{spell_comparison, spell_location, spell_name}
pub use Rattle.ta_syntax.specs.Inside.Tokens.{BeginsByDigit, BeginsNoGap, MarkAt, NoToken, ScanStops, SkipsComment, SkipsGap, SkipsPiece, TokenFrom, TokenStops}
pub use Rattle.ta_syntax.specs.Kinds.{IsDigits, IsKind, IsKind-prop, IsNameText, is_lone, is_white, kind_bytes, mark_bytes}
pub use Rattle.ta_syntax.specs.Limits.{Counts, IsBlockPast, IsDeep, IsEventWithin, IsMany, IsPatternWithin, IsRuleWithin, IsShallow, IsTreeWithin, StaysWithin}
pub use Rattle.ta_syntax.specs.Limits.{after_mark, at_start, begin_list, counted_after, run}
pub use Rattle.ta_syntax.specs.PlainSums.{factor_depth, factor_layer, plain_factor, plain_sum, plain_term, plain_terms, sum_depth, sum_layer, term_depth}
pub use Rattle.ta_syntax.specs.PlainSums.{term_layer, terms_of}
pub use Rattle.ta_syntax.specs.PlainTrees.{plain_comparison, plain_event, plain_location, plain_name, plain_pattern, plain_rule, plain_tree, plain_update}
pub use Rattle.ta_syntax.specs.Printed.{printed, separator}
pub use Rattle.ta_syntax.specs.Stated.{IsPlaced, Offsets, at_first, comparison_stated, event_stated, factor_stated, initial_stated, leading, location_stated}
pub use Rattle.ta_syntax.specs.Stated.{more_of, name_stated, pattern_stated, rule_stated, signed_sum, sum_factor_stated, sum_layer_stated, sum_stated}
pub use Rattle.ta_syntax.specs.Stated.{sum_term_stated, term_layer_stated, tree_stated, unplaced, unplaced_sign, update_stated}
pub use Rattle.ta_syntax.specs.Tokens.{AreTokens, IsGap, IsLastGap, IsLongest, IsRefused, IsRefusedHere, IsSpace, ScansTo, begins_mark, lengthens}
pub use Rattle.ta_syntax.specs.TreeOf.{IsTextOf, IsTreeOf}
pub use Rattle.ta_syntax.specs.declared.fault.FileFault.{FileFault}
pub use Rattle.ta_syntax.specs.declared.marks.TheConstants.{KEYWORDS}
pub use Rattle.ta_syntax.specs.declared.names.Digits.{Digits}
pub use Rattle.ta_syntax.specs.declared.names.Spelled.{Spelled}
pub use Rattle.ta_syntax.specs.declared.placed.Token.{Token}
pub use Rattle.ta_syntax.specs.declared.sums.Sign.{Sign}
pub use Rattle.ta_syntax.specs.declared.sums.TreeFactor.{Named, Nested, TreeFactor}
pub use Rattle.ta_syntax.specs.declared.sums.TreeFactor.TheFolds.{fold-roll-TreeFactor, fold-roll-TreeSum, fold-roll-TreeTerm, fold_out-TreeSum}
pub use Rattle.ta_syntax.specs.declared.sums.TreeFactor.TheOpen.{TreeSum-F}
pub use Rattle.ta_syntax.specs.declared.sums.TreeFactor.TheViews.{out-TreeSum, roll-TreeSum, roll-TreeTerm, rolls-Named, rolls-Nested}
pub use Rattle.ta_syntax.specs.declared.sums.TreeSum.{TreeSum}
pub use Rattle.ta_syntax.specs.declared.sums.TreeTerm.{TreeTerm}
pub use Rattle.ta_syntax.specs.declared.tokens.Kind.{Kind}
pub use Rattle.ta_syntax.specs.declared.tokens.Mark.{Mark}
pub use Rattle.ta_syntax.specs.declared.tokens.Relation.{Relation}
pub use Rattle.ta_syntax.specs.declared.tree.Tree.{Tree}
pub use Rattle.ta_syntax.specs.declared.tree.TreeComparison.{TreeComparison}
pub use Rattle.ta_syntax.specs.declared.tree.TreeEvent.{TreeEvent}
pub use Rattle.ta_syntax.specs.declared.tree.TreeLocation.{TreeLocation}
pub use Rattle.ta_syntax.specs.declared.tree.TreePattern.{TreePattern}
pub use Rattle.ta_syntax.specs.declared.tree.TreeRule.{TreeRule}
pub use Rattle.ta_syntax.specs.declared.tree.TreeUpdate.{TreeUpdate}
pub use Rattle.ta_base.specs.declared.limits.Limits.{Limits}
pub use Rattle.ta_syntax.specs.FileGrammar.{file, a_mark, a_name, signs, relations, maybe, term_with, sum_with, nested_with, free_factor, factor, a_sum, items}
pub use Rattle.ta_syntax.specs.FileGrammar.{blocks, list_end, declared_list, location, update, comparison, rule, event, pattern, a_number}
pub use Rattle.ta_syntax.specs.Productions.{wrong, many, deep, Parsed, parse, Production, Class, code, has, only, names, numbers, one, both, repeat, first}
pub use Rattle.ta_syntax.specs.Productions.{joined, nullable, mark_code, nothing, choose, barred, stands, Stop, followed_by, turns}
pub use Rattle.ta_syntax.specs.Reading.{TookSome, TookUpTo, BeginsWithKind, IsOther, Step, Took, Halts, with_mark, IsUnexpected, NoNumber, IsUnnamed}
