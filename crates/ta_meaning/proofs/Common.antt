-- The names that the proofs of this crate cite, passed on from one place. Declares nothing.
pub use Rattle.ta_base.specs.declared.limits.Limits.{Limits}
pub use Rattle.ta_syntax.specs.declared.tree.TreeUpdate.{TreeUpdate}
pub use Rattle.ta_syntax.specs.declared.tree.TreeRule.{TreeRule}
pub use Rattle.ta_syntax.specs.declared.tree.TreePattern.{TreePattern}
pub use Rattle.ta_syntax.specs.declared.tree.TreeLocation.{TreeLocation}
pub use Rattle.ta_syntax.specs.declared.tree.TreeEvent.{TreeEvent}
pub use Rattle.ta_syntax.specs.declared.tree.TreeComparison.{TreeComparison}
pub use Rattle.ta_syntax.specs.declared.tree.Tree.{Tree}
pub use Rattle.ta_syntax.specs.declared.tokens.Relation.{Relation}
pub use Rattle.ta_syntax.specs.declared.tokens.Mark.{Mark}
pub use Rattle.ta_syntax.specs.declared.tokens.Kind.{Kind}
pub use Rattle.ta_syntax.specs.declared.sums.TreeTerm.{TreeTerm}
pub use Rattle.ta_syntax.specs.declared.sums.TreeSum.{TreeSum}
pub use Rattle.ta_syntax.specs.declared.sums.TreeFactor.TheViews.{out-TreeSum, out-TreeTerm, roll-TreeFactor, roll-TreeSum, roll-TreeTerm}
pub use Rattle.ta_syntax.specs.declared.sums.TreeFactor.TheOpen.{Named, Nested, TreeFactor-F, TreeSum-F, TreeTerm-F}
pub use Rattle.ta_syntax.specs.declared.sums.TreeFactor.TheFolds.{fold-TreeFactor, fold-TreeTerm, fold-roll-TreeFactor, fold-roll-TreeSum, fold-roll-TreeTerm}
pub use Rattle.ta_syntax.specs.declared.sums.TreeFactor.TheFolds.{fold_out-TreeSum, fold_out-TreeTerm, ind-TreeFactor, ind-TreeSum, map-TreeFactor, map-TreeSum}
pub use Rattle.ta_syntax.specs.declared.sums.TreeFactor.TheFolds.{map-TreeTerm}
pub use Rattle.ta_syntax.specs.declared.sums.TreeFactor.{TreeFactor}
pub use Rattle.ta_syntax.specs.declared.sums.Sign.{Sign}
pub use Rattle.ta_syntax.specs.declared.placed.Token.{Token}
pub use Rattle.ta_syntax.specs.declared.names.Spelled.{Spelled}
pub use Rattle.ta_syntax.specs.declared.names.Digits.{Digits}
pub use Rattle.ta_syntax.specs.declared.fault.FileFault.{FileFault}
pub use Rattle.ta_syntax.specs.TreeOf.{IsTextOf, IsTreeOf}
pub use Rattle.ta_syntax.specs.Tokens.{AreTokens, IsLastGap, IsRefused, ScansTo}
pub use Rattle.ta_syntax.specs.Stated.{IsPlaced, Offsets, at_first, comparison_stated, event_stated, factor_stated, initial_stated, leading, location_stated}
pub use Rattle.ta_syntax.specs.Stated.{more_of, name_stated, pattern_stated, rule_stated, signed_sum, sum_factor_stated, sum_layer_stated, sum_stated}
pub use Rattle.ta_syntax.specs.Stated.{sum_term_stated, term_layer_stated, tree_stated, unplaced, unplaced_sign, update_stated}
pub use Rattle.ta_syntax.specs.PlainTrees.{plain_comparison, plain_event, plain_location, plain_name, plain_pattern, plain_rule, plain_tree, plain_update}
pub use Rattle.ta_syntax.specs.PlainSums.{factor_layer, plain_factor, plain_sum, plain_term, plain_terms, sum_layer, term_layer, term_of, terms_of}
pub use Rattle.ta_syntax.specs.Limits.{Counts, IsDeep, IsMany, StaysWithin, at_start, counted_after, run}
pub use Rattle.ta_syntax.specs.Kinds.{IsDigits, IsDigits-prop, IsNameText, IsNameText-prop, kind_bytes}
pub use Rattle.ta_syntax.specs.Grammar.{AreTerms, Factor, FileText, IsFactor, IsSum, IsTerm, PlainComparison, PlainEvent, PlainLocation, PlainPattern}
pub use Rattle.ta_syntax.specs.Grammar.{PlainRule, PlainTree, PlainUpdate, Term, Terms, alone, blank, comparison_kinds, done, each, ended, event_kinds}
pub use Rattle.ta_syntax.specs.Grammar.{factor_kinds, file_kinds, further, initial_kinds, led, listed, location_kinds, more_kinds, name_kinds, named, nested}
pub use Rattle.ta_syntax.specs.Grammar.{number, pattern_kinds, relation_kind, rule_kinds, sum_kinds, term, term_kinds, times, update_kinds}
pub use Rattle.ta_syntax.proofs.UniqueTokens.{digits_all, refused_no_tokens, refused_unique, tokens_unique}
pub use Rattle.ta_meaning.specs.declared.places.Places.{Places}
pub use Rattle.ta_meaning.specs.declared.guards.GuardNumber.{GuardNumber}
pub use Rattle.ta_meaning.specs.declared.guards.GuardMasks.{GuardMasks}
pub use Rattle.ta_meaning.specs.declared.guards.GuardList.{GuardList}
pub use Rattle.ta_meaning.specs.Sums.{factor_coefficient, factor_uses, has_name, number_of, signed, sum_coefficient, sum_constant, sum_uses, term_coefficient}
pub use Rattle.ta_meaning.specs.Sums.{term_constant, term_uses}
pub use Rattle.ta_meaning.specs.SumParts.{FormWithin, IsDifference}
pub use Rattle.ta_meaning.specs.Seen.{PlacedTerm, SeenFactor, SeenTerm, SeenTerms, factor_seen, names_of_factor, names_of_term, names_of_terms}
pub use Rattle.ta_meaning.specs.Seen.{numbers_of_factor, numbers_of_term, numbers_of_terms, placed, plain_of_factor, plain_of_term, plain_of_terms, seen_alone}
pub use Rattle.ta_meaning.specs.Seen.{seen_blank, seen_list, seen_more, seen_named, seen_nested, seen_none, seen_number, seen_sum, seen_times, sum_seen}
pub use Rattle.ta_meaning.specs.Seen.{term_seen, terms_of_factor, terms_of_term, terms_of_terms}
pub use Rattle.ta_meaning.specs.Reading.{Legal, file_fault}
pub use Rattle.ta_meaning.specs.Offsets.{IsOfMeaning, IsTokenAt, fault_offset}
pub use Rattle.ta_meaning.specs.Names.{Names, all_names, guard_names, location_name, names_of, plain_names}
pub use Rattle.ta_meaning.specs.Meaning.{Means, MeansAutomaton, MeansEvent, MeansEvents, MeansPattern, MeansRule, MeansTree, MeansUpdates, guards_of}
pub use Rattle.ta_meaning.specs.Meaning.{initial_from}
pub use Rattle.ta_meaning.specs.Linear.{Difference, FormOf, Linear, MeansComparison, MeansCondition, RowOf, UsesNames, any_large, comparison_rows}
pub use Rattle.ta_meaning.specs.Linear.{differences_by, is_large, is_large_linear, linear_difference, linear_sum}
pub use Rattle.ta_meaning.specs.Inside.Updating.{IsNewVariable, UpdatesRead, names_at, variable_faults}
pub use Rattle.ta_meaning.specs.Inside.SumParts.{IsSignedSum, PartOf, RowOfDifference, any_large_row, any_large_term, form_differences, is_large_form}
pub use Rattle.ta_meaning.specs.Inside.SumParts.{judged_factor, judged_term, linear_factor, number_or}
pub use Rattle.ta_meaning.specs.Inside.RuleReading.{RuleRead, RuleSoFar}
pub use Rattle.ta_meaning.specs.Inside.Resolved.{ResolvedComparison, ResolvedCondition, ResolvedForm, ResolvedGuards, ResolvedPatterns, ResolvedRules}
pub use Rattle.ta_meaning.specs.Inside.Resolved.{first_places, kinds_of}
pub use Rattle.ta_meaning.specs.Inside.PatternParts.{DeclaredNext, ResolvedEvent, ResolvedEvents, ResolvedPattern}
pub use Rattle.ta_meaning.specs.Inside.Numbering.{AmongGuards, GuardNumbered, GuardsKept, GuardsNumbered, Has, HasSameTerms, IsGuardNumber, NumberFits}
pub use Rattle.ta_meaning.specs.Inside.Numbering.{RowAnswers, SameAt, WithBit, WithNumber, any_shared, guards_so_far, is_no_guard, linear_of}
pub use Rattle.ta_meaning.specs.Inside.Listed.{ListedMask}
pub use Rattle.ta_meaning.specs.Guards.{Guards, NamesGuards, falls, guards_after, has_row, is_negative, is_no_threshold, is_one_more, is_past_limit}
pub use Rattle.ta_meaning.specs.Guards.{is_positive, no_guards, rows_of, same_row, with_guard, with_guards, with_row}
pub use Rattle.ta_meaning.specs.FirstFault.{FirstFault, OfMeaning, OfScope, OfText}
pub use Rattle.ta_meaning.specs.Faults.{Answers, First, FirstOrMemory, Judges, Scope, WithFaults, any_initial, comparison_faults, condition_faults, counted}
pub use Rattle.ta_meaning.specs.Faults.{declarations_faults, declared_faults, digits_faults, else_, event_faults, events_faults, factor_judged, guard_faults}
pub use Rattle.ta_meaning.specs.Faults.{guards_faults, guards_then, guards_with, in_conditions, in_guards, in_parameters, is_long, judged_sum, judged_terms}
pub use Rattle.ta_meaning.specs.Faults.{linear_term, listed_faults, location_spelled, meaning_faults, names_faults, number_faults, pattern_faults}
pub use Rattle.ta_meaning.specs.Faults.{patterns_faults, processes_faults, rule_faults, rules_faults, sum_faults, sum_judged, term_judged, updates_faults}
pub use Rattle.ta_meaning.specs.Faults.{used_faults, where_}
pub use Rattle.ta_linear.specs.declared.row.Row.{Row}
pub use Rattle.ta_linear.specs.declared.form.Form.{Form}
pub use Rattle.ta_linear.specs.Terms.{IsNormal, IsNormal-prop, coefficient}
pub use Rattle.ta_linear.specs.Numbers.{InRange}
pub use Rattle.ta_linear.specs.Forms.{IsMultiple, MultipleOutOfRange}
pub use Rattle.ta_linear.proofs.TermLemmas.{IsNormal-le, coefficient-above, coefficient-below, negative_stays}
pub use Rattle.ta_linear.proofs.NormalTerms.{coefficient-first, coefficient-other, normal_narrow, normal_unique}
pub use Rattle.ta_base.specs.Masks.{In}
pub use Rattle.ta_base.specs.Lists.{Distinct, EachFrom, Rises, Pairwise}
pub use Rattle.ta_base.proofs.Ranges.{rises-wider, at_number}
pub use Rattle.ta_base.proofs.Members.{In-left, In-map, In-right, contains_at, in-here}
pub use Rattle.ta_base.proofs.Lists.{at_map, at_map_both, at_map_none, cut_in_three, empty-not, get_map, get_of_drop, get_of_map, get_push, heads, next_item}
pub use Rattle.ta_base.proofs.Lists.{empty_before, empty_both, empty_left, empty_right, slice_range-end}
pub use Rattle.ta_base.proofs.Lists.{number_gives, place-along, push-split, slice_get-drop, slice_get-take, slice_get-take_within, slice_get_left, tails}
pub use Rattle.ta_base.proofs.Lists.{within_part, get_end, get_front}
pub use Rattle.ta_base.proofs.Integers.{add_moved, cond_small, less_alike, minus_alike, minus_one_times, more_within, negative_false}
pub use Rattle.ta_base.proofs.Integers.{one_times, less_small}
pub use Rattle.ta_base.proofs.Each.{distinct_at, distinct_drop, distinct_left, distinct_push, distinct_push_apart, distinct_right, distinct_take}
pub use Rattle.ta_base.proofs.Each.{distinct_unmap, each_append, each_at, each_from-push, each_map_of, each_push, each_weaker, map_each}
pub use Rattle.ta_base.proofs.ByteLists.{bytes_eq_turned, distinct_names}
pub use Rattle.ta_base.proofs.Booleans.{both_or_neither, and_false}
pub use Rattle.ta_base.proofs.Bits.{at_set, mask-one, mask_below, no_bit, set_at, one_bit_more}
pub use Rattle.ta_automaton.specs.declared.rule.Rule.{Rule}
pub use Rattle.ta_automaton.specs.declared.pattern.Pattern.{Pattern}
pub use Rattle.ta_automaton.specs.declared.pattern.Event.{Event}
pub use Rattle.ta_automaton.specs.declared.file.File.{File}
pub use Rattle.ta_automaton.specs.declared.condition.Condition.{Condition}
pub use Rattle.ta_automaton.specs.declared.condition.Comparison.{Comparison}
pub use Rattle.ta_automaton.specs.declared.automaton.Automaton.{Automaton}
pub use Rattle.ta_automaton.specs.Shape.{AutomatonShape, AutomatonShape-prop, RuleWithin, Update, name_of, variable_of}
pub use Rattle.ta_automaton.specs.Runs.{InScope}
pub use Rattle.ta_automaton.specs.Patterns.{EventWithin, PatternWithin, PatternsShape, PatternsShape-prop, event_name, pattern_name}
pub use Rattle.ta_automaton.specs.Names.{Name}
pub use Rattle.ta_automaton.specs.Forms.{FallRow, FormOver, RiseRow, RowOver}
pub use Rattle.std.specs.Vec.Iter.{into_iter_items, into_iter_len}
pub use Rattle.std.specs.String.{string_bytes, string_eq}
pub use Rattle.std.specs.Str.{bytes_eq}
pub use Rattle.std.specs.Prelude.{MatchResult, flat_map, slice_range}
pub use Rattle.std.specs.List.{AllByRecursion, list_any, range_with_len}
pub use Rattle.std.specs.Int.{w128, w64}
pub use Rattle.std.specs.Global.{Vec}
pub use Rattle.std.proofs.result.Match.{err_is}
pub use Rattle.std.proofs.lemmas.Slice.Eq.{bytes_eq-Decides, slice_eq-Decides}
pub use Rattle.std.proofs.lemmas.Option.{get_or_from_slice_get, same_Some, slice_get-get_or, slice_get_read, slice_get_within}
pub use Rattle.std.proofs.lemmas.Nat.Bits.{bit_at_set_other, bit_at_set_same}
pub use Rattle.std.proofs.lemmas.List.Recursion.{or_at, same_from_clauses}
pub use Rattle.std.proofs.lemmas.List.FromFn.{length-map-range_with_len}
pub use Rattle.std.proofs.lemmas.List.Elements.{Contains-append_left, Contains-append_right, Contains-push, Contains-push_cases, All-contains}
pub use Rattle.std.proofs.lemmas.List.Elements.{All-from_recursion}
pub use Rattle.std.proofs.lemmas.List.{append-nil, drop_more, ext_get_or, get_or-drop, get_or_past, length-drop, length-map, length-take-le, length_push}
pub use Rattle.std.proofs.lemmas.List.{map-append, map_push, nil_from_length, take-append-drop, take_all}
pub use Rattle.std.proofs.lemmas.Iterator.Search.{any_from_yields_List}
pub use Rattle.std.proofs.lemmas.Iterator.{YieldsList-from_slice}
pub use Rattle.std.proofs.lemmas.Int.{ints, to_z-of_z, unsigned_abs-mul}
pub use Rattle.std.proofs.lemmas.Bool.Decides.{Decides-and, Decides-eqb, Decides-int_eq, Decides-like, Decides-ltb, Decides-or, eqb_tells, nat_tests}
pub use Rattle.std.proofs.lemmas.Bool.Decides.{same_from_decides}
pub use Rattle.std.proofs.lemmas.Bool.{and_cases, and_from, and_left, and_parts, and_right, cases_Bool, cases_eq, cases_lt, cond-false, cond-true, eqb-false}
pub use Rattle.std.proofs.lemmas.Bool.{eqb-true, false_from_ne_true, false≢true, le-leb, le-ltb, leb-false, leb-true, lt-ltb, ltb-false, not-false, not-true}
pub use Rattle.std.proofs.lemmas.Bool.{not_from_false, not_from_true, or_cases, or_from, or_left, or_parts, or_right, true≢false}
pub use Rattle.std.proofs.Math.Seq.{take-add, take-length}
pub use Rattle.std.proofs.Math.Nat.{mod-eq_of_lt, mul-le-mul}
pub use Rattle.std.proofs.Math.ListN.{drop_of_length-le}
pub use Rattle.std.proofs.Common.{Bool, Contains, Decides, Err, FitsSigned, Global, IsBitSet, IsTrue, List, None, Ok, Option, Result, Some, String, [], ap}
pub use Rattle.std.proofs.Common.{append_assoc, arith, below_more, bit_or, cond, drop, eqb, false, get_or, if◌then◌else◌, inl, inr, int_eq, is_some, leb}
pub use Rattle.std.proofs.Common.{length, length-append, ltb, map, negsuc, not, pos, refl, rules, slice_get, subst, suc, sym, take, tests, true, unsigned_abs}
pub use Rattle.std.proofs.Common.{w16, zero, ℕ, ℤ, ⊎_elim, ◌%◌, ◌&&◌, ◌*ℤ◌, ◌*◌, ◌++◌, ◌+ℤ◌, ◌+◌, ◌-ℤ◌, ◌-◌, ◌<◌, ◌^◌, ◌||◌, ◌∙◌, ◌∷◌, ◌≡◌, ◌≢◌, ◌≤ℤ◌}
pub use Rattle.std.proofs.Common.{◌≤◌, ◌⊎◌}
pub use Rattle.ta_base.proofs.Pairwise.{paired_length, pairwise_push}
