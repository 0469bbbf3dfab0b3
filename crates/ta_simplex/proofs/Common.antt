-- The names that the proofs of this crate cite, passed on from one place. Declares nothing.
pub use Rattle.std.proofs.Common.{Bool, Global, List, None, Option, Some, Vec, [], ap, arith, cond, drop, eq-eqb, eqb, false, get_or, get_or-set_other}
pub use Rattle.std.proofs.Common.{get_or-set_same, inl, inr, length, map, min, nat_lt, neg_ℤ, negsuc, pos, refl, reverse, rules, set, slice_get, subst, suc}
pub use Rattle.std.proofs.Common.{sym, take, true, vec_len, zero, ℕ, ℤ, ⊎_elim, ◌*ℤ◌, ◌*◌, ◌++◌, ◌+ℤ◌, ◌+◌, ◌-ℤ◌, ◌-◌, ◌<ℤ◌, ◌<◌, ◌^◌, ◌||◌, ◌∙◌, ◌∷◌, ◌≡◌, ◌≢◌}
pub use Rattle.std.proofs.Common.{◌≤ℤ◌, ◌≤◌, ◌⊎◌}
pub use Rattle.std.proofs.Math.IntN.{*ℤ-zero, *ℤ_comm}
pub use Rattle.std.proofs.Math.Nat.{zero-div}
pub use Rattle.std.proofs.lemmas.Bool.{cases_Bool, cases_eq, cases_lt, cases_order, le-ltb, lt-ltb}
pub use Rattle.std.proofs.lemmas.Bool.Decides.{eqb_tells, nat_tests}
pub use Rattle.std.proofs.lemmas.Int.{by_lt_z, ints, to_z-of_z}
pub use Rattle.std.proofs.lemmas.List.{append-nil, append_assoc, get_or-append_right, get_or-map, get_or_append_left, get_or_push, length-append, length-map}
pub use Rattle.std.proofs.lemmas.List.{length-replicate, length-set, length-take-le, map-append, map-set, reverse-append, set-append_left, take-append-drop}
pub use Rattle.std.proofs.lemmas.List.{take-map, with_items_is}
pub use Rattle.std.proofs.lemmas.List.FromFn.{length-range_with_len}
pub use Rattle.std.specs.List.{range_with_len}
pub use Rattle.std.specs.Prelude.{All, IsSomeAnd, int_div, option_to_list, remove, replicate, slice_index, unsigned_abs}
pub use Rattle.ta_base.proofs.Booleans.{both_ways}
pub use Rattle.ta_base.proofs.Integers.{at_least_one, expand, ge-zero_of_mul, lt-zero_of_mul, mul-ge-zero, mul-le-zero, mul-le-zero_turned, mul-lt-zero}
pub use Rattle.ta_base.proofs.Integers.{minus_fits}
pub use Rattle.ta_base.proofs.Integers.{positive_prop, quotient_whole, single, single-at, single-elsewhere, single-le, times_zero, unsigned_abs-neg}
pub use Rattle.ta_base.proofs.Integers.{zero_from_bits, zero_minus, zero_or_not}
pub use Rattle.ta_base.proofs.Lists.{get-set_other, get-set_same, get_end, map_same, range_split, slice_get_before, fewer_alike, zeros_past}
pub use Rattle.ta_base.proofs.Naturals.{pigeon, switches}
pub use Rattle.ta_base.proofs.Sums.{range_sum-front, range_sum-same, sum-add, sum-single, sum-split, sum-sub, sum-upto, sum-zero}
unfoldable pub use Rattle.ta_base.proofs.Sums.{range_sum, sum_between}
pub use Rattle.ta_dense.proofs.ExtendFacts.{length-carried}
pub use Rattle.ta_dense.proofs.Keeps.{IsDictionary-pivoted, basic_at, basic_elsewhere, column_count, merged_basic, non_basic_at, row_count}
pub use Rattle.ta_dense.proofs.RowFacts.{record_same}
pub use Rattle.ta_dense.proofs.SlackDictionary.{IsDictionary-slack, extended-slack, extended-unknown, length-slack_rows, slacks_follow, terms_value-same}
pub use Rattle.ta_dense.proofs.SlackRows.{slack_tableau-is, tableau_same}
pub use Rattle.ta_dense.specs.Entering.{Enters, NoneEnters}
pub use Rattle.ta_dense.specs.Extending.{FirstLeaving, MayBegin, extended, new_rows, raised, widened}
pub use Rattle.ta_dense.specs.Kept.{AreKept, KeptPivot, StayInRange, after_pivot, carried, chosen_row, kept_at, no_pivot, pivot_in}
pub use Rattle.ta_dense.specs.Laws.{DictionaryOf}
pub use Rattle.ta_dense.specs.Merge.{AllMergeInRange, CombinesInRange, FirstOverflow, FirstRefused, IsProper, MergesByInRange, MergesInRange, OthersMergeBelow}
pub use Rattle.ta_dense.specs.Merge.{RowsMergeBelow}
pub use Rattle.ta_dense.specs.Slack.{IsAssignment, SlacksFollow, coefficients, slack_at, slack_row_of, slack_rows, variables}
unfoldable pub use Rattle.ta_dense.specs.Slack.{slack_tableau}
pub use Rattle.ta_dense.specs.Tableau.{Tableau, TableauRow, basic_of, cell_of, combine, divided, divisor_of, factor_divisor, gcd_with, merged_at, merged_by}
pub use Rattle.ta_dense.specs.Tableau.{no_row, non_basic_of, pivoted, reduced, row_of, turned}
unfoldable pub use Rattle.ta_dense.specs.Tableau.{merged}
pub use Rattle.ta_dense.specs.Valid.{EquationHolds, IsBasis, IsDictionary, dot}
pub use Rattle.ta_linear.proofs.TermLemmas.{IsNormal-higher, IsNormal-le, IsNormal-push, coefficient-above, coefficient-append}
pub use Rattle.ta_linear.specs.Leaf.{AreMultipliers, LeafOf, coefficient_in, constant_in}
unfoldable pub use Rattle.ta_linear.specs.Leaf.{weighted}
pub use Rattle.ta_linear.specs.Numbers.{InRange}
pub use Rattle.ta_linear.specs.Rows.{AllBelow}
pub use Rattle.ta_linear.specs.SameNumbers.{RowsAlike, SameNumbers, SameRow}
pub use Rattle.ta_linear.specs.Terms.{IsNormal, coefficient}
pub use Rattle.ta_linear.specs.Values.{RowHolds, Solves, terms_value, value_of}
pub use Rattle.ta_linear.specs.declared.row.Row.{Row}
pub use Rattle.ta_linear.specs.declared.row.System.{System}
pub use Rattle.ta_simplex.specs.Answers.{HasEnd, RunEnds, RunOverflows}
pub use Rattle.ta_simplex.specs.FullBranch.{AreStanding, IsFullBranch, LastFits, SharesFullRows, StandsOn}
pub use Rattle.ta_simplex.specs.Follows.{AddsPivots, BeginsSystem, Follows, MakesPivot, tableau_after}
pub use Rattle.ta_simplex.specs.Inside.Slots.{AreNatural, FillSlots, ListsSlots, put, slot}
pub use Rattle.ta_simplex.specs.Laws.{EndsAreDetermined, MultipliersAreFew}
pub use Rattle.ta_simplex.specs.LeastIndex.{IsCount, LeastStep, Leaves, NoneLeaves, OverflowsAt, Reached, RuleEnds, Stuck}
pub use Rattle.ta_simplex.specs.Refuted.{AreLeafMultipliers, GivesMultipliers, IsRefuted}
pub use Rattle.ta_simplex.specs.Vertex.{AreZeros, GivesValues, IsVertex, MeetRows, ValueIs}
pub use Rattle.ta_simplex.specs.declared.fraction.Fraction.{Fraction}
pub use mir.Syntax.{w128}
pub use mir.Val.{SFits, of_z}
pub use Rattle.std.specs.Int.{w16}
pub use Rattle.ta_dense.proofs.Unique.{unique_row}
pub use Rattle.ta_revised.proofs.RevisedLaws.{revised_laws}
pub use Rattle.ta_revised.specs.Bounds.{IsBound}
pub use Rattle.ta_revised.specs.Chosen.{IsRowOf, LeavingIs}
pub use Rattle.ta_revised.specs.Laws.{RevisedLaws}
pub use Rattle.ta_revised.specs.Modest.{AreModestRows, IsModest, IsModestRow}
pub use Rattle.ta_revised.specs.Narrow.{narrow_view}
pub use Rattle.ta_revised.specs.Negative.{FirstHold}
pub use Rattle.ta_revised.specs.Revised.{grown}
pub use Rattle.ta_revised.specs.UnknownRows.{unit_row, AreAfter}
pub use Rattle.ta_revised.specs.Valid.{IsRevised}
pub use Rattle.ta_simplex.specs.RevisedRuns.{IsUnderWay, RunsModestly, AreRevisedValues, IsStuckAt}
