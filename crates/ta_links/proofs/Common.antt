-- The names that the proofs of this crate cite, passed on from one place. Declares nothing.
pub use Rattle.std.proofs.Common.{IfNone, IfSome, List, None, Option, Some, [], ap, arith, below_more, drop, drop_of_length-le, get_or, inl, inr, length, map}
pub use Rattle.std.proofs.Common.{neg_ℤ, negsuc, pos, refl, replicate, rules, set, subst, suc, sym, take, zero, ℕ, ℤ, ◌*ℤ◌, ◌++◌, ◌+ℤ◌, ◌+◌, ◌-ℤ◌, ◌-◌, ◌<ℤ◌}
pub use Rattle.std.proofs.Common.{◌<◌, ◌^◌, ◌∙◌, ◌∷◌, ◌≡◌, ◌≢◌, ◌≤◌, ◌⊎◌}
pub use Rattle.std.proofs.lemmas.Bool.{cases_eq, cases_lt}
pub use Rattle.std.proofs.lemmas.Bool.Decides.{eqb_tells}
pub use Rattle.std.proofs.lemmas.Int.{ints, quot_fits, to_z-of_z, to_z_pos}
pub use Rattle.std.proofs.lemmas.List.{drop_more, ext_get_or, get_or-append_right, get_or-drop, get_or-map, get_or-replicate, get_or-set_other, get_or-set_same}
pub use Rattle.std.proofs.lemmas.List.{get_or-take, get_or_append_left, get_or_at, get_or_past, get_or_read, length-append, length-drop, length-map}
pub use Rattle.std.proofs.lemmas.List.{length-replicate, length-set, length-take, map-append, map-id}
pub use Rattle.std.proofs.lemmas.List.FromFn.{get_or-map-range_with_len, length-map-range_with_len, length-range_with_len}
pub use Rattle.std.proofs.lemmas.Option.{none-some, same_Some}
pub use Rattle.std.specs.List.{range_with_len}
pub use Rattle.std.specs.Prelude.{MatchOption, int_div, unsigned_abs}
pub use Rattle.ta_base.proofs.Integers.{div-one, minus_one_negates, negated, pos_out, product_positive, unsigned_abs-neg, zero_from_bits, zero_minus}
pub use Rattle.ta_base.proofs.Integers.{zero_or_not}
pub use Rattle.ta_base.proofs.Lists.{range_more}
pub use Rattle.ta_base.proofs.Naturals.{at_or_not, some_or_not}
pub use Rattle.ta_base.proofs.Options.{none_or_some, some_below}
pub use Rattle.ta_dense.proofs.ExtendFacts.{names_long}
pub use Rattle.ta_dense.proofs.ProperFacts.{Factored, IsProper-merged, IsProper-turned, factored, in_range-div, merged-zero, merged_from}
pub use Rattle.ta_dense.proofs.ReduceFacts.{divisor_positive}
pub use Rattle.ta_dense.proofs.RowFacts.{record_same}
pub use Rattle.ta_dense.specs.Entering.{Enters, NoneEnters}
pub use Rattle.ta_dense.specs.Extending.{FirstLeaving, extended, new_rows, raised, widened}
pub use Rattle.ta_dense.specs.Kept.{IsKept, KeptPivot, StayInRange, after_pivot, carried, chosen_row, kept_at, no_pivot}
pub use Rattle.ta_dense.specs.Merge.{CombinesInRange, FirstOtherRefused, FirstRefused, IsProper, MergesByInRange, MergesInRange, OthersMergeBelow}
pub use Rattle.ta_dense.specs.Merge.{RowsMergeBelow}
pub use Rattle.ta_dense.specs.Slack.{coefficients, slack_row_of, slack_rows}
pub use Rattle.ta_dense.specs.Tableau.{Tableau, TableauRow, basic_of, cell_of, combine, divided, divisor_of, factor_divisor, gcd_with, merged, merged_by}
pub use Rattle.ta_dense.specs.Tableau.{no_row, pivoted, pivoted_rows, reduced, row_of, turned}
pub use Rattle.ta_linear.proofs.GcdLemmas.{gcd_of_is}
pub use Rattle.ta_linear.proofs.NormalTerms.{coefficient-first, coefficient-other}
pub use Rattle.ta_linear.proofs.TermLemmas.{IsNormal-higher, IsNormal-le, IsNormal-push, coefficient-above, coefficient-append, coefficient-below}
pub use Rattle.ta_linear.specs.Gcd.{gcd_of}
pub use Rattle.ta_linear.specs.Numbers.{InRange}
pub use Rattle.ta_linear.specs.Terms.{IsNormal, IsTerm, coefficient}
pub use Rattle.ta_linear.specs.declared.row.Row.{Row}
pub use Rattle.ta_links.specs.Carrying.{AreKeptBelow, CarryRefused, HasChosenNumbers, IsEmpty, IsRoom, OthersSame, RowsCarried, rows_from}
pub use Rattle.ta_links.specs.Chains.{Direction, FollowsCell, IsChained, IsFirstCell, IsLive, after_at, along_columns, along_rows, before_at, cell_at, head_at}
pub use Rattle.ta_links.specs.Chains.{line_at, no_cell, place_at}
pub use Rattle.ta_links.specs.Entering.{EntersBelow, NoneEntersBelow}
pub use Rattle.ta_links.specs.Extending.{AllCarried, IsRefusal, raised_head}
pub use Rattle.ta_links.specs.Free.{AreLinked, FreeVisits, IsFree, NotIn}
pub use Rattle.ta_links.specs.Gaps.{AreSound, IsAt, IsCellBefore, IsEmptyPlace, IsSought, MayBefore, Stays, spot}
pub use Rattle.ta_links.specs.Inside.Fields.{IsSoundLinks, linked_of}
pub use Rattle.ta_links.specs.Lines.{IsNext, IsOn, MayBeOn, NoneLeft, line_value_at}
pub use Rattle.ta_links.specs.Linked.{AreProperHeads, IsKeptInChains, IsProperHead, Linked, live_count, no_head, numbers_of, table_row, table_rows}
pub use Rattle.ta_links.specs.Links.{direction, following, freed, headed, linked, next_free, spliced, taken, taken_at, valued, with_after, with_before}
pub use Rattle.ta_links.specs.Links.{with_value}
pub use Rattle.ta_links.specs.Listing.{Lists, heads_of, line_places}
pub use Rattle.ta_links.specs.Merging.{HeadsMerge, IsSpared, MergeRefused, MergedBelow, MergedHead, MergesAt, RefusedAt, RowMerged, RowStepped, RowTurned}
pub use Rattle.ta_links.specs.Merging.{gcd_below, merged_cell, row_in}
pub use Rattle.ta_links.specs.MergingAll.{RefusedFirst}
pub use Rattle.ta_links.specs.Starting.{RowsShow, slack_heads}
pub use Rattle.ta_links.specs.Values.{filled_places, filled_rows, fills, only_at_place, row_values, shown, value_in, written}
pub use Rattle.ta_links.specs.declared.cell.Cell.{Cell}
pub use Rattle.ta_links.specs.declared.linked.LinkedDictionary.TheInside.{Inside}
pub use Rattle.ta_links.specs.declared.linked_cells.LinkedCells.{LinkedCells}
pub use Rattle.ta_links.specs.declared.row_head.RowHead.{RowHead}
pub use Rattle.ta_links.specs.declared.way.Way.{Way}
pub use Rattle.ta_links.specs.declared.way.Way.TheVariants.{Columns, Rows}
pub use mir.Syntax.{w128}
pub use mir.Val.{SFits, of_z, to_z}
