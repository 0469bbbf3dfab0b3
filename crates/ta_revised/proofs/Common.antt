-- The names that the proofs of this crate cite, passed on from one place. Declares nothing.
pub use Rattle.std.proofs.Common.{FitsSigned, List, [], ap, arith, drop, get_or, get_or-set_other, get_or-set_same, inl, inr, ◌≤ℤ◌, ◌+ℤ◌, Option, ◌/◌}
pub use Rattle.std.proofs.Common.{below_more, append_assoc}
pub use Rattle.std.proofs.Common.{length, map, neg_ℤ, negsuc, pos, refl, replicate, rules, set, subst, suc, sym, take, unsigned_abs, zero, ℕ, ℤ, ◌%◌}
pub use Rattle.std.proofs.Common.{◌*ℤ◌, ◌*◌, ◌++◌, ◌+◌, ◌-ℤ◌, ◌-◌, ◌<ℤ◌, ◌<◌, ◌^◌, ◌∙◌, ◌∷◌, ◌≡◌, ◌≤◌}
pub use Rattle.std.proofs.Math.Nat.{one-dvd, mul-le-mul, mul-le-mul_left}
pub use Rattle.std.proofs.lemmas.Bool.{cases_eq, cases_lt}
pub use Rattle.std.proofs.lemmas.Int.{fits_signed_from_abs, ints, quot_fits, to_z-of_z, to_z_pos, unsigned_abs-mul}
pub use Rattle.std.proofs.lemmas.List.{at_drop_more, ext_get_or, get_or-map, get_or_append_left, get_or_past, set-append_left, drop_more}
pub use Rattle.std.proofs.lemmas.List.{map-append}
pub use Rattle.std.proofs.lemmas.List.{get_or_default, length-append, length-map, length-replicate, length-set}
pub use Rattle.std.proofs.lemmas.List.{with_items_is}
pub use Rattle.std.proofs.lemmas.List.Edits.{map_over_more}
pub use Rattle.std.proofs.lemmas.List.Elements.{All-append, All-cons, All-from_get_or, All-map, All-replicate, All-set, All-push}
pub use Rattle.std.proofs.lemmas.Nat.{mod_below}
pub use Rattle.std.proofs.lemmas.Nat.Gcd.{IsGcd-from_mod, IsGcd-from_zero, IsGcd-swap, dvd_antisymm, dvd_of_mod-eq-zero, dvd_refl, le_of_dvd}
pub use Rattle.std.specs.Int.{IsGcd, ◌∣◌, w32, w64}
pub use Rattle.std.specs.Prelude.{int_div, IsSomeAnd, Some, slice_get}
pub use Rattle.ta_base.proofs.Integers.{abs_minus, abs_positive, div-one, cancel_positive, abs_sum, expand, product_positive, times_assoc, minus_fits}
pub use Rattle.ta_base.proofs.Integers.{pos_abs, product_le}
pub use Rattle.ta_base.proofs.Integers.{quotient_le, replicate_zeros}
pub use Rattle.ta_base.proofs.Integers.{unsigned_abs-neg, zero_minus}
pub use Rattle.ta_base.proofs.Lists.{done_more, get_or-neg, rest_more, range_more}
pub use Rattle.ta_revised.specs.Bounds.{AllCombineIn16, AreBounded, CombinesIn16, IsBound}
pub use Rattle.ta_dense.specs.Merge.{CombinesInRange, IsProper, MergesByInRange, MergesInRange}
pub use Rattle.ta_revised.specs.Narrow.{IsNarrow, narrow_view}
pub use Rattle.ta_dense.specs.Tableau.{TableauRow, cell_of, combine, divided, divisor_of, factor_divisor, gcd_with, merged_by, Tableau, row_of, basic_of}
pub use Rattle.ta_dense.specs.Tableau.{non_basic_of, merged}
pub use Rattle.ta_dense.specs.Tableau.{no_row, reduced, turned}
pub use Rattle.ta_revised.specs.declared.narrow_rows.NarrowRow.{NarrowRow}
pub use Rattle.ta_linear.proofs.GcdLemmas.{IsGcd-gcd_of, gcd_of-zero, gcd_of_is}
unfoldable pub use Rattle.ta_linear.specs.Gcd.{gcd_of}
pub use Rattle.ta_linear.specs.Numbers.{InRange}
pub use mir.Syntax.{w16}
pub use mir.Val.{SFits, of_z, to_z}
pub use Rattle.std.proofs.lemmas.List.FromFn.{length-range_with_len}
pub use Rattle.std.proofs.lemmas.Option.{slice_get_cases, slice_get-get_or}
pub use Rattle.std.specs.Arc.{arc_value}
pub use Rattle.std.specs.List.{range_with_len}
pub use Rattle.std.specs.Vec.{vec_len, with_items}
pub use Rattle.ta_dense.proofs.DenseFacts.{terms_at}
pub use Rattle.ta_dense.proofs.Divide.{gcd_with_divides, gcd_with-one}
pub use Rattle.ta_dense.proofs.ExtendFacts.{names_long}
pub use Rattle.ta_dense.proofs.PivotLaws.{length-combine, get_or-combine}
pub use Rattle.ta_dense.proofs.ProperFacts.{merged-zero}
pub use Rattle.ta_dense.proofs.ReduceFacts.{factors_positive}
pub use Rattle.ta_dense.proofs.RowFacts.{row_same}
pub use Rattle.ta_dense.proofs.SlackRows.{tableau_same}
pub use Rattle.ta_dense.specs.Extending.{raised}
pub use Rattle.ta_dense.specs.Inside.Padded.{zero_filled}
pub use Rattle.ta_dense.specs.Laws.{DictionaryOf}
pub use Rattle.ta_dense.specs.Slack.{IsAssignment, variables}
pub use Rattle.ta_dense.specs.Valid.{IsDictionaryRow, dot, EquationHolds}
pub use Rattle.ta_linear.proofs.TermLemmas.{IsNormal-le}
pub use Rattle.ta_linear.specs.Rows.{AllBelow}
pub use Rattle.ta_linear.specs.Terms.{IsNormal}
pub use Rattle.ta_linear.specs.Values.{terms_value}
pub use Rattle.ta_linear.specs.declared.row.Row.{Row}
pub use Rattle.ta_linear.specs.declared.row.System.{System}
pub use Rattle.ta_revised.specs.Laws.{RowsAreRevised}
pub use Rattle.ta_revised.specs.Modest.{weight_of, IsModestRow}
pub use Rattle.ta_revised.specs.Negative.{row_value, IsLeastNegative, NoneIsNegative, RowsHold, UnknownsHold}
pub use Rattle.ta_revised.specs.Revised.{grown, unit_rows, revised_view}
pub use Rattle.ta_revised.specs.RowCells.{zeros_behind}
pub use Rattle.ta_revised.specs.Scale.{AreValues, IsScale}
pub use Rattle.ta_revised.specs.ShortRows.{parts_value, AreShort}
pub use Rattle.ta_revised.specs.Slack.{plus_row, factor_of, plus_terms, scaled_constant, slack_sum, slack_row_over}
pub use Rattle.ta_revised.specs.UnknownRows.{IsColumn, ListsBasic, unknown_rows, unit_row, IsAfter, unknown_row, IsUnknownRow, AreUnknownRows}
pub use Rattle.ta_revised.specs.Valid.{IsRevised}
pub use Rattle.ta_revised.specs.declared.revised.RevisedDictionary.TheInside.{Inside}
pub use Rattle.ta_revised.specs.declared.short_rows.ShortRow.{ShortRow}
pub use Rattle.ta_revised.specs.declared.unknown_rows.UnknownRow.{UnknownRow}
pub use Rattle.ta_revised.specs.declared.unknown_rows.UnknownRow.TheVariants.{Column, Basic}
