-- The names that the proofs of this crate cite, passed on from one place. Declares nothing.
pub use Rattle.std.proofs.Common.{List, [], ap, append_assoc, arith, below_more, drop, false, get_or, get_or-set_other, get_or-set_same, inl, inr}
pub use Rattle.std.proofs.Common.{length, map, neg_ℤ, negsuc, pos, refl, replicate, rules, set, subst, suc, sym, take, true, unsigned_abs, zero, ℕ, ℤ}
pub use Rattle.std.proofs.Common.{◌*ℤ◌, ◌*◌, ◌++◌, ◌+ℤ◌, ◌+◌, ◌-ℤ◌, ◌-◌, ◌/◌, ◌<ℤ◌, ◌<◌, ◌^◌, ◌∙◌, ◌∷◌, ◌≡◌, ◌≢◌, ◌≤ℤ◌, ◌≤◌, ◌⊎◌}
pub use Rattle.std.proofs.Math.Nat.{div-le_self, dvd_of_mul-dvd-mul_left, eq-one_of_dvd-one, one-dvd}
pub use Rattle.std.proofs.lemmas.Bool.{cases_eq, cases_lt, cases_order}
pub use Rattle.std.proofs.lemmas.Int.{ints, quot_fits, to_z-of_z, to_z_pos}
pub use Rattle.std.proofs.lemmas.List.{at_drop_more, drop_more, ext_get_or, get_or-append_right, get_or-map, get_or_append_left, get_or_at}
pub use Rattle.std.proofs.lemmas.List.{get_or_default, get_or_push, get_or_read, length-append, length-map, length-replicate, length-set, length-take-le}
pub use Rattle.std.proofs.lemmas.List.{map-append, map-id, map-set, set_at, take_all, take_more, with_items_is}
pub use Rattle.std.proofs.lemmas.List.Edits.{map_over_more}
pub use Rattle.std.proofs.lemmas.List.Elements.{All-append, All-from_get_or, All-get_or, All-map, All-replicate, All-set}
pub use Rattle.std.proofs.lemmas.List.FromFn.{get_or-range_with_len, length-range_with_len}
pub use Rattle.std.proofs.lemmas.Nat.Gcd.{dvd_antisymm, dvd_refl, dvd_trans}
pub use Rattle.std.specs.Int.{IsGcd, ◌∣◌}
pub use Rattle.std.specs.List.{range_with_len}
pub use Rattle.std.specs.Prelude.{int_div}
pub use Rattle.ta_base.proofs.Integers.{abs_natural, cancel_positive, cross_arith, div-one, div_exact, divided_arith, dvd_cross}
pub use Rattle.ta_base.proofs.Integers.{dvd_times, expand, factor_positive, factors_agree, ge-zero_of_mul, leaving_arith}
pub use Rattle.ta_base.proofs.Integers.{lt-zero_of_mul, merged_arith, mul-ge-zero, mul-lt-zero, mul_cancel, pos_abs, pos_out, product_positive}
pub use Rattle.ta_base.proofs.Integers.{replicate_zeros, same_positive, single-at, single-elsewhere, times_assoc, turned_arith}
pub use Rattle.ta_base.proofs.Integers.{unsigned_abs-neg, zero_from_bits, zero_minus, zero_or_not}
unfoldable pub use Rattle.ta_base.proofs.Integers.{single}
pub use Rattle.ta_base.proofs.Lists.{done_more, get_or-neg, get_set_added, map-div-one, range_more, rest_more}
pub use Rattle.ta_dense.specs.Extending.{FirstLeaving, new_rows, raised, widened}
pub use Rattle.ta_dense.specs.Inside.Padded.{padded, zero_filled}
pub use Rattle.ta_dense.specs.Kept.{AreKept, KeptPivot, StayInRange, carried, chosen_row, kept_at, no_pivot}
pub use Rattle.ta_dense.specs.Merge.{AllMergeInRange, CombinesInRange, FirstOtherRefused, FirstRefused, IsProper, MergesByInRange, MergesInRange}
pub use Rattle.ta_dense.specs.Merge.{OthersMergeBelow, RowsMergeBelow}
pub use Rattle.ta_dense.specs.Rows.{AreProper, row_view, view_at, views}
pub use Rattle.ta_dense.specs.Slack.{IsAssignment, SlacksFollow, coefficients, slack_at, slack_row_of, slack_rows, variables}
unfoldable pub use Rattle.ta_dense.specs.Slack.{slack_tableau}
pub use Rattle.ta_dense.specs.Tableau.{Tableau, TableauRow, basic_of, cell_of, combine, divided, divisor_of, factor_divisor, gcd_with, merged_at, merged_by}
pub use Rattle.ta_dense.specs.Tableau.{no_row, non_basic_of, pivoted, pivoted_rows, reduced, row_of, turned}
unfoldable pub use Rattle.ta_dense.specs.Tableau.{merged}
pub use Rattle.ta_dense.specs.Valid.{AllDivided, EquationHolds, IsDictionary, IsDictionaryRow, IsPrimitive, dot}
pub use Rattle.ta_dense.specs.declared.rows.DenseRow.{DenseRow}
pub use Rattle.ta_linear.proofs.GcdLemmas.{IsGcd-gcd_of, gcd_of_is}
pub use Rattle.ta_linear.proofs.TermLemmas.{IsNormal-le, coefficient-fits}
unfoldable pub use Rattle.ta_linear.specs.Gcd.{gcd_of}
pub use Rattle.ta_linear.specs.Numbers.{InRange}
pub use Rattle.ta_linear.specs.Rows.{AllBelow}
pub use Rattle.ta_linear.specs.Terms.{IsNormal, coefficient}
pub use Rattle.ta_linear.specs.declared.row.Row.{Row}
pub use Rattle.ta_linear.specs.declared.row.System.{System}
pub use mir.Syntax.{w128}
pub use mir.Val.{SFits, of_z, to_z}
