-- The names that the proofs of this crate cite, passed on from one place. Declares nothing.
pub use Rattle.std.proofs.Common.{FitsSigned, List, None, Option, Some, [], ap, arith, cond, drop, eqb, get_or, inl, inr, length, neg_ℤ, negsuc, of_z, pos}
pub use Rattle.std.proofs.Common.{refl, rules, slice_get, slice_index, slice_index_or, subst, suc, sym, zero, ℕ, ℤ, ◌%◌, ◌*ℤ◌, ◌++◌, ◌+ℤ◌, ◌+◌, ◌-ℤ◌, ◌<ℤ◌, ◌<◌}
pub use Rattle.std.proofs.Common.{◌^◌, ◌↔◌, ◌∙◌, ◌∷◌, ◌≡◌, ◌≢◌, ◌≤ℤ◌, ◌≤◌}
pub use Rattle.std.proofs.Math.IntN.{*ℤ-zero, zero-*ℤ}
pub use Rattle.std.proofs.Math.Nat.{div-le_self, mul-le-mul}
pub use Rattle.std.proofs.lemmas.Bool.Decides.{eqb_tells, nat_tests}
pub use Rattle.std.proofs.lemmas.Int.{fits_signed_from_abs, ints, to_z-of_z, to_z_pos, unsigned_abs-mul}
pub use Rattle.std.proofs.lemmas.List.{drop_more}
pub use Rattle.std.proofs.lemmas.Nat.{mod_below}
pub use Rattle.std.proofs.lemmas.Nat.Gcd.{IsGcd-from_mod, IsGcd-from_zero, same_from_IsGcd}
pub use Rattle.std.specs.Int.{IsGcd, int_div_euclid, w128, w64}
pub use Rattle.ta_base.proofs.Integers.{IsGcd-whole, add_cond, distributes, distributes_right, fits_64_abs, floor_high, floor_low, if_zero, mul-ge-zero}
pub use Rattle.ta_base.proofs.Integers.{mul-le-zero, neg-mul, times_assoc, times_if, times_not_zero, turned_negative}
pub use Rattle.ta_base.proofs.Lists.{same_cons}
pub use Rattle.ta_base.proofs.Sums.{one_term, range_sum-add, range_sum-nonpositive, range_sum-same, range_sum-times, range_sum-zero, range_sum}
pub use Rattle.ta_linear.specs.Forms.{IsLeastTerm, IsMultiple, IsNegation, IsSum, MultipleOutOfRange, SomeSumOutOfRange, SumOutOfRange}
pub use Rattle.ta_linear.specs.Numbers.{InRange}
pub use Rattle.ta_linear.specs.Terms.{IsNormal, IsTerm, coefficient}
pub use Rattle.ta_linear.specs.Values.{RowHolds, Solves, point_of, terms_value, value_of}
pub use Rattle.ta_linear.specs.declared.form.Form.{Form}
pub use Rattle.ta_linear.specs.declared.row.Row.{Row}
