-- The names that the proofs of this crate cite, passed on from one place. Declares nothing.
pub use Rattle.std.proofs.Common.{All, Bool, Contains, Err, FitsSigned, Global, IfNone, IfOk, IfSome, IsAscii, IsBitSet, IsSomeAnd, IsTrue, List, None, Ok}
pub use Rattle.std.proofs.Common.{OnOk, Option, Result, Some, SomeIff, String, [], add-mul, add-one, ap, append-nil, append_assoc, arith, bit_and, bit_or}
pub use Rattle.std.proofs.Common.{bytes_eq, codes, cond, count_by, decimal, div-add-mod', div-le_self, drop, drop-drop, drop_at, eq-eqb, eqb, eqb-true}
pub use Rattle.std.proofs.Common.{ext_get_or, false, false-eqb, filter, get_or, get_or-append-add, get_or-set_other, get_or-set_same, if◌then◌else◌, inl, inr}
pub use Rattle.std.proofs.Common.{int_div, int_lt, is_ok, is_some, length, length-append, length-drop, length-take-le, lit<, lit≤, map, max, min, mod-lt}
pub use Rattle.std.proofs.Common.{mul-le-mul, mul-le-mul_left, mul-le-mul_right, nat_eq, nat_lt, ne_eqb, neg_ℤ, negsuc, not, of_z, one-add, option_map, pos}
pub use Rattle.std.proofs.Common.{pow_pos, refl, replicate, reverse, rules, set, slice_get, slice_index, slice_index_or, string_bytes, string_eq, subst, suc}
pub use Rattle.std.proofs.Common.{sum, sum_by, sym, take, take-append-drop, take_all, take_at, tests, to_z, to_z-of_z, true, true≢false, unsigned_abs, w32, w64}
pub use Rattle.std.proofs.Common.{zero, ℕ, ℤ, ◌%◌, ◌&&◌, ◌*ℤ◌, ◌*◌, ◌++◌, ◌+ℤ◌, ◌+◌, ◌-ℤ◌, ◌-◌, ◌/◌, ◌<ℤ◌, ◌<◌, ◌==◌, ◌^◌, ◌||◌, ◌↔◌, ◌∙◌, ◌∷◌, ◌≡◌, ◌≢◌, ◌≤ℤ◌}
pub use Rattle.std.proofs.Common.{◌≤◌, ◌⊎◌}
pub use Rattle.std.specs.Prelude.{slice_range}
pub use Rattle.std.proofs.Math.IntN.{*ℤ-zero, *ℤ_comm, +ℤ_idl, +ℤ_idr, +ℤ_invr, zero-*ℤ}
pub use Rattle.std.proofs.Math.Nat.{dvd-mul_right, le_of_suc-le-suc, lt_of_mul-lt-mul_left, lt_of_mul-lt-mul_right, lt_of_not-le, mul-div_cancel'}
pub use Rattle.std.proofs.Math.Nat.{mul-dvd-mul_left, mul-pos, pow-le-pow_right, zero-add}
pub use Rattle.std.proofs.Math.Seq.{split_at, take-append-add, take-length}
pub use Rattle.std.proofs.Props.{props}
pub use Rattle.std.proofs.lemmas.Bool.{OnTrue_at, OnTrue_from, and_cases, and_left, and_parts, cases_Bool, cases_eq, cases_lt, cond-false, cond-true, cond_both}
pub use Rattle.std.proofs.lemmas.Bool.{eqb-false, false_from_ne_true, false≢true, ltb-false, ltb-true, not-false, not-true, or_cases, true_from_ne_false}
pub use Rattle.std.proofs.lemmas.Bool.Decides.{Decides-below_and, Decides-eqb, eqb_tells, nat_tests, same_from_decides}
pub use Rattle.std.proofs.lemmas.Fmt.{decimal_by_steps_wide, decimal_digit, decimal_injective, decimal_is_IsNumeral, decimal_is_IsNumeral_wide}
pub use Rattle.std.proofs.lemmas.Fmt.{decimal_step_wide, length-decimal-le_wide}
pub use Rattle.std.proofs.lemmas.Int.{by_lt_z, fits_signed_from_abs, ints, unsigned_abs-mul}
pub use Rattle.std.proofs.lemmas.List.{drop_more, get_or-append_right, get_or-replicate, get_or-take, get_or_append_left, get_or_past, length-map}
pub use Rattle.std.proofs.lemmas.List.{length-replicate, map-append, reverse-append, reverse-reverse, take-append-le, take-take, take_more}
pub use Rattle.std.proofs.lemmas.List.Elements.{All-append, All-contains, All-drop, All-from_recursion, All-get_or, All-replicate, All-set, All-take}
pub use Rattle.std.proofs.lemmas.List.Elements.{Contains-append_right, filter-append, filter_agree, recursion_from_All}
pub use Rattle.std.proofs.lemmas.List.Folds.{length-prefix_len, list_any_at}
pub use Rattle.std.proofs.lemmas.List.FromFn.{fill_by_all, get_or-map-range_with_len, get_or-range_with_len, length-map-range_with_len, length-range_with_len}
pub use Rattle.std.proofs.lemmas.List.Sums.{AllPass-from_list_all, count_by-le-length, length-filter, list_all-from_AllPass, prefix_len-le-length}
pub use Rattle.std.proofs.lemmas.List.Sums.{prefix_len_passes, sum_by-cons}
pub use Rattle.std.proofs.lemmas.Map.Keys.{IsDistinct-from_apart, IsDistinct-head, IsDistinct-tail}
pub use Rattle.std.proofs.lemmas.Map.Steps.{length-le_from_distinct_below}
pub use Rattle.std.proofs.lemmas.Nat.{and_le_r, bit_set_by_shift, div_below, mod_below, one_shl}
pub use Rattle.std.proofs.lemmas.Option.{get_or_from_slice_get, none-some, same_Some, slice_get-get_or, slice_get_past, slice_get_read, slice_get_within}
pub use Rattle.std.proofs.lemmas.Slice.Eq.{bytes_eq-Decides, strip_prefix_is}
pub use Rattle.std.proofs.lemmas.Str.Ascii.{IsAscii-cons, IsAscii-nil}
pub use Rattle.std.specs.Bool.{Decides, OnTrue}
pub use Rattle.std.specs.Char.{digit_value, is_ascii_digit}
pub use Rattle.std.specs.Fmt.{signed_decimal}
pub use Rattle.std.specs.Int.{IsGcd, bit_at, bit_not, int_div_euclid, int_min, int_rem_euclid, w128, ◌∣◌}
pub use Rattle.std.specs.List.{AllByRecursion, list_all, list_any, onto_first, prefix_len, range_with_len, slice_split}
unfoldable pub use Rattle.std.specs.List.{IsDistinct}
pub use Rattle.std.specs.Str.Parse.{AllDigits, digits_value, digits_value_after}
pub use Rattle.ta_base.specs.Bytes.{Avoids, BeginsByLetter, IsWord, SplitAt, is_letter, is_word}
pub use Rattle.ta_base.specs.Decimals.{BeginsNoDigit, DecimalAt, DigitsAt, IsDecimal, NoDecimalAt, is_padded}
pub use Rattle.ta_base.specs.Lists.{Distinct, EachFrom, Rises}
pub use Rattle.ta_base.specs.Masks.{In, any_below, implies}
pub use Rattle.ta_base.specs.Sums.{one_if}
unfoldable pub use Rattle.ta_base.specs.Sums.{times_in, total}
unfoldable pub use Rattle.ta_base.specs.Masks.{all_below, has_bit}
pub use mathlib.Core.Bool.{and-true, and_comm, beq, not-not, or-false, or-true}
