-- The names that the proofs of this crate cite, passed on from one place. Declares nothing.
pub use Rattle.std.proofs.Common.{Bool, List, Option, Some, None, SomeIff, [], ap, arith, cond, drop, false, get_or, inl, inr, length, nat_lt, pos, refl, rules}
pub use Rattle.std.proofs.Common.{set, slice_get, subst, suc, sym, true, zero, ℕ, ℤ, ◌*ℤ◌, ◌+ℤ◌, ◌+◌, ◌-◌, ◌<ℤ◌, ◌<◌, ◌^◌, ◌∙◌, ◌∷◌, ◌≡◌, ◌≢◌, ◌⊎◌, ◌*◌, ◌≤◌}
pub use Rattle.std.proofs.Common.{min}
pub use Rattle.std.proofs.lemmas.Int.{ints, to_z-of_z}
pub use Rattle.std.proofs.lemmas.List.{at_drop_more, drop_more}
pub use Rattle.ta_farkas.specs.Blocks.{AreSums, IsAdded}
pub use Rattle.ta_farkas.specs.Columns.{CheckStays, ColumnStays, column_sum, entry, part_in}
pub use Rattle.ta_farkas.specs.Faults.{FineBefore, IsFirstFaultOfLeaf, row_at}
pub use Rattle.ta_farkas.specs.declared.LeafFault.TheVariants.{NotNegative, Overflow, Positive, RowNumber}
pub use Rattle.ta_linear.specs.Leaf.{AreMultipliers, LeafOf, coefficient_in, constant_in}
unfoldable pub use Rattle.ta_linear.specs.Leaf.{weighted}
pub use Rattle.ta_linear.specs.Numbers.{InRange}
pub use Rattle.ta_linear.specs.Sums.{StaysInRange}
pub use Rattle.ta_linear.specs.Terms.{IsNormal, coefficient}
pub use Rattle.ta_linear.specs.declared.row.Row.{Row}
pub use Rattle.ta_linear.specs.declared.row.System.{System}
pub use mir.Syntax.{w128}
pub use mir.Val.{SFits, to_z}
