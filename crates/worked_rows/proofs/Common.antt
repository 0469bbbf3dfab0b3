-- The names that the proofs of this crate cite, passed on from one place. Declares nothing.
pub use Rattle.std.proofs.Common.{arith, length, subst, sym, ◌*◌, ◌+◌, ◌^◌, ◌≡◌}
pub use Rattle.ta_linear.specs.Rows.{AllBelow}
