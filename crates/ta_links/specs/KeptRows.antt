-- A kept pivot without its zeros: what its fields mean, and what they keep.
use Rattle.std.specs.Prelude.{pos, ◌<ℤ◌}
use Rattle.ta_linear.specs.Numbers.{InRange}
use Rattle.ta_linear.specs.Terms.{IsNormal}
use Rattle.ta_dense.specs.Kept.{KeptPivot}
use Rattle.ta_dense.specs.Slack.{coefficients}
use Rattle.ta_links.specs.declared.kept.LinkedPivot.TheInside.{Inside}

-- what the fields of a kept pivot mean
abbrev pub sparse_pivot_view : Inside → KeptPivot
sparse_pivot_view k = record {
  row = k.row;
  column = k.column;
  denominator = k.denominator;
  constant = k.chosen.constant;
  cells = coefficients k.columns
      k.chosen.terms;
}

-- what they keep
pub record IsSoundSparsePivot (k : Inside) : Type 0 where
  pub normal : IsNormal 0 k.columns k.chosen.terms
  pub positive : pos 0 <ℤ k.denominator
  pub fits : InRange k.denominator
