-- rows of the same numbers are the same
use Rattle.ta_moment_tree.proofs.Common.{◌≡◌, ℤ, ◌^◌, InRange, IsNormal, Row}
use mathlib.Core.HLevel.{is_prop→PathP}
use Rattle.std.proofs.Props.{props}
use Rattle.ta_linear.specs.Terms.{IsNormal-prop}

in_range_prop : (z : ℤ) → IsProp (InRange z)
in_range_prop z = hlevel props

pub row_same : (r s : Row) → r.form.constant ≡ s.form.constant → r.form.terms ≡ s.form.terms → r ≡ s
row_same r s e h = λ i. record {
  form = record {
    constant = e i;
    terms = h i;
    constant_fits = is_prop→PathP (λ j. InRange (e j)) (λ j. in_range_prop (e j)) r.form.constant_fits s.form.constant_fits i;
    normal = is_prop→PathP (λ j. IsNormal 0 (2 ^ 32) (h j)) (λ j. IsNormal-prop 0 (2 ^ 32) (h j)) r.form.normal s.form.normal i;
  };
}
