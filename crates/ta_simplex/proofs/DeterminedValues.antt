-- the values of a vertex are one list
use Rattle.ta_simplex.proofs.Common.{◌≡◌, inl, inr, ℕ, ◌<◌, List, arith, sym, ap, ◌∙◌, subst, ℤ, pos, ◌<ℤ◌, Option, Some, None, slice_get, IsSomeAnd}
use Rattle.ta_simplex.proofs.Common.{positive_prop, System, Tableau, row_of, basic_of, non_basic_of, DictionaryOf, GivesValues, Fraction}
use mathlib.Core.HLevel.{is_prop→PathP}
use Rattle.ta_base.proofs.Lists.{same_items}

-- a fraction is its top and its bottom
fraction_same : (f g : Fraction) → f.top ≡ g.top → f.bottom ≡ g.bottom → f ≡ g
fraction_same f g tops bottoms = λ i. record {
  top = tops i;
  bottom = bottoms i;
  positive = is_prop→PathP (λ j. pos 0 <ℤ bottoms j) (λ j. positive_prop (bottoms j)) f.positive g.positive i;
}

-- two values that are one fraction
value_same : (o q : Option Fraction) (top bottom : ℤ) → IsSomeAnd o (λ f. (f.top ≡ top) × (f.bottom ≡ bottom))
    → IsSomeAnd q (λ f. (f.top ≡ top) × (f.bottom ≡ bottom)) → o ≡ q
value_same None q top bottom is are = absurd is
value_same (Some f) None top bottom is are = absurd are
value_same (Some f) (Some g) top bottom is are = ap Some (fraction_same f g (is.0 ∙ sym are.0) (is.1 ∙ sym are.1))

-- a dictionary gives each unknown one value
pub values_once : (s : System) (t : Tableau) (fs gs : List Fraction) → DictionaryOf s t → GivesValues t s.unknowns fs → GivesValues t s.unknowns gs → fs ≡ gs
values_once s t fs gs d is are = same_items fs gs (is.count ∙ sym are.count) (λ x h. place x (let k = is.count in omega arith))
  where
    place : (x : ℕ) → x < s.unknowns → slice_get fs x ≡ slice_get gs x
    place x h =
        elim (d.basis.cover x (omega arith)) [
          | inl b ↦
              let below : basic_of t b.0 < s.unknowns = let e = b.2 in omega arith in
              subst (λ (u : ℕ). slice_get fs u ≡ slice_get gs u) b.2
              (value_same (slice_get fs (basic_of t b.0)) (slice_get gs (basic_of t b.0)) (row_of t b.0).constant (row_of t b.0).denominator
              (is.basic b.0 b.1 below) (are.basic b.0 b.1 below))
          | inr j ↦
              let below : non_basic_of t j.0 < s.unknowns = let e = j.2 in omega arith in
              subst (λ (u : ℕ). slice_get fs u ≡ slice_get gs u) j.2
              (value_same (slice_get fs (non_basic_of t j.0)) (slice_get gs (non_basic_of t j.0)) (pos 0) (pos 1) (is.non_basic j.0 j.1 below)
              (are.non_basic j.0 j.1 below))
        ]
