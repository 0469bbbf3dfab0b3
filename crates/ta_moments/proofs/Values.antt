-- values of forms at natural values
use Rattle.ta_moments.proofs.Common.{◌≡◌, ℕ, ℤ, pos, negsuc, ◌+ℤ◌, ◌-ℤ◌, ◌*ℤ◌, List, length, arith, ints, refl, ◌∙◌, UnknownForm, number_form, plus_form}
use Rattle.ta_moments.proofs.Common.{minus_form, opposite_form, negated_form, range_sum}
use Rattle.ta_moments.proofs.Worth.{number, worth, worth-number, worth-plus, worth-minus}
unfoldable use Rattle.ta_moments.specs.Whole.{form_value}

pub valued : (vs : List ℕ) (f : UnknownForm) → form_value vs f ≡ worth vs f
unfolding form_value worth range_sum
valued vs f = refl

pub value_is : (vs : List ℕ) (f : UnknownForm) → form_value vs f ≡ (f.constant +ℤ range_sum (λ u. f.coefficient u *ℤ number vs u) (length vs))
unfolding form_value range_sum
value_is vs f = refl

pub value_number : (vs : List ℕ) (z : ℤ) → form_value vs (number_form z) ≡ z
value_number vs z = valued vs (number_form z) ∙ worth-number vs z

pub value_plus : (vs : List ℕ) (f g : UnknownForm) → form_value vs (plus_form f g) ≡ (form_value vs f +ℤ form_value vs g)
value_plus vs f g = omega (arith, ints, valued vs (plus_form f g), worth-plus vs f g, valued vs f, valued vs g)

pub value_minus : (vs : List ℕ) (f g : UnknownForm) → form_value vs (minus_form f g) ≡ (form_value vs f -ℤ form_value vs g)
value_minus vs f g = omega (arith, ints, valued vs (minus_form f g), worth-minus vs f g, valued vs f, valued vs g)

pub value_opposite : (vs : List ℕ) (f : UnknownForm) → form_value vs (opposite_form f) ≡ (pos 0 -ℤ form_value vs f)
value_opposite vs f = omega (arith, ints, value_minus vs (number_form (pos 0)) f, value_number vs (pos 0))

pub value_negated : (vs : List ℕ) (f : UnknownForm) → form_value vs (negated_form f) ≡ (negsuc 0 -ℤ form_value vs f)
value_negated vs f = omega (arith, ints, value_minus vs (number_form (negsuc 0)) f, value_number vs (negsuc 0))
