use Rattle.ta_encode.proofs.Common.{◌≡◌, ap, ◌∙◌, sym, refl, subst, ℕ, ℤ, pos, ◌+ℤ◌, ◌-ℤ◌, ◌*ℤ◌, List, [], ◌∷◌, get_or, Bool, inl, inr, ◌⊎◌, if◌then◌else◌}
use Rattle.ta_encode.proofs.Common.{to_z_range, InRange, terms_value, rule_change, Automaton, Meaning, Count, Single, place_coefficient, line_coefficient}
use Rattle.ta_encode.proofs.Common.{coefficient_in_sense, Sense, slice_get}
use Rattle.ta_encode.proofs.line.coefficient_of.Goals as goal

-- the firings of a rule change a place alike, whenever they come
count_same : (a : Automaton) (k r : ℕ) (ts : List (ℕ × ℤ)) → terms_value (place_coefficient a (Count 0 r)) ts ≡ terms_value (place_coefficient a (Count k r)) ts
count_same a k r [] = refl
count_same a k r (t ∷ ts) = ap (λ (z : ℤ). (t.1 *ℤ rule_change a (slice_get a.rules r) t.0) +ℤ z) (count_same a k r ts)

single_same : (a : Automaton) (k r : ℕ) (ts : List (ℕ × ℤ))
    → terms_value (place_coefficient a (Count 0 r)) ts ≡ terms_value (place_coefficient a (Single k r)) ts
single_same a k r [] = refl
single_same a k r (t ∷ ts) = ap (λ (z : ℤ). (t.1 *ℤ rule_change a (slice_get a.rules r) t.0) +ℤ z) (single_same a k r ts)

firing_same : (a : Automaton) (ts : List (ℕ × ℤ)) (less : Bool) (sense : Sense) (m : Meaning) (r : ℕ) → ((k : ℕ) × m ≡ Count k r) ⊎ ((k : ℕ) × m ≡ Single k r)
    → line_coefficient a ts less sense (Count 0 r) ≡ line_coefficient a ts less sense m
firing_same a ts less sense m r is = elim is [
  | inl h ↦ ap (λ (z : ℤ). coefficient_in_sense sense (z -ℤ (if less then pos 0 else pos 0))) (count_same a h.0 r ts)
      ∙ ap (line_coefficient a ts less sense) (sym h.1)
  | inr h ↦ ap (λ (z : ℤ). coefficient_in_sense sense (z -ℤ (if less then pos 0 else pos 0))) (single_same a h.0 r ts)
      ∙ ap (line_coefficient a ts less sense) (sym h.1)
]

pub returns-in-Some-clause-value : goal.returns-in-Some-clause-value
returns-in-Some-clause-value c =
    let a = c.args.automaton.now in
    let ts = c.args.line.now.terms.now in
    let zs = c.args.of_rules.now in
    let r = c.in-Count.rule in
    let z = c.in-Some.coefficient.now in
    let found = c.in-Some.ensures.lookup.3 in
    let at : z ≡ get_or zs r (pos 0) = found.1 (pos 0) in
    let fits : InRange z = subst InRange (sym at) (c.requires.rules.fits r (pos 0) found.0) in
    to_z_range z fits ∙ at ∙ c.requires.rules.value r found.0
    ∙ firing_same a ts c.args.line.now.less_starts c.args.line.now.sense c.args.meaning r c.in-Count.is

pub returns-in-None-clause-value : goal.returns-in-None-clause-value
returns-in-None-clause-value c = to_z_range c.line_coefficient-in-None.result c.line_coefficient-in-None.ensures.fits ∙ c.line_coefficient-in-None.ensures.value
    ∙ ap (line_coefficient c.args.automaton.now c.args.line.now.terms.now c.args.line.now.less_starts c.args.line.now.sense) c.in-Count.meaning-is
