use Rattle.ta_meaning.proofs.Common.{◌≡◌, ◌-◌, ◌∷◌, ◌++◌, [], pos, List, ℕ, ℤ, take, slice_get, Some, refl, ap, subst, ◌∙◌, arith, distinct_take, used_faults}
use Rattle.ta_meaning.proofs.PartForms.{name_part}
use Rattle.ta_meaning.proofs.sums.name_form.Goals as goal

pub returns : goal.returns
returns c =
    let names = c.args.places.now.names in
    let all : c.args.allowed - 0 ≡ c.args.allowed = omega arith in
    let found = subst (λ (n : ℕ). (used_faults names (take n names) c.args.name.now ≡ [])
    × (slice_get (take n names) c.in_ok-number.number ≡ Some c.args.name.now.name)) all c.in_ok-number.ensures in
    let terms : c.from_vec.result ≡ (c.in_ok-number.number, pos 1) ∷ [] = c.from_vec.ensures ∙ c.in_ok-push.ensures.items
    ∙ ap (λ (xs : List (ℕ × ℤ)). xs ++ (c.in_ok-number.number, pos 1) ∷ []) c.new-terms.ensures.items in (
      found.0,
      name_part (take c.args.allowed names) c.args.name.now.name c.in_ok-number.number _ (distinct_take c.args.allowed names c.args.places.now.distinct)
          found.1 refl terms,
    )
