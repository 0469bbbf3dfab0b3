use Rattle.ta_meaning.proofs.Common.{◌≡◌, ℕ, ◌+◌, List, length, sym, ap, subst, ◌∙◌, arith, Spelled, Distinct}
use Rattle.ta_meaning.proofs.Declared.{names-distinct}
use Rattle.ta_meaning.proofs.DeclaredTrees.{lengths, kinds_are}
use Rattle.ta_meaning.proofs.declarations.declare_places.Goals as goal

pub returns : goal.returns
returns c =
    let t = c.args.tree.now in (
      c.in_ok-names.ensures.0,
      kinds_are t c.in_ok-names.names (length c.as_slice.result.now) (length c.as_slice-2.result.now) c.in_ok-names.ensures.1
          (ap (λ (xs : List Spelled). length xs) c.as_slice.ensures) (ap (λ (xs : List Spelled). length xs) c.as_slice-2.ensures),
    )

pub invariant_of-result : goal.invariant_of-result
invariant_of-result c =
    let t = c.args.tree.now in
    let names = c.in_ok-names.names in
    let total : length names ≡ length t.parameters + length t.shared + length t.locations = ap (λ (xs : List (List ℕ)). length xs) c.in_ok-names.ensures.1
    ∙ lengths t in
    let parameters : length c.as_slice.result.now ≡ length t.parameters = ap (λ (xs : List Spelled). length xs) c.as_slice.ensures in
    let shared : length c.as_slice-2.result.now ≡ length t.shared = ap (λ (xs : List Spelled). length xs) c.as_slice-2.ensures in
    record {
      within = omega arith;
      few = omega (arith, t.few_parameters, t.few_shared, t.few_locations);
      few_parameters = omega (arith, t.few_parameters);
      few_shared = omega (arith, t.few_shared);
      few_locations = omega (arith, t.few_locations);
      distinct = subst (λ (xs : List (List ℕ)). Distinct xs) (sym c.in_ok-names.ensures.1) (names-distinct t c.in_ok-names.ensures.0);
    }
