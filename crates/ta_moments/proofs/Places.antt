-- the places of names, name by name
use Rattle.ta_moments.proofs.Common.{◌≡◌, ◌∙◌, ◌++◌, ℕ, List, [], ◌∷◌, Option, Some, None, map, ap, sym, refl, append-nil, Automaton, place_named, places_named}
use Rattle.std.proofs.Common.{Bor}
use Rattle.std.proofs.lemmas.List.Elements.{filter_map-append}
use Rattle.std.proofs.lemmas.List.{map-append}

abbrev pub cons_of : Option ℕ → List ℕ
cons_of None = []
cons_of (Some place) = place ∷ []

one_place : (a : Automaton) (name : List ℕ) (o : Option ℕ) → place_named a name ≡ o → places_named a (name ∷ []) ≡ cons_of o
one_place a name None is = rw is refl
one_place a name (Some place) is = rw is refl

-- one name more
pub places_next : (a : Automaton) (names : List (Bor (List ℕ))) (name : Bor (List ℕ)) (places : List ℕ) (o : Option ℕ)
    → places ≡ places_named a (map (λ y. y.now) names) → place_named a name.now ≡ o → places
    ++ cons_of o ≡ places_named a (map (λ y. y.now) (names ++ name ∷ []))
places_next a names name places o so is =
    ap (λ xs. xs ++ cons_of o) so
    ∙ ap (λ ys. places_named a (map (λ y. y.now) names) ++ ys) (sym (one_place a name.now o is))
    ∙ sym (filter_map-append (place_named a) (map (λ y. y.now) names) (name.now ∷ []))
    ∙ ap (places_named a) (sym (map-append (λ (y : Bor (List ℕ)). y.now) names (name ∷ [])))

pub places_skip : (a : Automaton) (names : List (Bor (List ℕ))) (name : Bor (List ℕ)) (places : List ℕ) → places ≡ places_named a (map (λ y. y.now) names)
    → place_named a name.now ≡ None → places ≡ places_named a (map (λ y. y.now) (names ++ name ∷ []))
places_skip a names name places so is = sym (append-nil places) ∙ places_next a names name places None so is
