-- The vectors of a template: a value for each hole, in lexicographic order.
use Rattle.std.specs.Prelude.{ℕ, ◌<◌, ◌≤◌, ◌≡◌, ◌⊎◌, List, [], ◌∷◌, ◌++◌, map}
use Rattle.std.specs.List.{AllByRecursion, range_with_len}
use Rattle.ta_base.specs.Masks.{In}
use Rattle.ta_search.specs.declared.template.Hole.{Hole}
use Rattle.ta_search.specs.declared.template.Template.{Template}
use Rattle.ta_search.specs.Holes.{value_count}

-- the values of a hole, from the lowest to the highest
abbrev pub hole_values : Hole → List ℕ
hole_values h = range_with_len h.low (value_count h)

-- each of these values in front of each of these vectors: first all that begin with the first value, then all that begin with the next
abbrev pub each_before : List ℕ → List (List ℕ) → List (List ℕ)
each_before [] vectors = []
each_before (value ∷ values) vectors = map (λ (vector : List ℕ). value ∷ vector) vectors ++ each_before values vectors

-- the vectors: the choices of a value for each hole, in lexicographic order, so that the value of the last hole changes first
abbrev pub vectors : List Hole → List (List ℕ)
vectors [] = [] ∷ []
vectors (h ∷ hs) = each_before (hole_values h) (vectors hs)

-- a vector has for each hole a value from its lowest to its highest
abbrev pub IsChoice : List Hole → List ℕ → Type 0
IsChoice [] [] = Unit {0}
IsChoice [] (value ∷ values) = ⊥
IsChoice (h ∷ hs) [] = ⊥
IsChoice (h ∷ hs) (value ∷ values) = (h.low ≤ value) × (value ≤ h.high) × IsChoice hs values

-- a vector comes before another in lexicographic order: where they first differ it has the smaller value
abbrev pub IsBefore : List ℕ → List ℕ → Type 0
IsBefore [] ws = ⊥
IsBefore (v ∷ vs) [] = ⊥
IsBefore (v ∷ vs) (w ∷ ws) = (v < w) ⊎ ((v ≡ w) × IsBefore vs ws)

-- each comes before all later ones
abbrev pub Ascend : List (List ℕ) → Type 0
Ascend [] = Unit {0}
Ascend (v ∷ vs) = AllByRecursion (IsBefore v) vs × Ascend vs

-- the vectors of a template are exactly the choices of a value for each hole, in lexicographic order
pub record AreChoices (t : Template) : Type 0 where
  pub ascend : Ascend (vectors t.holes)
  pub choices : AllByRecursion (IsChoice t.holes) (vectors t.holes)
  pub all : (vector : List ℕ) → IsChoice t.holes vector → In vector (vectors t.holes)

abbrev pub VectorsAreChoices : Type 0
VectorsAreChoices = (t : Template) → AreChoices t
