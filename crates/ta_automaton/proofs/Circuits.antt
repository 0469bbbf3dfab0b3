-- rules along a walk move one process from its beginning to its end, and along a circuit nobody
use Rattle.ta_automaton.proofs.Common.{◌≡◌, inl, inr, ℕ, pos, ◌+ℤ◌, ◌-ℤ◌, List, [], ◌∷◌, arith, ap, ◌∙◌, slice_get, Some, Option, ints, coefficient, Rule}
use Rattle.ta_automaton.proofs.Common.{Automaton, Walk, one_if, shared_change, rule_change, location_place, total}
use Rattle.ta_automaton.proofs.Moves.{place_cases, shared_change-location, shared_change-parameter, shared_change-shared}
use Rattle.ta_automaton.proofs.Onward.{change_of}

-- the rules of a list have no updates
abbrev pub EachPure : Automaton → List ℕ → Type 0
EachPure a [] = Unit {0}
EachPure a (o ∷ os) = ((rule : Rule) → slice_get a.rules o ≡ Some rule → (x : ℕ) → coefficient rule.updates x ≡ pos 0) × EachPure a os

pure_change : (a : Automaton) (rule : Rule) → ((x : ℕ) → coefficient rule.updates x ≡ pos 0) → (i : ℕ) → shared_change a rule i ≡ pos 0
pure_change a rule h i = elim (place_cases a i) [
  | inl b ↦ shared_change-parameter a rule i b
  | inr c ↦ elim c [
    | inl s ↦ ap (shared_change a rule) s.2 ∙ shared_change-shared a rule s.0 s.1 ∙ h s.0
    | inr l ↦ ap (shared_change a rule) l.1 ∙ shared_change-location a rule l.0
  ]
]

pub walk_total : (a : Automaton) (x : ℕ) (rs : List ℕ) (y : ℕ) → Walk a x rs y → EachPure a rs → (i : ℕ)
    → total (change_of a i) rs ≡ (one_if (location_place a y) i -ℤ one_if (location_place a x) i)
unfolding total
walk_total a x [] y w h i = let e : one_if (location_place a x) i ≡ one_if (location_place a y) i = ap (λ (l : ℕ). one_if (location_place a l) i) w in omega
    (arith, ints, e)
walk_total a x (r ∷ rs) y w h i =
    let rule = w.0 in
    let change : change_of a i r ≡ (shared_change a rule i +ℤ (one_if (location_place a rule.to) i -ℤ one_if (location_place a rule.from) i)) = ap
    (λ (o : Option Rule). rule_change a o i) w.1 in
    let begins : one_if (location_place a rule.from) i ≡ one_if (location_place a x) i = ap (λ (l : ℕ). one_if (location_place a l) i) w.2 in
    omega (arith, ints, change, begins, pure_change a rule (h.0 rule w.1) i, walk_total a rule.to rs y w.3 h.1 i)

-- a circuit changes nothing at any place
pub circuit_total : (a : Automaton) (x : ℕ) (rs : List ℕ) → Walk a x rs x → EachPure a rs → (i : ℕ) → total (change_of a i) rs ≡ pos 0
circuit_total a x rs w h i = omega (arith, ints, walk_total a x rs x w h i)
