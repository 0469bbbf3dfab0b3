-- the unknowns at the start
use Rattle.ta_moment_tree.proofs.Common.{◌≡◌, inl, inr, ℕ, ℤ, pos, ◌≤◌, map, length, unsigned_abs, arith, sym, subst, get_or, range_with_len, cases_lt}
use Rattle.ta_moment_tree.proofs.Common.{get_or-map, get_past, slice_get-get_or, ints, Automaton, Pattern, Meaning, Parameter, Start, start_locations}
use Rattle.ta_moment_tree.proofs.Common.{place_coefficient, location_place, one_if, nat_tests, In, in_append, in_map, ◌⊎◌, count_few, slice_get, is_moving}
use Rattle.ta_moment_tree.proofs.Common.{moving_rules, start_form, SmallBy}
unfoldable use Rattle.ta_encode.specs.Unknowns.{start_meanings}
use Rattle.ta_base.proofs.Members.{in_at}

-- an unknown at the start is a parameter or a start count
in_start : (a : Automaton) (p : Pattern) (m : Meaning) → In m (start_meanings a p) → ((i : ℕ) × (m ≡ Parameter i)) ⊎ ((l : ℕ) × (m ≡ Start l))
unfolding start_meanings
in_start a p m h = elim (in_append m (map Parameter (range_with_len 0 (length a.parameters))) (map Start (start_locations a p)) h) [
  | inl i ↦ (let w = in_map Parameter m (range_with_len 0 (length a.parameters)) i in inl (w.0, w.2))
  | inr i ↦ (let w = in_map Start m (start_locations a p) i in inr (w.0, w.2))
]

one_most : (x y : ℕ) → unsigned_abs (one_if x y) ≤ 1
one_most x y = grind (arith, ints, nat_tests)

pub start_small : (a : Automaton) (p : Pattern) (place : ℕ) → SmallBy 1 (start_form a p place)
start_small a p place = record {
  constant = omega (arith, ints);
  coefficients = λ u. elim (cases_lt u (length (start_meanings a p))) [
    | inl b ↦ (
        let m = get_or (start_meanings a p) u (Parameter 0) in
        let is = get_or-map (λ k. place_coefficient a k place) (start_meanings a p) u (Parameter 0) (pos 0) b in
        let small : unsigned_abs (place_coefficient a m place) ≤ 1 = elim
        (in_start a p m (in_at (start_meanings a p) u m (slice_get-get_or (start_meanings a p) u (Parameter 0) b))) [
          | inl w ↦ subst (λ (k : Meaning). unsigned_abs (place_coefficient a k place) ≤ 1) (sym w.1) (one_most w.0 place)
          | inr w ↦ subst (λ (k : Meaning). unsigned_abs (place_coefficient a k place) ≤ 1) (sym w.1) (one_most (location_place a w.0) place)
        ] in
        subst (λ (z : ℤ). unsigned_abs z ≤ 1) (sym is) small
        )
    | inr b ↦ subst (λ (z : ℤ). unsigned_abs z ≤ 1) (sym (get_past (λ k. place_coefficient a k place) (start_meanings a p) u b)) (omega (arith, ints))
  ];
}

pub moving_few : (a : Automaton) (p : Pattern) → length (moving_rules a p) ≤ 1024
moving_few a p = omega (arith, count_few (λ r. is_moving p (slice_get a.rules r)) (length a.rules), a.shape.limits.rules_limit)
