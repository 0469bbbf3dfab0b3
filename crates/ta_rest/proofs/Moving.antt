-- the heights of the locations of all processes together fall with each step between locations
use Rattle.ta_rest.proofs.Common.{◌≡◌, inl, inr, ℕ, ◌+◌, ◌*◌, ◌-◌, ◌≤◌, pos, ◌*ℤ◌, ◌≤ℤ◌, List, [], ◌∷◌, length, sum, eqb, cond, not, arith, sym, ap, ◌∙◌, subst}
use Rattle.ta_rest.proofs.Common.{slice_get, ints, eqb_tells, Automaton, Config, Step, Steps, from_within, to_within, LoopsAlone, cond-false, cond-true}
use Rattle.ta_base.proofs.Sums.{weighted_sum-most, weighted_sum-moved}
unfoldable use Rattle.ta_base.proofs.Sums.{weighted_sum}
use Rattle.std.proofs.Math.IntN.{pos-*ℤ-pos}
use Rattle.ta_rest.specs.Moves.{MovesAreBounded, is_move, moves_count}
use Rattle.ta_rest.proofs.Heights.{height_of, height_below, height_falls}

-- a step lowers the weight, or is a self-loop's
step_falls : (a : Automaton) → LoopsAlone a → (r : ℕ) (c d : Config) (step : Step a r c d) → length c.counters ≡ length a.locations
    → cond (is_move (slice_get a.rules r)) 1 0 + weighted_sum (height_of a) 0 d.counters ≤ weighted_sum (height_of a) 0 c.counters
step_falls a alone r c d step count =
    let rule = step.rule in
    let h = height_of a in
    let from = from_within a r rule step.named in
    let to = to_within a r rule step.named in
    let moved = weighted_sum-moved h rule.from rule.to c.counters d.counters (omega arith) (omega arith) step.move.counters_count step.move.moved in
    let kind : is_move (slice_get a.rules r) ≡ not (eqb rule.from rule.to) = ap is_move step.named in
    elim (eqb_tells rule.from rule.to) [
      | inl e ↦ (
          let none : cond {A = ℕ} (is_move (slice_get a.rules r)) 1 0 ≡ 0 = cond-false (is_move (slice_get a.rules r)) 1 0 (kind ∙ ap not e.0) in
          let same : h rule.from ≡ h rule.to = ap h e.1 in
          omega arith)
      | inr ne ↦ (
          let one : cond {A = ℕ} (is_move (slice_get a.rules r)) 1 0 ≡ 1 = cond-true (is_move (slice_get a.rules r)) 1 0 (kind ∙ ap not ne.0) in
          let falls = height_falls a alone r rule step.named ne.1 in
          omega arith)
    ]

run_falls : (a : Automaton) → LoopsAlone a → (c : Config) (rules : List ℕ) (later : List Config) → Steps a c rules later
    → length c.counters ≡ length a.locations → moves_count a rules ≤ weighted_sum (height_of a) 0 c.counters
unfolding moves_count
run_falls a alone c [] [] steps count = omega arith
run_falls a alone c [] (d ∷ later) steps count = absurd steps
run_falls a alone c (r ∷ rules) [] steps count = absurd steps
run_falls a alone c (r ∷ rules) (d ∷ later) steps count =
    omega (arith, step_falls a alone r c d steps.0 count, run_falls a alone d rules later steps.1 (steps.0.move.counters_count ∙ count))

pub moves_bounded : MovesAreBounded
moves_bounded a alone first rules later run =
    let count = run.initial.locations_count in
    let falls = run_falls a alone first rules later run.steps count in
    let most = weighted_sum-most (height_of a) (length a.locations - 1) 0 first.counters (λ l b. let h = height_below a alone l (omega arith) in omega arith) in
    let bound : pos (moves_count a rules) ≤ℤ pos (sum first.counters * (length a.locations - 1)) = omega (arith, ints) in
    subst (λ z. pos (moves_count a rules) ≤ℤ z)
    (sym (pos-*ℤ-pos (sum first.counters) (length a.locations - 1)) ∙ ap (λ z. z *ℤ pos (length a.locations - 1)) run.initial.processes) bound
