-- arranged firings lead from counts to the next ones of a chain
use Rattle.ta_witness.proofs.Common.{◌-◌, value_at, moving_rules, replicate, InScope, total-within, Counts, Stands, firings_in, value_after, ArrangedOf}
use Rattle.ta_witness.proofs.Common.{count_at, StepsWithin, arranged_steps, arranged_within, FromCounts, from_counts, firings_to, listed}
use Rattle.ta_moments.proofs.Common.{◌≡◌, inl, inr, ℕ, ◌<◌, ◌≤◌, ℤ, pos, ◌*ℤ◌, List, [], ◌∷◌, ◌++◌, length, map, cond, slice_get, arith, ints, sym, ap}
use Rattle.ta_moments.proofs.Common.{◌∙◌, refl, subst, slice_get_within, range_with_len, In, Automaton, Pattern, Config, RowHolds, change_of}
use Rattle.ta_moments.proofs.Common.{is_moving}
use Rattle.ta_automaton.proofs.Onward.{after, holds_before_last}
use Rattle.ta_base.proofs.Lists.{without_last}
use Rattle.ta_base.proofs.Times.{distinct-times}
use Rattle.ta_moments.specs.Chains.{Link}
use Rattle.ta_moments.proofs.Segments.{FiresTo, each_moving, fires_to, row_same, start_after, total_between}
use Rattle.ta_witness.proofs.Listing.{abs_one, are_listed, listed_at, listed_most, listed_moves, one_in, total_listed, two_in}

-- steps within one firing in all have none before the last
single : (a : Automaton) (p : Pattern) (n : Counts) (steps : List (ℕ × ℤ)) → StepsWithin a (listed a p n) steps → firings_in (moving_rules a p) n ≡ 1
    → without_last (arranged_steps steps) ≡ []
single a p n [] w one = refl
single a p n (s ∷ []) w one =
    let b = w.exist.0 in
    let low = w.factors.0.0 in
    let high = w.factors.0.1 in
    let m = listed_moves a p n s.0 b (omega (arith, ints, low, high)) in
    let is = abs_one s.1 low (omega (arith, ints, high, listed_most a p n s.0 b, one_in (moving_rules a p) n s.0 m.0, one)) in
    ap (λ (k : ℕ). without_last (replicate k s.0 ++ [])) is
single a p n (s ∷ t ∷ steps) w one =
    let rules = map (λ (step : ℕ × ℤ). step.0) (s ∷ t ∷ steps) in
    let apart = (distinct-times rules w.once).0.0 in
    let b = w.exist.0 in
    let c = w.exist.1.0 in
    let low = w.factors.0.0 in
    let high = w.factors.0.1 in
    let less = w.factors.1.0.0 in
    let more = w.factors.1.0.1 in
    let m = listed_moves a p n s.0 b (omega (arith, ints, low, high)) in
    let k = listed_moves a p n t.0 c (omega (arith, ints, less, more)) in
    absurd (omega (arith, two_in (moving_rules a p) n s.0 t.0 apart m.0 k.0, m.1, k.1, one))

pub fires : (a : Automaton) (p : Pattern) → InScope a → (first : Config) (v w : Counts) → Link a p first v w → (from : Config) → Stands a p first v from
    → (steps : List (ℕ × ℤ)) → ArrangedOf a (firings_to a p v w) steps → FiresTo a p first w from (arranged_steps steps)
fires a p scope first v w link from s steps h =
    let n : Counts = λ r. w r - v r in
    let rs = moving_rules a p in
    let counts = listed a p n in
    let os = arranged_steps steps in
    let f : FromCounts a counts os = from_counts a scope counts (are_listed a p n) steps h in
    let among : (o : ℕ) → In o os → In o rs × (v o < w o) = (λ o i.
    let named = f.named o i in
    let m = listed_moves a p n o (slice_get_within a.rules o named.0 named.1) (f.above o i) in
    (m.0, let some : 1 ≤ w o - v o = m.1 in omega (arith, some))) in
    let adds : (i : ℕ) → after a (value_at from) os i ≡ value_after a p first w i = (λ i.
    let one = f.sums i in
    let two = total-within (λ r. change_of a i r *ℤ count_at counts r) (λ r. change_of a i r *ℤ cond (is_moving p (slice_get a.rules r)) (pos (n r)) (pos 0)) 0
    (length a.rules) (λ r low b. ap (λ z. change_of a i r *ℤ z) (listed_at a p n r (omega arith))) in
    let three = total_listed (change_of a i) n (λ r. is_moving p (slice_get a.rules r)) (range_with_len 0 (length a.rules)) in
    omega (arith, ints, s.values i, one ∙ two ∙ three, total_between a i v w rs link.grows)) in
    fires_to a p first v w link from s os f.onward among adds (λ o rule i named j row at set.
    elim (link.fall o rule (among o i).0 (among o i).1 named j row at set) [
      | inl end ↦ holds_before_last a (value_at from) os (each_moving a p os (λ x k. (among x k).0)) j row at
          (row_same (value_after a p first w) (after a (value_at from) os) (λ x. sym (adds x)) row end)
      | inr begin ↦ (
          let none = single a p n steps (arranged_within a scope counts (are_listed a p n) steps h) begin.0 in
          subst (λ (xs : List ℕ). RowHolds (after a (value_at from) xs) row) (sym none)
          (row_same (value_after a p first v) (after a (value_at from) []) (λ x. start_after a (value_at from) (value_after a p first v) s.values x) row
          begin.1))
    ])
