-- stops by the sum of their counts
use Rattle.ta_witness.proofs.Common.{◌⊎◌, nat_lt, below_by, beyond_by, Rising, firings_in}
use Rattle.ta_moments.proofs.Common.{true, false, cond, ◌≡◌, inl, inr, ℕ, ◌+◌, ◌<◌, ◌≤◌, List, [], ◌∷◌, ◌++◌, arith, sym, ap, refl, subst, cases_Bool, In}
use Rattle.ta_moments.proofs.Common.{times_in, times-append}
unfoldable use Rattle.ta_witness.specs.Stops.{sorted_stops, with_stop}
use Rattle.ta_witness.specs.Stops.{Stop}
use Rattle.ta_witness.proofs.Walking.{stop_counts, stop_marks}

-- where a stop goes
pub goes_on : (rs : List ℕ) (s t : Stop) (ts : List Stop) → nat_lt (firings_in rs t.counts) (firings_in rs s.counts) ≡ true
    → with_stop rs s (t ∷ ts) ≡ t ∷ with_stop rs s ts
unfolding with_stop
goes_on rs s t ts e = ap (λ b. cond b (t ∷ with_stop rs s ts) (s ∷ t ∷ ts)) e

pub stays : (rs : List ℕ) (s t : Stop) (ts : List Stop) → nat_lt (firings_in rs t.counts) (firings_in rs s.counts) ≡ false
    → with_stop rs s (t ∷ ts) ≡ s ∷ t ∷ ts
unfolding with_stop
stays rs s t ts e = ap (λ b. cond b (t ∷ with_stop rs s ts) (s ∷ t ∷ ts)) e

-- the two ways
pub go_or_stay : (rs : List ℕ) (s t : Stop) (ts : List Stop)
    → ((firings_in rs t.counts < firings_in rs s.counts) × (with_stop rs s (t ∷ ts) ≡ t ∷ with_stop rs s ts))
    ⊎ ((firings_in rs s.counts ≤ firings_in rs t.counts) × (with_stop rs s (t ∷ ts) ≡ s ∷ t ∷ ts))
go_or_stay rs s t ts = elim (cases_Bool (nat_lt (firings_in rs t.counts) (firings_in rs s.counts))) [
  | inl e ↦ inl (
    below_by (firings_in rs t.counts) (firings_in rs s.counts) (nat_lt (firings_in rs t.counts) (firings_in rs s.counts)) refl e,
    goes_on rs s t ts
        e,
  )
  | inr e ↦ inr (
    beyond_by (firings_in rs t.counts) (firings_in rs s.counts) (nat_lt (firings_in rs t.counts) (firings_in rs s.counts)) refl e,
    stays rs s t ts
        e,
  )
]

with_rising : (rs : List ℕ) (low : ℕ) (s : Stop) (ts : List Stop) → Rising rs low (stop_counts ts) → low ≤ firings_in rs s.counts
    → Rising rs low (stop_counts (with_stop rs s ts))
unfolding with_stop
with_rising rs low s [] h le = (le, tt)
with_rising rs low s (t ∷ ts) h le = elim (go_or_stay rs s t ts) [
  | inl w ↦ (
      let more : firings_in rs t.counts ≤ firings_in rs s.counts = (let less = w.0 in omega arith) in
      subst (λ (xs : List Stop). Rising rs low (stop_counts xs)) (sym w.1) (h.0, with_rising rs (firings_in rs t.counts) s ts h.1 more))
  | inr w ↦ subst (λ (xs : List Stop). Rising rs low (stop_counts xs)) (sym w.1) (le, (w.0, h.1))
]

pub with_has : (rs : List ℕ) (s : Stop) (ts : List Stop) (u : Stop) → In u (s ∷ ts) → In u (with_stop rs s ts)
unfolding with_stop
with_has rs s [] u i = i
with_has rs s (t ∷ ts) u i = elim (go_or_stay rs s t ts) [
  | inl w ↦ subst (λ (xs : List Stop). In u xs) (sym w.1) (elim i [
    | inl e ↦ inr (with_has rs s ts u (inl e))
    | inr j ↦ elim j [ inl e ↦ inl e | inr k ↦ inr (with_has rs s ts u (inr k)) ]
  ])
  | inr w ↦ subst (λ (xs : List Stop). In u xs) (sym w.1) i
]

pub with_only : (rs : List ℕ) (s : Stop) (ts : List Stop) (u : Stop) → In u (with_stop rs s ts) → In u (s ∷ ts)
unfolding with_stop
with_only rs s [] u i = i
with_only rs s (t ∷ ts) u i = elim (go_or_stay rs s t ts) [
  | inl w ↦ elim (subst (λ (xs : List Stop). In u xs) w.1 i) [
    | inl e ↦ inr (inl e)
    | inr j ↦ elim (with_only rs s ts u j) [ inl e ↦ inl e | inr k ↦ inr (inr k) ]
  ]
  | inr w ↦ subst (λ (xs : List Stop). In u xs) w.1 i
]

with_times : (rs : List ℕ) (s : Stop) (ts : List Stop) (e : ℕ) → times_in e (stop_marks (with_stop rs s ts)) ≡ times_in e s.marks + times_in e (stop_marks ts)
unfolding with_stop
with_times rs s [] e = times-append e s.marks []
with_times rs s (t ∷ ts) e = elim (go_or_stay rs s t ts) [
  | inl w ↦ (
      let is : times_in e (stop_marks (with_stop rs s (t ∷ ts))) ≡ times_in e (t.marks ++ stop_marks (with_stop rs s ts)) = ap
      (λ (xs : List Stop). times_in e (stop_marks xs)) w.1 in
      omega (arith, is, times-append e t.marks (stop_marks (with_stop rs s ts)), with_times rs s ts e, times-append e t.marks (stop_marks ts)))
  | inr w ↦ (
      let is : times_in e (stop_marks (with_stop rs s (t ∷ ts))) ≡ times_in e (s.marks ++ (t.marks ++ stop_marks ts)) = ap
      (λ (xs : List Stop). times_in e (stop_marks xs)) w.1 in
      omega (arith, is, times-append e s.marks (t.marks ++ stop_marks ts)))
]

pub sorted_rising : (rs : List ℕ) (ss : List Stop) → Rising rs 0 (stop_counts (sorted_stops rs ss))
unfolding sorted_stops
sorted_rising rs [] = tt
sorted_rising rs (s ∷ ss) = with_rising rs 0 s (sorted_stops rs ss) (sorted_rising rs ss) (omega arith)

pub sorted_has : (rs : List ℕ) (ss : List Stop) (u : Stop) → In u ss → In u (sorted_stops rs ss)
unfolding sorted_stops
sorted_has rs [] u i = i
sorted_has rs (s ∷ ss) u (inl e) = with_has rs s (sorted_stops rs ss) u (inl e)
sorted_has rs (s ∷ ss) u (inr i) = with_has rs s (sorted_stops rs ss) u (inr (sorted_has rs ss u i))

pub sorted_only : (rs : List ℕ) (ss : List Stop) (u : Stop) → In u (sorted_stops rs ss) → In u ss
unfolding sorted_stops
sorted_only rs [] u i = i
sorted_only rs (s ∷ ss) u i = elim (with_only rs s (sorted_stops rs ss) u i) [ inl e ↦ inl e | inr j ↦ inr (sorted_only rs ss u j) ]

pub sorted_times : (rs : List ℕ) (ss : List Stop) (e : ℕ) → times_in e (stop_marks (sorted_stops rs ss)) ≡ times_in e (stop_marks ss)
unfolding sorted_stops
sorted_times rs [] e = refl
sorted_times rs (s ∷ ss) e = omega (arith, with_times rs s (sorted_stops rs ss) e, sorted_times rs ss e, times-append e s.marks (stop_marks ss))
