-- the marks of sorted stops: by the sums of the events' counts, those with the same sum by number
use Rattle.ta_witness.proofs.Common.{◌⊎◌, In-left, In-right, place_of, Rising, firings_in}
use Rattle.ta_moments.proofs.Common.{◌≡◌, inl, inr, ℕ, zero, suc, ◌<◌, ◌≤◌, List, [], ◌∷◌, ◌++◌, slice_get, Some, arith, sym, ap, ◌∙◌, refl, subst}
use Rattle.ta_moments.proofs.Common.{same_Some, cases_lt, In, in_append, in_at}
unfoldable use Rattle.ta_witness.specs.Stops.{sorted_stops, with_stop}
use Rattle.ta_witness.specs.Stops.{Stop}
use Rattle.ta_witness.proofs.Walking.{stop_counts, stop_marks}
use Rattle.ta_witness.proofs.Sorting.{go_or_stay, sorted_only, sorted_rising, with_only}

-- an event comes before another: its sum is less, or no greater and its number is less
abbrev pub Sooner : (ℕ → ℕ) → ℕ → ℕ → Type 0
Sooner sum m n = (sum m < sum n) ⊎ ((sum m ≤ sum n) × (m < n))

abbrev pub InTurn : (ℕ → ℕ) → List ℕ → Type 0
InTurn sum [] = Unit {0}
InTurn sum (m ∷ ms) = ((n : ℕ) → In n ms → Sooner sum m n) × InTurn sum ms

-- a stop marks no event, or one whose sum is its own
abbrev pub MarksOwn : List ℕ → (ℕ → ℕ) → Stop → Type 0
MarksOwn rs sum s = (s.marks ≡ []) ⊎ ((e : ℕ) × (s.marks ≡ e ∷ []) × (sum e ≡ firings_in rs s.counts))

-- events are marked by number
abbrev pub ByNumber : List Stop → Type 0
ByNumber [] = Unit {0}
ByNumber (s ∷ ss) = ((m n : ℕ) → In m s.marks → In n (stop_marks ss) → m < n) × ByNumber ss

own_sum : (rs : List ℕ) (sum : ℕ → ℕ) (s : Stop) (m : ℕ) → MarksOwn rs sum s → In m s.marks → sum m ≡ firings_in rs s.counts
own_sum rs sum s m (inl none) i = absurd (subst (In m) none i)
own_sum rs sum s m (inr w) i = elim (subst (In m) w.1 i) [ inl e ↦ ap sum e ∙ w.2 | inr j ↦ absurd j ]

add_marks : (rs : List ℕ) (sum : ℕ → ℕ) (s : Stop) (ms : List ℕ) → MarksOwn rs sum s → ((m n : ℕ) → In m s.marks → In n ms → Sooner sum m n) → InTurn sum ms
    → InTurn sum (s.marks ++ ms)
add_marks rs sum s ms (inl none) sooner h = subst (λ (xs : List ℕ). InTurn sum (xs ++ ms)) (sym none) h
add_marks rs sum s ms (inr w) sooner h = subst (λ (xs : List ℕ). InTurn sum (xs ++ ms)) (sym w.1)
    ((λ n i. sooner w.0 n (subst (In w.0) (sym w.1) (inl refl)) i), h)

turn_of : (sum : ℕ → ℕ) (xs ys : List ℕ) (m n : ℕ) → InTurn sum (xs ++ ys) → In m xs → In n ys → Sooner sum m n
turn_of sum [] ys m n h i j = absurd i
turn_of sum (x ∷ xs) ys m n h (inl e) j = subst (λ (z : ℕ). Sooner sum z n) (sym e) (h.0 n (In-right n xs ys j))
turn_of sum (x ∷ xs) ys m n h (inr i) j = turn_of sum xs ys m n h.1 i j

turn_right : (sum : ℕ → ℕ) (xs ys : List ℕ) → InTurn sum (xs ++ ys) → InTurn sum ys
turn_right sum [] ys h = h
turn_right sum (x ∷ xs) ys h = turn_right sum xs ys h.1

-- a mark is one of a stop's
pub mark_in : (ss : List Stop) (n : ℕ) → In n (stop_marks ss) → (s : Stop) × In s ss × In n s.marks
mark_in [] n i = absurd i
mark_in (s ∷ ss) n i = elim (in_append n s.marks (stop_marks ss) i) [
  | inl j ↦ (s, inl refl, j)
  | inr j ↦ (let w = mark_in ss n j in (w.0, inr w.1, w.2))
]

pub in_mark : (ss : List Stop) (s : Stop) (n : ℕ) → In s ss → In n s.marks → In n (stop_marks ss)
in_mark [] s n i j = absurd i
in_mark (x ∷ ss) s n (inl e) j = In-left n x.marks (stop_marks ss) (subst (λ (z : Stop). In n z.marks) e j)
in_mark (x ∷ ss) s n (inr i) j = In-right n x.marks (stop_marks ss) (in_mark ss s n i j)

pub stop_high : (rs : List ℕ) (low : ℕ) (ss : List Stop) → Rising rs low (stop_counts ss) → (s : Stop) → In s ss → low ≤ firings_in rs s.counts
stop_high rs low [] h s i = absurd i
stop_high rs low (x ∷ ss) h s (inl e) = subst (λ (z : Stop). low ≤ firings_in rs z.counts) (sym e) h.0
stop_high rs low (x ∷ ss) h s (inr i) = let le = h.0 in omega (arith, le, stop_high rs (firings_in rs x.counts) ss h.1 s i)

with_turn : (rs : List ℕ) (sum : ℕ → ℕ) (low : ℕ) (s : Stop) (ts : List Stop) → Rising rs low (stop_counts ts) → MarksOwn rs sum s
    → ((t : Stop) → In t ts → MarksOwn rs sum t) → ((m n : ℕ) → In m s.marks → In n (stop_marks ts) → m < n)
    → InTurn sum (stop_marks ts) → InTurn sum (stop_marks (with_stop rs s ts))
unfolding with_stop
with_turn rs sum low s [] rising own owns less h = add_marks rs sum s [] own (λ m n i j. absurd j) tt
with_turn rs sum low s (t ∷ ts) rising own owns less h = elim (go_or_stay rs s t ts) [
  | inl w ↦ (
      let before = w.0 in
      let one = owns t (inl refl) in
      subst (λ (xs : List Stop). InTurn sum (stop_marks xs)) (sym w.1) (add_marks rs sum t (stop_marks (with_stop rs s ts)) one (λ m n i j.
      let k = mark_in (with_stop rs s ts) n j in
      elim (with_only rs s ts k.0 k.1) [
        | inl e ↦ (
            let mine : In n s.marks = subst (λ (z : Stop). In n z.marks) e k.2 in
            inl (omega (arith, own_sum rs sum t m one i, own_sum rs sum s n own mine, before)))
        | inr there ↦ turn_of sum t.marks (stop_marks ts) m n h i (in_mark ts k.0 n there k.2)
      ]) (with_turn rs sum (firings_in rs t.counts) s ts rising.1 own (λ u i. owns u (inr i)) (λ m n i j. less m n i (In-right n t.marks (stop_marks ts) j))
      (turn_right sum t.marks (stop_marks ts) h))))
  | inr w ↦ (
      let most = w.0 in
      subst (λ (xs : List Stop). InTurn sum (stop_marks xs)) (sym w.1) (add_marks rs sum s (stop_marks (t ∷ ts)) own (λ m n i j.
      let k = mark_in (t ∷ ts) n j in
      let up : firings_in rs t.counts ≤ firings_in rs (k.0).counts = stop_high rs (firings_in rs t.counts) (t ∷ ts) (omega arith, rising.1) k.0 k.1 in
      inr (omega (arith, own_sum rs sum s m own i, own_sum rs sum k.0 n (owns k.0 k.1) k.2, most, up), less m n i j)) h))
]

pub sorted_turn : (rs : List ℕ) (sum : ℕ → ℕ) (ss : List Stop) → ((s : Stop) → In s ss → MarksOwn rs sum s) → ByNumber ss
    → InTurn sum (stop_marks (sorted_stops rs ss))
unfolding sorted_stops
sorted_turn rs sum [] owns numbers = tt
sorted_turn rs sum (s ∷ ss) owns numbers =
    with_turn rs sum 0 s (sorted_stops rs ss) (sorted_rising rs ss) (owns s (inl refl)) (λ t i. owns t (inr (sorted_only rs ss t i))) (λ m n i j.
    let k = mark_in (sorted_stops rs ss) n j in
    numbers.0 m n i (in_mark ss k.0 n (sorted_only rs ss k.0 k.1) k.2)) (sorted_turn rs sum ss (λ t i. owns t (inr i)) numbers.1)

turn_at : (sum : ℕ → ℕ) (ms : List ℕ) → InTurn sum ms → (i j m n : ℕ) → slice_get ms i ≡ Some m → slice_get ms j ≡ Some n → i < j → Sooner sum m n
turn_at sum [] h i j m n at there less = absurd (cc)
turn_at sum (x ∷ ms) h zero zero m n at there less = absurd (omega arith)
turn_at sum (x ∷ ms) h zero (suc j) m n at there less = subst (λ (z : ℕ). Sooner sum z n) (same_Some x m at) (h.0 n (in_at ms j n there))
turn_at sum (x ∷ ms) h (suc i) zero m n at there less = absurd (omega arith)
turn_at sum (x ∷ ms) h (suc i) (suc j) m n at there less = turn_at sum ms h.1 i j m n at there (omega arith)

-- an event with a lower number and no greater sum is marked before
pub marked_before : (sum : ℕ → ℕ) (ms : List ℕ) → InTurn sum ms → (e f i : ℕ) → slice_get ms i ≡ Some e → f < e → sum f ≤ sum e → In f ms → (j : ℕ) × (j < i)
    × (slice_get ms j ≡ Some f)
marked_before sum ms h e f i at less le there =
    let w = place_of f ms there in
    let j = w.0 in
    elim (cases_lt j i) [
      | inl b ↦ (j, b, w.1)
      | inr most ↦ elim (cases_lt i j) [
        | inl b ↦ absurd (elim (turn_at sum ms h i j e f at w.1 b) [ inl x ↦ omega (arith, x, le) | inr x ↦ (let y = x.1 in omega (arith, y, less)) ])
        | inr least ↦ absurd (
            let same : i ≡ j = omega arith in
            let one : e ≡ f = same_Some e f (sym at ∙ ap (slice_get ms) same ∙ w.1) in
            omega (arith, less, one))
      ]
    ]
