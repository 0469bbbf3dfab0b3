-- a run that shows its pattern is an occurrence of it
use Rattle.ta_replay.proofs.Common.{◌≡◌, inl, inr, ℕ, zero, suc, ◌<◌, ◌≤◌, List, [], ◌∷◌, length, take, replicate, unsigned_abs, arith, sym, ap, refl, subst}
use Rattle.ta_replay.proofs.Common.{slice_get, Some, length-append, cases_lt, get_or_past, slice_get-get_or, slice_get_within, Event, HappensAt, RunLine, Step}
use Rattle.ta_replay.proofs.Common.{Mark, unit_steps, steps_before, MarksAt, MarkedOnce, ShownRunsOccur}
use Rattle.ta_automaton.specs.Runs.{Config}

-- the further down a line, the more steps stand before it
pub steps_before_le : (lines : List RunLine) (j i : ℕ) → j ≤ i → steps_before lines j ≤ steps_before lines i
steps_before_le lines zero i h = omega arith
steps_before_le lines (suc j) zero h = absurd (omega arith)
steps_before_le [] (suc j) (suc i) h = omega arith
steps_before_le (Step r k ∷ lines) (suc j) (suc i) h =
    let rest = steps_before_le lines j i (omega arith) in
    let left = length-append (replicate (unsigned_abs k) r) (unit_steps (take j lines)) in
    let right = length-append (replicate (unsigned_abs k) r) (unit_steps (take i lines)) in
    omega arith
steps_before_le (Mark e ∷ lines) (suc j) (suc i) h = steps_before_le lines j i (omega arith)

-- a number for each item
record Chosen {X : Type 0} (P : ℕ → X → ℕ → Type 0) (items : List X) : Type 0 where
  numbers : List ℕ
  count : length numbers ≡ length items
  each : (i : ℕ) (x : X) (n : ℕ) → slice_get items i ≡ Some x → slice_get numbers i ≡ Some n → P i x n

choose : {X : Type 0} (P : ℕ → X → ℕ → Type 0) (items : List X) → ((i : ℕ) (x : X) → slice_get items i ≡ Some x → (n : ℕ) × P i x n) → Chosen P items
choose P [] h = record { numbers = []; count = refl; each = λ i x n at there. absurd (cc) }
choose {X} P (y ∷ ys) h =
    let here = h 0 y refl in
    let rest = choose (λ i x n. P (suc i) x n) ys (λ i x at. h (suc i) x at) in
    record { numbers = here.0 ∷ rest.numbers; count = ap suc rest.count; each = both here.0 rest.numbers here.1 rest.each } where
      both : (m : ℕ) (ns : List ℕ) → P 0 y m → ((i : ℕ) (x : X) (n : ℕ) → slice_get ys i ≡ Some x → slice_get ns i ≡ Some n → P (suc i) x n)
          → (i : ℕ) (x : X) (n : ℕ) → slice_get (y ∷ ys) i ≡ Some x → slice_get (m ∷ ns) i ≡ Some n → P i x n
      both m ns first more zero x n at there =
          let item : y ≡ x = cc in
          let number : m ≡ n = cc in
          subst (λ z. P 0 z n) item (subst (λ k. P 0 y k) number first)
      both m ns first more (suc i) x n at there = more i x n at there

-- the position of an event's mark
record Position (lines : List RunLine) (first : Config) (later : List Config) (e : ℕ) (event : Event) (n : ℕ) : Type 0 where
  mark : MarkedOnce lines first later e event
  is : n ≡ steps_before lines mark.line

position_before : (lines : List RunLine) (first : Config) (later : List Config) (e f : ℕ) (event other : Event) (n m : ℕ)
    → (p : Position lines first later e event n) → (q : Position lines first later f other m) → (j : ℕ) → j < p.mark.line → MarksAt lines j f → m ≤ n
position_before lines first later e f event other n m p q j less at =
    let same = q.mark.once j at in
    let le = steps_before_le lines j p.mark.line (omega arith) in
    let there = ap (steps_before lines) same in
    let a = p.is in
    let b = q.is in
    omega arith

pub shown_occurs : ShownRunsOccur
shown_occurs file run shown =
    let s = shown.shows in
    let p = shown.pattern in
    let chosen = choose (λ e event n. Position run.lines s.first s.later e event n) p.events
    (λ e event at. let m = s.marked e event at in (steps_before run.lines m.line, record { mark = m; is = refl })) in
    record {
      later = s.later;
      run = s.follows;
      start = s.start;
      kept_empty = λ l bit k d b. s.kept_empty k _ (slice_get-get_or (s.first ∷ s.later) k d b) l bit;
      positions = chosen.numbers;
      each_has_one = chosen.count;
      happens = λ e event k at there.
          let q = chosen.each e event k at there in
          subst (HappensAt s.first s.later event) (sym q.is) q.mark.happens;
      in_order = λ e f event at bit.
          let b = slice_get_within p.events e event at in
          let here = slice_get-get_or chosen.numbers e 0 (omega (arith, chosen.count)) in
          let q = chosen.each e event _ at here in
          let w = s.in_order e f q.mark.line event at bit q.mark.marked in
          elim (cases_lt f (length p.events)) [
            | inl c ↦ (
                let other = slice_get-get_or p.events f event c in
                let there = slice_get-get_or chosen.numbers f 0 (omega (arith, chosen.count)) in
                let o = chosen.each f _ _ other there in
                position_before run.lines s.first s.later e f event _ _ _ q o w.0 w.1 w.2)
            | inr c ↦ (
                let none = get_or_past chosen.numbers f 0 (omega (arith, chosen.count)) in
                omega arith)
          ];
    }
