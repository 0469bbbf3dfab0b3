-- how many marks a run has
use Rattle.ta_replay.proofs.Common.{◌≡◌, inl, inr, ℕ, zero, suc, ◌+◌, ◌<◌, ◌≤◌, List, [], ◌∷◌, length, eqb, cond, arith, sym, ap, ◌∙◌, refl, Some, eqb_tells}
use Rattle.ta_replay.proofs.Common.{AllByRecursion, some_at, sum_below, sum-ones, Automaton, Pattern, Run, RunLine, Step, Mark, LineFits, MarksAt, ShowsPattern}
use Rattle.ta_replay.proofs.Common.{marks_count}

-- how many lines mark an event
marks_of : List RunLine → ℕ → ℕ
marks_of [] e = 0
marks_of (Step r k ∷ lines) e = marks_of lines e
marks_of (Mark x ∷ lines) e = cond (eqb e x) 1 0 + marks_of lines e

sum-zero : (n : ℕ) → sum_below (marks_of []) n ≡ 0
unfolding sum_below marks_of
sum-zero zero = refl
sum-zero (suc n) = omega (arith, sum-zero n)

sum-step : (r : ℕ) (k : _) (lines : List RunLine) (n : ℕ) → sum_below (marks_of (Step r k ∷ lines)) n ≡ sum_below (marks_of lines) n
unfolding sum_below marks_of
sum-step r k lines zero = refl
sum-step r k lines (suc n) = ap (λ m. m + marks_of lines n) (sum-step r k lines n)

sum-other : (x : ℕ) (lines : List RunLine) (n : ℕ) → n ≤ x → sum_below (marks_of (Mark x ∷ lines)) n ≡ sum_below (marks_of lines) n
unfolding sum_below marks_of
sum-other x lines zero b = refl
sum-other x lines (suc n) b = elim (eqb_tells n x) [
  | inl same ↦ absurd (let s = same.1 in omega arith)
  | inr other ↦ rw other.0 (omega (arith, sum-other x lines n (omega arith)))
]

sum-mark : (x : ℕ) (lines : List RunLine) (n : ℕ) → x < n → sum_below (marks_of (Mark x ∷ lines)) n ≡ 1 + sum_below (marks_of lines) n
unfolding sum_below marks_of
sum-mark x lines zero b = absurd (omega arith)
sum-mark x lines (suc n) b = elim (eqb_tells n x) [
  | inl same ↦ rw same.0 (omega (arith, sum-other x lines n (let s = same.1 in omega arith)))
  | inr other ↦ rw other.0 (omega (arith, sum-mark x lines n (let s = other.1 in omega arith)))
]

all_marks : (a : Automaton) (p : Pattern) (lines : List RunLine) → AllByRecursion (LineFits a p) lines
    → marks_count lines ≡ sum_below (marks_of lines) (length p.events)
all_marks a p [] fits = sym (sum-zero (length p.events))
all_marks a p (Step r k ∷ lines) fits = all_marks a p lines fits.1 ∙ sym (sum-step r k lines (length p.events))
all_marks a p (Mark x ∷ lines) fits = ap (λ n. 1 + n) (all_marks a p lines fits.1) ∙ sym (sum-mark x lines (length p.events) fits.0)

none_of : (lines : List RunLine) (e : ℕ) → ((j : ℕ) → MarksAt lines j e → ⊥) → marks_of lines e ≡ 0
unfolding marks_of
none_of [] e none = refl
none_of (Step r k ∷ lines) e none = none_of lines e (λ j at. none (suc j) at)
none_of (Mark x ∷ lines) e none = elim (eqb_tells e x) [
  | inl same ↦ absurd (none 0 (ap (λ n. Some (Mark n)) (sym same.1)))
  | inr other ↦ rw other.0 (omega (arith, none_of lines e (λ j at. none (suc j) at)))
]

one_of : (lines : List RunLine) (e i : ℕ) → MarksAt lines i e → ((j : ℕ) → MarksAt lines j e → j ≡ i) → marks_of lines e ≡ 1
unfolding marks_of
one_of [] e i at once = absurd (cc)
one_of (Step r k ∷ lines) e zero at once = absurd (cc)
one_of (Step r k ∷ lines) e (suc i) at once = one_of lines e i at (λ j there. let s = once (suc j) there in omega arith)
one_of (Mark x ∷ lines) e zero at once = elim (eqb_tells e x) [
  | inl same ↦ rw same.0 (omega (arith, none_of lines e (λ j there. let s = once (suc j) there in absurd (omega arith))))
  | inr other ↦ absurd (other.1 (let s : x ≡ e = cc in sym s))
]
one_of (Mark x ∷ lines) e (suc i) at once = elim (eqb_tells e x) [
  | inl same ↦ absurd (let s = once 0 (ap (λ n. Some (Mark n)) (sym same.1)) in omega arith)
  | inr other ↦ rw other.0 (omega (arith, one_of lines e i at (λ j there. let s = once (suc j) there in omega arith)))
]

-- a run that shows a pattern has as many marks as the pattern has events
pub marks_are_events : (a : Automaton) (p : Pattern) (run : Run) → AllByRecursion (LineFits a p) run.lines → ShowsPattern a p run
    → marks_count run.lines ≡ length p.events
marks_are_events a p run fits s =
    all_marks a p run.lines fits
    ∙ sum-ones (marks_of run.lines) (length p.events) (λ e b.
    let event = some_at p.events e b in
    let m = s.marked e event.0 event.1 in
    one_of run.lines e m.line m.marked m.once)
