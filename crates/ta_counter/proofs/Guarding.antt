-- guards one after another
use Rattle.ta_counter.proofs.Common.{◌≡◌, inl, inr, ℕ, ◌+◌, ◌≤◌, ℤ, List, [], ◌∷◌, length, arith, refl, subst, slice_get, Some, IsBitSet, AllByRecursion}
use Rattle.ta_counter.proofs.Common.{PassedTo, Row, Rule, Automaton, RiseRow, FallRow, StepFault, Count, OutOfRange, Guard, RowPasses, RowFails, RowsOver}
use Rattle.ta_counter.proofs.Common.{places_of, MaskedPass, MaskedStop, GuardRowFault, MaskedFault, GuardFault}
use Rattle.ta_linear.proofs.TermLemmas.{IsNormal-higher}

pub masked_fault : (point : ℕ → ℤ) (mask : ℕ) (rows : List Row) (places first number : ℕ) (row : Row) (fault : StepFault)
    → PassedTo (λ j (other : Row). IsBitSet mask j → RowPasses point other) rows number → slice_get rows number ≡ Some row → IsBitSet mask number
    → GuardRowFault point row places (first + number) fault → MaskedFault point mask rows places first fault
masked_fault point mask rows places first number row Count before at bit h = h
masked_fault point mask rows places first number row (OutOfRange place) before at bit h =
    (number, h.0, record { item = row; at = at; before = before; bad = (bit, h.1) })
masked_fault point mask rows places first number row (Guard guard) before at bit h =
    (number, h.0, record { item = row; at = at; before = before; bad = (bit, h.1) })

rise_over : (p s n : ℕ) (rows : List Row) → p + s ≤ n → AllByRecursion (RiseRow p s) rows → RowsOver n rows
rise_over p s n [] h e = tt
rise_over p s n (row ∷ rows) h e = (IsNormal-higher 0 (p + s) n row.form.terms h ((e.0).over).below, rise_over p s n rows h e.1)

fall_over : (p s n : ℕ) (rows : List Row) → p + s ≤ n → AllByRecursion (FallRow p s) rows → RowsOver n rows
fall_over p s n [] h e = tt
fall_over p s n (row ∷ rows) h e = (IsNormal-higher 0 (p + s) n row.form.terms h ((e.0).over).below, fall_over p s n rows h e.1)

pub rise_rows_over : (a : Automaton) (n : ℕ) → n ≡ places_of a → RowsOver n a.rise
rise_rows_over a n same = rise_over (length a.parameters) (length a.shared) n a.rise (omega arith) a.shape.rise_rows

pub fall_rows_over : (a : Automaton) (n : ℕ) → n ≡ places_of a → RowsOver n a.fall
fall_rows_over a n same = fall_over (length a.parameters) (length a.shared) n a.fall (omega arith) a.shape.fall_rows

pub rise_fault : (a : Automaton) (rule : Rule) (now last : ℕ → ℤ) (n : ℕ) (fault : StepFault) → n ≡ places_of a → MaskedFault now rule.rise a.rise n 0 fault
    → GuardFault a rule now last fault
rise_fault a rule now last n Count same h = h
rise_fault a rule now last n (OutOfRange place) same h = (h.0, (let e = h.1 in omega arith), inl h.2)
rise_fault a rule now last n (Guard guard) same h =
    let number : h.0 ≡ guard = (let e = h.1 in omega arith) in
    inl (subst (MaskedStop now rule.rise (RowFails now) a.rise) number h.2)

pub fall_fault : (a : Automaton) (rule : Rule) (now last : ℕ → ℤ) (n first : ℕ) (fault : StepFault) → n ≡ places_of a → first ≡ length a.rise
    → MaskedPass now rule.rise a.rise → MaskedFault last rule.fall a.fall n first fault → GuardFault a rule now last fault
fall_fault a rule now last n first Count same count pass h = h
fall_fault a rule now last n first (OutOfRange place) same count pass h =
    (length a.rise + h.0, (let e = h.1 in omega arith), inr (pass, (h.0, refl, h.2)))
fall_fault a rule now last n first (Guard guard) same count pass h = inr (pass, (h.0, (let e = h.1 in omega arith), h.2))
