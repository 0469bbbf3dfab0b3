-- the run of a solution of an added event's word ends with its mark
use Rattle.ta_witness.proofs.Common.{Event, Meaning, Piece, last_lines, piece_lines, pieces_lines, step_line}
use Rattle.ta_witness.proofs.RestCommon.{◌≡◌, inl, inr, ℕ, ◌≤◌, ℤ, true, List, [], ◌∷◌, ◌++◌, map, length, length-append, append_assoc, append-nil, reverse}
use Rattle.ta_witness.proofs.RestCommon.{arith, sym, ap, ◌∙◌, subst, slice_get, None, reverse-append, reverse-reverse, same_Some, AllByRecursion, bit_set}
use Rattle.ta_witness.proofs.RestCommon.{each_back, Automaton, Pattern, File, has_bit, Element, Solution, EndingsOf, by_event, Run, RunLine, Mark, Fits}
use Rattle.ta_witness.proofs.RestCommon.{LineFits, WitnessOf, PiecesBack, pieces_back, values_of, parts_of, IsRestSolution, Event as PatternEvent}
use Rattle.ta_witness.proofs.Making.{pieces_lines-append}
use Rattle.ta_witness.proofs.OwnRuns.{ending_at}
use Rattle.ta_witness.proofs.Resting.{rest_at, solutions_solve}

-- lines that end with the mark of an event
abbrev pub EndsWithMark : ℕ → List RunLine → Type 0
EndsWithMark e lines = (front : List RunLine) × (lines ≡ front ++ Mark e ∷ [])

pub marked_piece : (piece : Piece) (e : ℕ) → piece.last ≡ None → piece.marks ≡ e ∷ [] → piece_lines piece ≡ map step_line piece.steps ++ Mark e ∷ []
marked_piece piece e last marks = λ i. map step_line piece.steps ++ (last_lines (last i) ++ map Mark (marks i))

newest_marked : (a : Automaton) (value : Meaning → ℤ) (e : ℕ) (older : List Element) (newest : List Piece) → PiecesBack a value (Event e ∷ older) newest
    → EndsWithMark e (pieces_lines (reverse newest))
newest_marked a value e older [] back = absurd back
newest_marked a value e older (piece ∷ back) h =
    let before = pieces_lines (reverse back) in
    let steps = map step_line piece.steps in (
      before ++ steps,
      ap pieces_lines (reverse-append (piece ∷ []) back)
          ∙ pieces_lines-append (reverse back) (piece ∷ [])
          ∙ ap (λ (ls : List RunLine). before ++ ls) (append-nil (piece_lines piece) ∙ marked_piece piece e h.0.ends.0 h.0.ends.1)
          ∙ sym (append_assoc before steps (Mark e ∷ [])),
    )

-- the run of a solution of a system of rest ends with the mark of an event
ends_marked : (file : File) (solution : Solution) (s : IsRestSolution file solution) (run : Run) → 1 ≤ length s.pattern.events → WitnessOf file solution run
    → (e : ℕ) × EndsWithMark e run.lines
ends_marked file solution s run some w =
    let a = file.automaton in
    let p = s.pattern in
    let word = solution.word in
    let r = rest_at file solution s in
    let h = parts_of file solution (solutions_solve file solution s) run w in
    let value = values_of a p solution.start_mask (reverse word) s.solved.values in
    let newest = by_event a p solution.start_mask (reverse word) some r.legal r.complete in
    let back = subst (λ (past : List Element). PiecesBack a value past (reverse h.pieces)) newest.2 (pieces_back a value word h.pieces h.are) in
    let found = newest_marked a value newest.0 newest.1 (reverse h.pieces) back in
    (newest.0, (found.0, h.lines ∙ ap pieces_lines (sym (reverse-reverse h.pieces)) ∙ found.1))

-- where an event was added, it is the only one
pub ends_with_mark : (file ending : File) (added : ℕ) → EndingsOf file ending added → (solution : Solution) → IsRestSolution ending solution → (run : Run)
    → Fits ending run → WitnessOf ending solution run → has_bit added run.pattern ≡ true → (lines : List RunLine) × (run.lines ≡ lines ++ Mark 0 ∷ [])
ends_with_mark file ending added ends solution s run fits w bit =
    let q = fits.pattern in
    let same : q ≡ s.pattern = same_Some q s.pattern (sym fits.named ∙ ap (slice_get ending.patterns) w.same_pattern ∙ s.named) in
    let own = ending_at file.patterns ending.patterns ends.patterns run.pattern q fits.named in
    let p = own.0 in
    let x = (ends.added run.pattern).0 (bit_set added run.pattern bit) in
    let eventless : p.events ≡ [] = ap (λ (y : Pattern). y.events) (same_Some p x.0 (sym own.1 ∙ x.1)) ∙ x.2 in
    let one : length q.events ≡ 1 = elim own.2.events [
      | inl m ↦ absurd (let size = ap (λ (xs : List PatternEvent). length xs) (sym m.was ∙ eventless) in omega (arith, length-append m.front (m.last ∷ [])))
      | inr m ↦ ap (λ (xs : List PatternEvent). length xs) m.is
    ] in
    let some : 1 ≤ length s.pattern.events = subst (λ (y : Pattern). 1 ≤ length y.events) same (omega arith) in
    let found = ends_marked ending solution s run some w in
    let front = found.1.0 in
    let fit = each_back (LineFits ending.automaton q) front (Mark found.0 ∷ []) (subst (AllByRecursion (LineFits ending.automaton q)) found.1.1 fits.lines) in
    let zero_is : found.0 ≡ 0 = (let b = fit.0 in omega arith) in
    (front, found.1.1 ∙ ap (λ e. front ++ Mark e ∷ []) zero_is)
