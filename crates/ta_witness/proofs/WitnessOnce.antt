-- A solution has one run.
use Rattle.ta_witness.proofs.Common.{◌≡◌, ℕ, ℤ, pos, List, [], ◌∷◌, ◌++◌, map, length, reverse, Some, slice_get, sym, ap, ◌∙◌, refl, subst, reverse-reverse}
use Rattle.ta_witness.proofs.Common.{AllHold-left, Automaton, Pattern, File, range_with_len, Element, Event, Rise, Fall, allowed_rules, Solution, Parameter}
use Rattle.ta_witness.proofs.Common.{Start, Single, AllHold, word_rows, counts_after, meanings, one_single, only_single, singles_hold, AllHold-right, Run}
use Rattle.ta_witness.proofs.Common.{Piece, pieces_lines, unknown_value, EndsPiece, PieceOf, PiecesOf, WitnessOf, WitnessesAreDetermined, counts_before}
use Rattle.ta_witness.proofs.Common.{solution_value, run_same, arranged_once}
use Rattle.ta_encode.proofs.Safety.{first_rows}
use Rattle.ta_witness.proofs.Backward.{PiecesBack, older, pieces_back, values_of}
use Rattle.ta_witness.proofs.Lookups.{one_found}

piece_same : (x y : Piece) → x.steps ≡ y.steps → x.last ≡ y.last → x.marks ≡ y.marks → x ≡ y
piece_same x y steps last marks = ap (λ s. record x { steps = s }) steps ∙ ap (λ l. record x { steps = y.steps; last = l }) last
    ∙ ap (λ m. record y { marks = m }) marks

-- the rule whose Single is 1 is one
single_same : (a : Automaton) (p : Pattern) (start : ℕ) (past : List Element) (mask : ℕ) (vs : List ℕ) (r q : ℕ)
    → AllHold vs (word_rows a p start (Fall mask ∷ past)) → values_of a p start (Fall mask ∷ past) vs (Single (length past) r) ≡ pos 1
    → values_of a p start (Fall mask ∷ past) vs (Single (length past) q) ≡ pos 1 → r ≡ q
unfolding word_rows
single_same a p start past mask vs r q rows first second =
    let before = meanings a p start past ++ counts_after a p start past in
    let ms = meanings a p start (Fall mask ∷ past) in
    let hold = singles_hold a p start past before ms mask vs (AllHold-right vs (word_rows a p start past) _ rows) in
    let one = one_single before (allowed_rules a p start past) vs hold in
    let here = only_single a p start past mask vs r (one_found ms vs (Single (length past) r) first) one in
    let there = only_single a p start past mask vs q (one_found ms vs (Single (length past) q) second) one in
    let both : r ∷ [] ≡ q ∷ [] = sym here ∙ there in
    cc

-- the piece of an element is one
ends_same : (a : Automaton) (p : Pattern) (start : ℕ) (past : List Element) (x : Element) (vs : List ℕ) (u v : Piece)
    → AllHold vs (word_rows a p start (x ∷ past)) → EndsPiece (values_of a p start (x ∷ past) vs) (length past) x u
    → EndsPiece (values_of a p start (x ∷ past) vs) (length past) x v → (u.last ≡ v.last) × (u.marks ≡ v.marks)
ends_same a p start past (Event e) vs u v rows first second = (first.0 ∙ sym second.0, first.1 ∙ sym second.1)
ends_same a p start past (Rise i) vs u v rows first second = (first.0 ∙ sym second.0, first.1 ∙ sym second.1)
ends_same a p start past (Fall mask) vs u v rows first second =
    let same = single_same a p start past mask vs first.0.0 second.0.0 rows first.0.2 second.0.2 in
    (first.0.1 ∙ ap Some same ∙ sym second.0.1, first.1 ∙ sym second.1)

piece_once : (a : Automaton) (p : Pattern) (start : ℕ) (past : List Element) (x : Element) (vs : List ℕ) (u v : Piece)
    → AllHold vs (word_rows a p start (x ∷ past)) → PieceOf a (values_of a p start (x ∷ past) vs) (length past) x u
    → PieceOf a (values_of a p start (x ∷ past) vs) (length past) x v → u ≡ v
piece_once a p start past x vs u v rows first second =
    let ends = ends_same a p start past x vs u v rows first.ends second.ends in
    piece_same u v (arranged_once a (counts_before a (values_of a p start (x ∷ past) vs) (length past)) u.steps v.steps first.steps second.steps) ends.0 ends.1

back_once : (a : Automaton) (p : Pattern) (start : ℕ) (past : List Element) (vs : List ℕ) (us ws : List Piece) → AllHold vs (word_rows a p start past)
    → PiecesBack a (values_of a p start past vs) past us → PiecesBack a (values_of a p start past vs) past ws → us ≡ ws
back_once a p start [] vs [] [] rows first second = refl
back_once a p start [] vs [] (w ∷ ws) rows first second = absurd second
back_once a p start [] vs (u ∷ us) ws rows first second = absurd first
back_once a p start (x ∷ past) vs [] ws rows first second = absurd first
back_once a p start (x ∷ past) vs (u ∷ us) [] rows first second = absurd second
back_once a p start (x ∷ past) vs (u ∷ us) (w ∷ ws) rows first second =
    let head = piece_once a p start past x vs u w rows first.0 second.0 in
    let tail = back_once a p start past vs us ws (first_rows a p start x past vs rows) (older a p start x past vs us first.1)
    (older a p start x past vs ws second.1) in
    ap (λ (z : Piece). z ∷ us) head ∙ ap (λ (zs : List Piece). w ∷ zs) tail

-- the run of a solution, for the pattern that it names
record WitnessAt (a : Automaton) (p : Pattern) (solution : Solution) (run : Run) : Type 0 where
  parameters : run.parameters ≡ map (λ i. solution_value a p solution (Parameter i)) (range_with_len 0 (length a.parameters))
  counts : run.counts ≡ map (λ l. solution_value a p solution (Start l)) a.initial
  pieces : List Piece
  are : PiecesOf a (solution_value a p solution) solution.word pieces
  lines : run.lines ≡ pieces_lines pieces

at_pattern : (file : File) (solution : Solution) (run : Run) (p : Pattern) (w : WitnessOf file solution run) → w.pattern ≡ p
    → WitnessAt file.automaton p solution run
at_pattern file solution run p w same = record {
  parameters = subst (λ (q : Pattern). run.parameters ≡ map (λ i. solution_value file.automaton q solution (Parameter i))
      (range_with_len 0 (length file.automaton.parameters))) same w.parameters;
  counts = subst (λ (q : Pattern). run.counts ≡ map (λ l. solution_value file.automaton q solution (Start l)) file.automaton.initial) same w.counts;
  pieces = w.pieces;
  are = subst (λ (q : Pattern). PiecesOf file.automaton (solution_value file.automaton q solution) solution.word w.pieces) same w.are;
  lines = w.lines;
}

named_same : (file : File) (solution : Solution) (run : Run) (p : Pattern) → slice_get file.patterns solution.pattern ≡ Some p
    → (w : WitnessOf file solution run) → w.pattern ≡ p
named_same file solution run p named w = let both : Some w.pattern ≡ Some p = sym w.named ∙ named in cc

-- the pieces of a solution are those of its natural values
natural_back : (a : Automaton) (p : Pattern) (solution : Solution) (vs : List ℕ) (pieces : List Piece) → solution.values ≡ map pos vs
    → PiecesOf a (solution_value a p solution) solution.word pieces
    → PiecesBack a (values_of a p solution.start_mask (reverse solution.word) vs) (reverse solution.word) (reverse pieces)
natural_back a p solution vs pieces are of =
    subst (λ (zs : List ℤ). PiecesBack a (unknown_value (meanings a p solution.start_mask (reverse solution.word)) zs) (reverse solution.word) (reverse pieces))
    are (pieces_back a (solution_value a p solution) solution.word pieces of)

pub one_witness : WitnessesAreDetermined
one_witness file solution r s is first second =
    let a = file.automaton in
    let p = is.pattern in
    let word = solution.word in
    let here = at_pattern file solution r p first (named_same file solution r p is.named first) in
    let there = at_pattern file solution s p second (named_same file solution s p is.named second) in
    let rows = AllHold-left is.values (word_rows a p solution.start_mask (reverse word)) [] is.solved.solves.rows_hold in
    let back = back_once a p solution.start_mask (reverse word) is.values (reverse here.pieces) (reverse there.pieces) rows
    (natural_back a p solution is.values here.pieces is.are here.are) (natural_back a p solution is.values there.pieces is.are there.are) in
    let pieces : here.pieces ≡ there.pieces = sym (reverse-reverse here.pieces) ∙ ap (λ (xs : List Piece). reverse xs) back ∙ reverse-reverse there.pieces in
    run_same r s (first.same_pattern ∙ sym second.same_pattern) (here.parameters ∙ sym there.parameters) (here.counts ∙ sym there.counts)
    (here.lines ∙ ap pieces_lines pieces ∙ sym there.lines)
