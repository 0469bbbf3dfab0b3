-- a node has one run at its values
use Rattle.ta_witness.proofs.Common.{Asking, Node, moving_rules, Parameter, Start, Counts, run_same, Piece, pieces_lines, Run, arranged_once, PiecesTo}
use Rattle.ta_witness.proofs.Common.{firings_to, no_counts, node_stops, MomentRunOf, start_value}
use Rattle.ta_moments.proofs.Common.{◌≡◌, ℕ, List, [], ◌∷◌, length, map, sym, ap, ◌∙◌, refl, subst, range_with_len, same_Some, Automaton, Pattern, File}
use Rattle.ta_witness.specs.Stops.{Stop, sorted_stops}
use Rattle.ta_witness.specs.MomentLaws.{MomentRunsAreDetermined}

piece_same : (x y : Piece) → x.steps ≡ y.steps → x.last ≡ y.last → x.marks ≡ y.marks → x ≡ y
piece_same x y steps last marks = ap (λ s. record x { steps = s }) steps ∙ ap (λ l. record x { steps = y.steps; last = l }) last
    ∙ ap (λ m. record y { marks = m }) marks

pieces_same : (a : Automaton) (p : Pattern) (v : Counts) (ss : List Stop) (us ws : List Piece) → PiecesTo a p v ss us → PiecesTo a p v ss ws → us ≡ ws
pieces_same a p v [] [] [] h k = refl
pieces_same a p v [] [] (w ∷ ws) h k = absurd k
pieces_same a p v [] (u ∷ us) ws h k = absurd h
pieces_same a p v (s ∷ ss) [] ws h k = absurd h
pieces_same a p v (s ∷ ss) (u ∷ us) [] h k = absurd k
pieces_same a p v (s ∷ ss) (u ∷ us) (w ∷ ws) h k =
    let head = piece_same u w (arranged_once a (firings_to a p v s.counts) u.steps w.steps h.0.steps k.0.steps) (h.0.none_last ∙ sym k.0.none_last)
    (h.0.marks ∙ sym k.0.marks) in
    ap (λ (z : Piece). z ∷ us) head ∙ ap (λ (zs : List Piece). w ∷ zs) (pieces_same a p s.counts ss us ws h.1 k.1)

-- the run, for the pattern that is named
record RunAt (a : Automaton) (p : Pattern) (asking : Asking) (node : Node) (values : List ℕ) (run : Run) : Type 0 where
  parameters : run.parameters ≡ map (λ i. start_value a p values (Parameter i)) (range_with_len 0 (length a.parameters))
  counts : run.counts ≡ map (λ l. start_value a p values (Start l)) a.initial
  pieces : List Piece
  are : PiecesTo a p no_counts (sorted_stops (moving_rules a p) (node_stops a p asking node values)) pieces
  lines : run.lines ≡ pieces_lines pieces

run_at : (file : File) (number : ℕ) (asking : Asking) (node : Node) (values : List ℕ) (run : Run) (h : MomentRunOf file number asking node values run)
    → RunAt file.automaton h.pattern asking node values run
run_at file number asking node values run h = record { parameters = h.parameters; counts = h.counts; pieces = h.pieces; are = h.are; lines = h.lines }

pub one_run : MomentRunsAreDetermined
one_run file number asking node values r s first second =
    let a = file.automaton in
    let p = first.pattern in
    let same : second.pattern ≡ p = same_Some second.pattern p (sym second.named ∙ first.named) in
    let x = run_at file number asking node values r first in
    let y = subst (λ (q : Pattern). RunAt a q asking node values s) same (run_at file number asking node values s second) in
    let pieces = pieces_same a p no_counts (sorted_stops (moving_rules a p) (node_stops a p asking node values)) x.pieces y.pieces x.are y.are in
    run_same r s (first.same_pattern ∙ sym second.same_pattern) (x.parameters ∙ sym y.parameters) (x.counts ∙ sym y.counts)
    (x.lines ∙ ap pieces_lines pieces ∙ sym y.lines)
