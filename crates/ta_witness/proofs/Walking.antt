-- the pieces of stops lead from one to the next
use Rattle.ta_witness.proofs.Common.{At, InScope, Chain, Counts, Stands, Emptied, Piece, piece_lines, pieces_lines, pieces_marks, steps_until, unit_steps}
use Rattle.ta_witness.proofs.Common.{unit_steps-append, arranged_steps, PiecesTo}
use Rattle.ta_moments.proofs.Common.{◌≡◌, ℕ, zero, suc, ◌+◌, List, [], ◌∷◌, ◌++◌, length, take, slice_get, Some, None, Option, arith, sym, ap, ◌∙◌, refl, subst}
use Rattle.ta_moments.proofs.Common.{append_assoc, append-nil, length-append, same_Some, Automaton, Pattern, Config}
use Rattle.ta_automaton.proofs.Trails.{Trail, Grows}
use Rattle.ta_encode.proofs.Appending.{trail_append}
use Rattle.ta_witness.proofs.Backward.{last_rules}
use Rattle.ta_witness.proofs.Marks.{all_steps}
use Rattle.ta_witness.specs.Stops.{Stop}
use Rattle.ta_witness.proofs.Firing.{fires}

-- the counts of stops, in order
abbrev pub stop_counts : List Stop → List Counts
stop_counts [] = []
stop_counts (s ∷ ss) = s.counts ∷ stop_counts ss

-- the marks of stops, in order
abbrev pub stop_marks : List Stop → List ℕ
stop_marks [] = []
stop_marks (s ∷ ss) = s.marks ++ stop_marks ss

-- the counts of the last stop
abbrev pub last_counts : Counts → List Stop → Counts
last_counts v [] = v
last_counts v (s ∷ ss) = last_counts s.counts ss

-- the unit steps of a piece
steps_are : (q : Piece) → q.last ≡ None → unit_steps (piece_lines q) ≡ arranged_steps q.steps
steps_are q none =
    ap unit_steps (sym (append-nil (piece_lines q))) ∙ sym (all_steps (q ∷ [])) ∙ ap (λ (l : Option ℕ). arranged_steps q.steps ++ last_rules l) none
    ∙ append-nil (arranged_steps q.steps)

until_first : (q : Piece) (pieces : List Piece) → steps_until (q ∷ pieces) 0 ≡ length (unit_steps (piece_lines q))
until_first q pieces = ap (λ ls. length (unit_steps ls)) (append-nil (piece_lines q))

until_later : (q : Piece) (pieces : List Piece) (k : ℕ) → steps_until (q ∷ pieces) (suc k) ≡ length (unit_steps (piece_lines q)) + steps_until pieces k
until_later q pieces k =
    ap (λ (n : ℕ). length (unit_steps (pieces_lines (take n (q ∷ pieces))))) (let e : suc k + 1 ≡ suc (k + 1) = omega arith in e)
    ∙ ap (λ (xs : List ℕ). length xs) (unit_steps-append (piece_lines q) (pieces_lines (take (k + 1) pieces)))
    ∙ length-append (unit_steps (piece_lines q)) (unit_steps (pieces_lines (take (k + 1) pieces)))

-- a run that comes through stops
pub record Walks (a : Automaton) (p : Pattern) (first : Config) (v : Counts) (d : Config) (t : Trail a (Emptied p) first d) (ss : List Stop)
    (pieces : List Piece) : Type 0 where
  pub end : Config
  pub trail : Trail a (Emptied p) first end
  pub grows : Grows a (Emptied p) first d end t trail
  pub is : trail.rules ≡ t.rules ++ unit_steps (pieces_lines pieces)
  pub there : (k : ℕ) (s : Stop) → slice_get ss k ≡ Some s → (c : Config) × At first trail.later (length t.rules + steps_until pieces k) c
      × Stands a p first s.counts c
  pub stands : Stands a p first (last_counts v ss) end

pub walk : (a : Automaton) (p : Pattern) → InScope a → (first : Config) (v : Counts) (ss : List Stop) (pieces : List Piece) → Chain a p first v (stop_counts ss)
    → PiecesTo a p v ss pieces → (d : Config) (t : Trail a (Emptied p) first d) → Stands a p first v d → Walks a p first v d t ss pieces
walk a p scope first v [] [] chain are d t s = record {
  end = d;
  trail = t;
  grows = record { kept = λ j c at. at; longer = omega arith };
  is = sym (append-nil t.rules);
  there = λ k x at. absurd (cc);
  stands = s;
}
walk a p scope first v [] (q ∷ pieces) chain are d t s = absurd are
walk a p scope first v (x ∷ ss) [] chain are d t s = absurd are
walk a p scope first v (x ∷ ss) (q ∷ pieces) chain are d t s =
    let f = fires a p scope first v x.counts chain.0 d s q.steps are.0.steps in
    let os = arranged_steps q.steps in
    let g = trail_append a (Emptied p) first d t os f.later f.end f.steps f.reached f.kept_empty in
    let rest = walk a p scope first x.counts ss pieces chain.1 are.1 f.end g.trail f.stands in
    let own = steps_are q are.0.none_last in
    let behind = unit_steps (pieces_lines pieces) in
    let long : length g.trail.rules ≡ length t.rules + length (unit_steps (piece_lines q)) = ap (λ (xs : List ℕ). length xs)
    (g.is ∙ ap (λ (xs : List ℕ). t.rules ++ xs) (sym own)) ∙ length-append t.rules (unit_steps (piece_lines q)) in
    record {
      end = rest.end;
      trail = rest.trail;
      grows = record { kept = λ j c at. rest.grows.kept j c (g.grows.kept j c at); longer = omega (arith, g.grows.longer, rest.grows.longer) };
      is = rest.is ∙ ap (λ (xs : List ℕ). xs ++ behind) (g.is ∙ ap (λ (xs : List ℕ). t.rules ++ xs) (sym own))
          ∙ append_assoc t.rules (unit_steps (piece_lines q)) behind
          ∙ ap (λ (xs : List ℕ). t.rules ++ xs) (sym (unit_steps-append (piece_lines q) (pieces_lines pieces)));
      there = λ k y at. at_stop k y at rest long f.stands;
      stands = rest.stands;
    }
  where
    at_stop : {e : Config} {u : Trail a (Emptied p) first e} (k : ℕ) (y : Stop) → slice_get (x ∷ ss) k ≡ Some y
        → (rest : Walks a p first x.counts e u ss pieces) → length u.rules ≡ length t.rules + length (unit_steps (piece_lines q)) → Stands a p first x.counts e
        → (c : Config) × At first rest.trail.later (length t.rules + steps_until (q ∷ pieces) k) c × Stands a p first y.counts c
    at_stop {e} {u} zero y at rest long stands =
        let same : x ≡ y = same_Some x y at in
        let number : length u.rules ≡ length t.rules + steps_until (q ∷ pieces) 0 = omega (arith, long, until_first q pieces) in (
          e,
          subst (λ (j : ℕ). At first rest.trail.later j e) number (rest.grows.kept (length u.rules) e u.last),
          subst
              (λ (z : Stop). Stands a p first z.counts e) same stands,
        )
    at_stop {e} {u} (suc k) y at rest long stands =
        let w = rest.there k y at in
        let number : length u.rules + steps_until pieces k ≡ length t.rules + steps_until (q ∷ pieces) (suc k) = omega (arith, long, until_later q pieces k) in
        (w.0, subst (λ (j : ℕ). At first rest.trail.later j w.0) number w.1, w.2)

-- the stop of a piece
pub stop_of : (a : Automaton) (p : Pattern) (v : Counts) (ss : List Stop) (pieces : List Piece) → PiecesTo a p v ss pieces → (k : ℕ) (piece : Piece)
    → slice_get pieces k ≡ Some piece → (s : Stop) × (slice_get ss k ≡ Some s) × (piece.marks ≡ s.marks)
stop_of a p v [] [] are k piece at = absurd (cc)
stop_of a p v [] (q ∷ pieces) are k piece at = absurd are
stop_of a p v (x ∷ ss) [] are k piece at = absurd are
stop_of a p v (x ∷ ss) (q ∷ pieces) are zero piece at = (x, refl, ap (λ (z : Piece). z.marks) (sym (same_Some q piece at)) ∙ are.0.marks)
stop_of a p v (x ∷ ss) (q ∷ pieces) are (suc k) piece at = stop_of a p x.counts ss pieces are.1 k piece at

pub marks_are : (a : Automaton) (p : Pattern) (v : Counts) (ss : List Stop) (pieces : List Piece) → PiecesTo a p v ss pieces
    → pieces_marks pieces ≡ stop_marks ss
marks_are a p v [] [] are = refl
marks_are a p v [] (q ∷ pieces) are = absurd are
marks_are a p v (x ∷ ss) [] are = absurd are
marks_are a p v (x ∷ ss) (q ∷ pieces) are = ap (λ (es : List ℕ). es ++ pieces_marks pieces) are.0.marks
    ∙ ap (λ (es : List ℕ). x.marks ++ es) (marks_are a p x.counts ss pieces are.1)
