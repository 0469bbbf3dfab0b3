-- the lines of the code's stops are those of the pieces to a node's stops
use Rattle.ta_witness.proofs.Common.{◌-◌, int_lt, each_append, Counts, LineFits, Piece, piece_lines, pieces_lines, RunLine, ArrangedOf, count_at, AddsStops}
use Rattle.ta_witness.proofs.Common.{gap, gaps, marked, PiecesTo, firings_to, listed}
use Rattle.ta_moments.proofs.Common.{Bool, true, false, ◌≡◌, inl, inr, ℕ, zero, suc, ◌+◌, ◌<◌, ℤ, pos, List, [], ◌∷◌, ◌++◌, length, map, slice_get, cond}
use Rattle.ta_moments.proofs.Common.{arith, ints, sym, ap, ◌∙◌, refl, subst, append_assoc, append-nil, cases_Bool, range_with_len, AllByRecursion, Automaton}
use Rattle.ta_moments.proofs.Common.{Pattern, is_moving}
use Rattle.ta_witness.specs.declared.stop.Stop.{Stop as CodeStop}
use Rattle.ta_witness.specs.Stops.{Stop}
use Rattle.ta_witness.proofs.Listing.{are_listed, listed_at}

gap_of : (b : Bool) (x y : ℕ) → gap (cond b (pos x) (pos 0)) (cond b (pos y) (pos 0)) ≡ cond b (pos (y - x)) (pos 0)
gap_of true x y = elim (cases_Bool (int_lt (pos x) (pos y))) [
  | inl t ↦ grind (arith, ints)
  | inr f ↦ grind (arith, ints)
]
gap_of false x y = refl

pub map_within : (f g : ℕ → ℤ) (k n : ℕ) → ((r : ℕ) → r < k + n → f r ≡ g r) → map f (range_with_len k n) ≡ map g (range_with_len k n)
map_within f g k zero h = refl
map_within f g k (suc n) h = ap (λ z. z ∷ map f (range_with_len (k + 1) n)) (h k (omega arith))
    ∙ ap (λ (zs : List ℤ). g k ∷ zs) (map_within f g (k + 1) n (λ r b. h r (omega arith)))

pub gaps_listed : (a : Automaton) (p : Pattern) (v w : Counts) → gaps (listed a p v) (listed a p w) ≡ firings_to a p v w
gaps_listed a p v w =
    let long : length (listed a p w) ≡ length a.rules = (are_listed a p w).each_rule in
    ap (λ (n : ℕ). map (λ r. gap (count_at (listed a p v) r) (count_at (listed a p w) r)) (range_with_len 0 n)) long
    ∙ map_within (λ r. gap (count_at (listed a p v) r) (count_at (listed a p w) r)) (λ r. cond (is_moving p (slice_get a.rules r)) (pos (w r - v r)) (pos 0)) 0
    (length a.rules) (λ r b.
    ap (λ z. gap z (count_at (listed a p w) r)) (listed_at a p v r (omega arith))
    ∙ ap (gap (cond (is_moving p (slice_get a.rules r)) (pos (v r)) (pos 0))) (listed_at a p w r (omega arith))
    ∙ gap_of (is_moving p (slice_get a.rules r)) (v r) (w r))

-- the code's stops are a node's
abbrev pub AreStops : Automaton → Pattern → List Stop → List CodeStop → Type 0
AreStops a p [] [] = Unit {0}
AreStops a p [] (y ∷ ys) = ⊥
AreStops a p (x ∷ xs) [] = ⊥
AreStops a p (x ∷ xs) (y ∷ ys) = (y.counts.items ≡ listed a p x.counts) × (marked y.mark ≡ x.marks) × AreStops a p xs ys

pub record Pieced (a : Automaton) (p : Pattern) (v : Counts) (xs : List Stop) (old new : List RunLine) : Type 0 where
  pub pieces : List Piece
  pub are : PiecesTo a p v xs pieces
  pub lines : new ≡ old ++ pieces_lines pieces
  pub fit : AllByRecursion (LineFits a p) (pieces_lines pieces)

pub pieced : (a : Automaton) (p : Pattern) (v : Counts) (xs : List Stop) (ys : List CodeStop) (old new : List RunLine) → AreStops a p xs ys
    → AddsStops a p (listed a p v) ys old new → Pieced a p v xs old new
pieced a p v [] [] old new are h = record { pieces = []; are = tt; lines = h ∙ sym (append-nil old); fit = tt }
pieced a p v [] (y ∷ ys) old new are h = absurd are
pieced a p v (x ∷ xs) [] old new are h = absurd are
pieced a p v (x ∷ xs) (y ∷ ys) old new are h =
    let one = h.1 in
    let same : gaps (listed a p v) y.counts.items ≡ firings_to a p v x.counts = ap (gaps (listed a p v)) are.0 ∙ gaps_listed a p v x.counts in
    let rest = pieced a p x.counts xs ys h.0 new are.2 (subst (λ (zs : List ℤ). AddsStops a p zs ys h.0 new) are.0 h.2) in
    record {
      pieces = one.piece ∷ rest.pieces;
      are = (
        record { steps = subst (λ (zs : List ℤ). ArrangedOf a zs one.piece.steps) same one.steps; none_last = one.none_last; marks = one.marks ∙ are.1 },
        rest.are,
      );
      lines = rest.lines ∙ ap (λ (ls : List RunLine). ls ++ pieces_lines rest.pieces) one.added
          ∙ append_assoc old (piece_lines one.piece) (pieces_lines rest.pieces);
      fit = each_append (LineFits a p) (piece_lines one.piece) (pieces_lines rest.pieces) one.fit rest.fit;
    }
