-- the pieces of a word, the newest first, and their firings
--
-- A word in definitions is its past, newest element first, while a run has its pieces in order. So the pieces are followed backward
-- here: those of a longer word are one more in front. The unknowns of older elements keep their values, whatever elements come
-- later.
use Rattle.ta_witness.proofs.Common.{◌≡◌, inl, inr, ℕ, suc, ◌+◌, ◌<◌, ℤ, pos, ◌*ℤ◌, ◌≤ℤ◌, List, [], ◌∷◌, ◌++◌, map, length, drop, reverse, true, Option, Some}
use Rattle.ta_witness.proofs.Common.{None, slice_get, arith, refl, sym, ap, ◌∙◌, subst, append-nil, ints, cases_lt, cases_Bool, length-map, slice_get_within}
use Rattle.ta_witness.proofs.Common.{each_from_in, reverse_onto, item_at, no_item, Automaton, Pattern, range_with_len, In, InScope, AreRuleCounts, ArrangedOf}
use Rattle.ta_witness.proofs.Common.{count_at, Element, Event, Rise, Fall, allowed_rules, may_fire, Meaning, Count, Single, meanings, place_coefficient}
use Rattle.ta_witness.proofs.Common.{sum_of_products, FiresBefore, WordFires, Piece, unknown_value, same_meaning, PieceOf, PiecesOf, EndsPiece, counts_before}
use Rattle.ta_witness.proofs.Common.{map_same, in_filter, length-range_with_len, total-within, arranged_steps, FromCounts, from_counts}
use Rattle.ta_automaton.specs.Places.{rule_change}
use Rattle.ta_encode.proofs.Forward.{forward_of}
use Rattle.ta_witness.proofs.Lookups.{newer, count_value, value_for, value_in_list, value_sum, one_found}
use Rattle.std.proofs.lemmas.Simd.{map-map}

-- the last step of a piece
abbrev pub last_rules : Option ℕ → List ℕ
last_rules None = []
last_rules (Some r) = r ∷ []

-- the unit steps of a piece
abbrev pub piece_rules : Piece → List ℕ
piece_rules piece = arranged_steps piece.steps ++ last_rules piece.last

-- one piece for each element of a word, the newest first
abbrev pub PiecesBack : Automaton → (Meaning → ℤ) → List Element → List Piece → Type 0
PiecesBack a value [] [] = Unit {0}
PiecesBack a value [] (piece ∷ back) = ⊥
PiecesBack a value (element ∷ past) [] = ⊥
PiecesBack a value (element ∷ past) (piece ∷ back) = PieceOf a value (length past) element piece × PiecesBack a value past back

back_onto : (a : Automaton) (value : Meaning → ℤ) (word : List Element) (pieces : List Piece) (past : List Element) (back : List Piece)
    → length pieces ≡ length word → PiecesBack a value past back
    → ((k : ℕ) (element : Element) (piece : Piece) → slice_get word k ≡ Some element → slice_get pieces k ≡ Some piece
    → PieceOf a value (length past + k) element piece) → PiecesBack a value (reverse word ++ past) (reverse pieces ++ back)
back_onto a value [] [] past back e h each = h
back_onto a value [] (q ∷ pieces) past back e h each = absurd (omega arith)
back_onto a value (x ∷ word) [] past back e h each = absurd (omega arith)
back_onto a value (x ∷ word) (q ∷ pieces) past back e h each =
    let first : PieceOf a value (length past) x q = subst (λ (k : ℕ). PieceOf a value k x q) (let z : length past + 0 ≡ length past = omega arith in z)
    (each 0 x q refl refl) in
    let rest = back_onto a value word pieces (x ∷ past) (q ∷ back) (omega arith) (first, h)
    (λ k element piece at there. subst (λ (j : ℕ). PieceOf a value j element piece) (let z : length past + suc k ≡ suc (length past) + k = omega arith in z)
    (each (suc k) element piece at there)) in
    subst (λ (xs : List Element). PiecesBack a value xs (reverse (q ∷ pieces) ++ back)) (sym (reverse_onto x word past))
    (subst (λ (ps : List Piece). PiecesBack a value (reverse word ++ (x ∷ past)) ps) (sym (reverse_onto q pieces back)) rest)

pub pieces_back : (a : Automaton) (value : Meaning → ℤ) (word : List Element) (pieces : List Piece) → PiecesOf a value word pieces
    → PiecesBack a value (reverse word) (reverse pieces)
pieces_back a value word pieces h =
    subst (λ (xs : List Element). PiecesBack a value xs (reverse pieces)) (append-nil (reverse word))
    (subst (λ (ps : List Piece). PiecesBack a value (reverse word ++ []) ps) (append-nil (reverse pieces))
    (back_onto a value word pieces [] [] h.count tt
    (λ k element piece at there. subst (λ (j : ℕ). PieceOf a value j element piece) (let z : k ≡ 0 + k = omega arith in z)
    (h.each k element piece at there))))

-- other values that are the same for the elements' unknowns
same_ends : (v w : Meaning → ℤ) (k : ℕ) (element : Element) (piece : Piece) → ((r : ℕ) → v (Single k r) ≡ w (Single k r)) → EndsPiece v k element piece
    → EndsPiece w k element piece
same_ends v w k (Event e) piece h ends = ends
same_ends v w k (Rise i) piece h ends = ends
same_ends v w k (Fall mask) piece h ends = ((ends.0.0, ends.0.1, sym (h ends.0.0) ∙ ends.0.2), ends.1)

same_piece : (a : Automaton) (v w : Meaning → ℤ) (k : ℕ) (element : Element) (piece : Piece) → ((r : ℕ) → v (Count k r) ≡ w (Count k r))
    → ((r : ℕ) → v (Single k r) ≡ w (Single k r)) → PieceOf a v k element piece → PieceOf a w k element piece
same_piece a v w k element piece h g piece_of = record {
  steps = subst (λ (counts : List ℤ). ArrangedOf a counts piece.steps)
      (map_same (λ r. v (Count k r)) (λ r. w (Count k r)) (range_with_len 0 (length a.rules)) h) piece_of.steps;
  ends = same_ends v w k element piece g piece_of.ends;
}

same_back : (a : Automaton) (v w : Meaning → ℤ) (past : List Element) (back : List Piece)
    → ((k r : ℕ) → k < length past → (v (Count k r) ≡ w (Count k r)) × (v (Single k r) ≡ w (Single k r))) → PiecesBack a v past back → PiecesBack a w past back
same_back a v w [] [] h b = tt
same_back a v w [] (piece ∷ back) h b = absurd b
same_back a v w (x ∷ past) [] h b = absurd b
same_back a v w (x ∷ past) (piece ∷ back) h b = (
  same_piece a v w (length past) x piece (λ r. (h (length past) r (omega arith)).0) (λ r. (h (length past) r (omega arith)).1) b.0,
  same_back a v w past back (λ k r less. h k r (omega arith)) b.1,
)

-- the values of a word's unknowns
abbrev pub values_of : Automaton → Pattern → ℕ → List Element → List ℕ → Meaning → ℤ
values_of a p start past vs m = unknown_value (meanings a p start past) (map pos vs) m

pub older : (a : Automaton) (p : Pattern) (start : ℕ) (x : Element) (past : List Element) (vs : List ℕ) (back : List Piece)
    → PiecesBack a (values_of a p start (x ∷ past) vs) past back → PiecesBack a (values_of a p start past vs) past back
older a p start x past vs back h = same_back a (values_of a p start (x ∷ past) vs) (values_of a p start past vs) past back
    (λ k r b. (newer a p start x past (map pos vs) (Count k r) (λ e. omega arith), newer a p start x past (map pos vs) (Single k r) (λ e. omega arith))) h

-- the Counts of an element
pub counts_are : (a : Automaton) (p : Pattern) (start : ℕ) (x : Element) (past : List Element) (vs : List ℕ) (r : ℕ) → r < length a.rules
    → count_at (counts_before a (values_of a p start (x ∷ past) vs) (length past)) r ≡ pos
    (value_for (allowed_rules a p start past) (drop (length (meanings a p start past)) vs) r)
counts_are a p start x past vs r b = item_at (λ q. values_of a p start (x ∷ past) vs (Count (length past) q)) (length a.rules) r b
    ∙ count_value a p start x past vs r

natural_value : (ms : List Meaning) (vs : List ℕ) (m : Meaning) → pos 0 ≤ℤ unknown_value ms (map pos vs) m
unfolding unknown_value
natural_value [] vs m = omega (arith, ints)
natural_value (n ∷ ms) [] m = omega (arith, ints)
natural_value (n ∷ ms) (v ∷ vs) m = elim (cases_Bool (same_meaning n m)) [
  | inl t ↦ rw t (omega (arith, ints))
  | inr f ↦ rw f (natural_value ms vs m)
]

pub are_counts : (a : Automaton) (p : Pattern) (start : ℕ) (past : List Element) (vs : List ℕ) (k : ℕ)
    → AreRuleCounts a (counts_before a (values_of a p start past vs) k)
are_counts a p start past vs k = record {
  each_rule = length-map (range_with_len 0 (length a.rules)) (λ q. values_of a p start past vs (Count k q)) ∙ length-range_with_len 0 (length a.rules);
  natural = λ r. elim (cases_lt r (length a.rules)) [
    | inl b ↦ (let n = natural_value (meanings a p start past) vs (Count k r) in omega
        (arith, ints, item_at (λ q. values_of a p start past vs (Count k q)) (length a.rules) r b, n))
    | inr b ↦ omega (arith, ints, no_item (λ q. values_of a p start past vs (Count k q)) 0 (length a.rules) r b)
  ];
}

plain : (piece : Piece) → piece.last ≡ None → arranged_steps piece.steps ≡ piece_rules piece
plain piece e = sym (append-nil (arranged_steps piece.steps)) ∙ ap (λ (l : Option ℕ). arranged_steps piece.steps ++ last_rules l) (sym e)

-- arranged steps of an element's Counts fire as these say
arranged_fire : (a : Automaton) → InScope a → (p : Pattern) (start : ℕ) (x : Element) (past : List Element) (vs : List ℕ) (steps : List (ℕ × ℤ))
    → ArrangedOf a (counts_before a (values_of a p start (x ∷ past) vs) (length past)) steps → FiresBefore a p start past vs (arranged_steps steps)
unfolding allowed_rules
arranged_fire a scope p start x past vs steps h =
    let counts = counts_before a (values_of a p start (x ∷ past) vs) (length past) in
    let n = length a.rules in
    let al = allowed_rules a p start past in
    let ws = drop (length (meanings a p start past)) vs in
    let f : FromCounts a counts (arranged_steps steps) = from_counts a scope counts (are_counts a p start (x ∷ past) vs (length past)) steps h in
    let may : (r : ℕ) → In r al → may_fire a p start past (slice_get a.rules r) ≡ true =
    (λ r i. (in_filter (λ q. may_fire a p start past (slice_get a.rules q)) r (range_with_len 0 n) i).0) in
    record {
      allowed = each_from_in (λ r. may_fire a p start past (slice_get a.rules r) ≡ true) (arranged_steps steps) (λ r i.
          let named = f.named r i in
          let b = slice_get_within a.rules r named.0 named.1 in
          may r (value_in_list al ws r (omega (arith, ints, f.above r i, counts_are a p start x past vs r b))));
      forward = forward_of a (arranged_steps steps) f.onward;
      adds = λ place. f.sums place ∙ total-within (λ r. rule_change a (slice_get a.rules r) place *ℤ count_at counts r)
          (λ r. rule_change a (slice_get a.rules r) place *ℤ pos (value_for al ws r)) 0 n
          (λ r _ b. ap (λ z. rule_change a (slice_get a.rules r) place *ℤ z) (counts_are a p start x past vs r (omega arith)))
          ∙ value_sum (λ r. rule_change a (slice_get a.rules r) place) (λ r. may_fire a p start past (slice_get a.rules r)) 0 n ws
          ∙ ap (λ cs. sum_of_products cs ws) (sym (map-map (λ m. place_coefficient a m place) (Count (length past)) al));
    }

-- the pieces of a word fire as its solution says
pub pieces_fire : (a : Automaton) → InScope a → (p : Pattern) (start : ℕ) (past : List Element) (vs : List ℕ) (back : List Piece)
    → PiecesBack a (values_of a p start past vs) past back → WordFires a p start past vs (map piece_rules back)
pieces_fire a scope p start [] vs [] h = tt
pieces_fire a scope p start [] vs (piece ∷ back) h = absurd h
pieces_fire a scope p start (x ∷ past) vs [] h = absurd h
pieces_fire a scope p start (Event e ∷ past) vs (piece ∷ back) h = (
  subst (FiresBefore a p start past vs) (plain piece (h.0.ends.0)) (arranged_fire a scope p start (Event e) past vs piece.steps h.0.steps),
  pieces_fire a scope p start past vs back (older a p start (Event e) past vs back h.1),
)
pieces_fire a scope p start (Rise i ∷ past) vs (piece ∷ back) h = (
  subst (FiresBefore a p start past vs) (plain piece (h.0.ends.0)) (arranged_fire a scope p start (Rise i) past vs piece.steps h.0.steps),
  pieces_fire a scope p start past vs back (older a p start (Rise i) past vs back h.1),
)
pieces_fire a scope p start (Fall mask ∷ past) vs (piece ∷ back) h =
    let single = h.0.ends.0 in (
      record {
        front = arranged_steps piece.steps;
        last = single.0;
        cut = ap (λ (l : Option ℕ). arranged_steps piece.steps ++ last_rules l) single.1;
        fires = arranged_fire a scope p start (Fall mask) past vs piece.steps h.0.steps;
        single = one_found (meanings a p start (Fall mask ∷ past)) vs (Single (length past) single.0) single.2;
      },
      pieces_fire a scope p start past vs back (older a p start (Fall mask) past vs back h.1),
    )
