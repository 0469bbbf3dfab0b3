-- the lines of pieces: how many steps they have, and where their marks stand
use Rattle.ta_replay.proofs.Common.{◌≡◌, inl, inr, ℕ, zero, suc, ◌+◌, ◌<◌, ◌≤◌, ℤ, List, [], ◌∷◌, ◌++◌, map, length, take, replicate, unsigned_abs, Option}
use Rattle.ta_replay.proofs.Common.{Some, None, slice_get, arith, refl, sym, ap, ◌∙◌, subst, length-append, append_assoc, append-nil, cases_lt, cases_order}
use Rattle.ta_replay.proofs.Common.{slice_get_within, get_parts, Automaton, HappensAt, RunLine, Step, Mark, unit_steps, steps_before, MarksAt, Piece}
use Rattle.ta_replay.proofs.Common.{OncePerRule, PiecesAreShort, PiecesShow, step_line, last_lines, piece_lines, pieces_lines, pieces_marks, steps_count}
use Rattle.ta_replay.proofs.Common.{steps_until, rule_of, length-map}
use Rattle.ta_base.proofs.Members.{place_of}
use Rattle.ta_base.proofs.Each.{distinct_length, each_map_of}
use Rattle.ta_base.proofs.Times.{distinct-times, once_at, times-in}
use Rattle.ta_base.specs.Masks.{In}
use Rattle.ta_replay.proofs.Lines.{unit_steps-append}
use Rattle.ta_base.proofs.Naturals.{product_next}

steps_count-append : (xs ys : List RunLine) → steps_count (xs ++ ys) ≡ steps_count xs + steps_count ys
steps_count-append [] ys = omega arith
steps_count-append (Step r k ∷ xs) ys = omega (arith, steps_count-append xs ys)
steps_count-append (Mark e ∷ xs) ys = steps_count-append xs ys

count_steps : (steps : List (ℕ × ℤ)) → steps_count (map step_line steps) ≡ length steps
count_steps [] = refl
count_steps (step ∷ steps) = omega (arith, count_steps steps)

count_last : (last : Option ℕ) → steps_count (last_lines last) ≤ 1
count_last None = omega arith
count_last (Some r) = omega arith

count_marks : (es : List ℕ) → steps_count (map Mark es) ≡ 0
count_marks [] = refl
count_marks (e ∷ es) = count_marks es

piece_count : (a : Automaton) (piece : Piece) → OncePerRule a piece → steps_count (piece_lines piece) ≤ length a.rules + 1
piece_count a piece h =
    let few = distinct_length (length a.rules) (map rule_of piece.steps) (distinct-times (map rule_of piece.steps) h.once)
    (each_map_of rule_of (λ r. r < length a.rules) piece.steps h.exist) in
    let left = steps_count-append (map step_line piece.steps) (last_lines piece.last ++ map Mark piece.marks) in
    let right = steps_count-append (last_lines piece.last) (map Mark piece.marks) in
    omega (arith, left, right, count_steps piece.steps, count_last piece.last, count_marks piece.marks, few, length-map piece.steps rule_of)

pub are_short : PiecesAreShort
are_short a [] h = omega arith
are_short a (piece ∷ pieces) h = product_next (length a.rules + 1) (length pieces) (steps_count (pieces_lines (piece ∷ pieces)))
    (steps_count (piece_lines piece)) (steps_count (pieces_lines pieces)) (steps_count-append (piece_lines piece) (pieces_lines pieces))
    (piece_count a piece h.0) (are_short a pieces h.1)

-- the events that lines mark, in order
marked : List RunLine → List ℕ
marked [] = []
marked (Step r k ∷ lines) = marked lines
marked (Mark e ∷ lines) = e ∷ marked lines

marked-append : (xs ys : List RunLine) → marked (xs ++ ys) ≡ marked xs ++ marked ys
unfolding marked
marked-append [] ys = refl
marked-append (Step r k ∷ xs) ys = marked-append xs ys
marked-append (Mark e ∷ xs) ys = ap (λ (es : List ℕ). e ∷ es) (marked-append xs ys)

marked_steps : (steps : List (ℕ × ℤ)) → marked (map step_line steps) ≡ []
unfolding marked
marked_steps [] = refl
marked_steps (step ∷ steps) = marked_steps steps

marked_last : (last : Option ℕ) → marked (last_lines last) ≡ []
unfolding marked
marked_last None = refl
marked_last (Some r) = refl

marked_marks : (es : List ℕ) → marked (map Mark es) ≡ es
unfolding marked
marked_marks [] = refl
marked_marks (e ∷ es) = ap (λ (xs : List ℕ). e ∷ xs) (marked_marks es)

-- what stands before the marks of a piece
abbrev front_of : Piece → List RunLine
front_of piece = map step_line piece.steps ++ last_lines piece.last

front_unmarked : (piece : Piece) → marked (front_of piece) ≡ []
front_unmarked piece = marked-append (map step_line piece.steps) (last_lines piece.last)
    ∙ ap (λ (es : List ℕ). es ++ marked (last_lines piece.last)) (marked_steps piece.steps) ∙ marked_last piece.last

lines_parts : (piece : Piece) (rest : List RunLine) → piece_lines piece ++ rest ≡ front_of piece ++ (map Mark piece.marks ++ rest)
lines_parts piece rest = simp append_assoc

marked_pieces : (pieces : List Piece) → marked (pieces_lines pieces) ≡ pieces_marks pieces
unfolding marked
marked_pieces [] = refl
marked_pieces (piece ∷ pieces) =
    let marks = map Mark piece.marks in
    let rest = pieces_lines pieces in
    ap marked (lines_parts piece rest)
    ∙ marked-append (front_of piece) (marks ++ rest)
    ∙ ap (λ (es : List ℕ). es ++ marked (marks ++ rest)) (front_unmarked piece)
    ∙ marked-append marks rest
    ∙ ap (λ (es : List ℕ). es ++ marked rest) (marked_marks piece.marks)
    ∙ ap (λ (es : List ℕ). piece.marks ++ es) (marked_pieces pieces)

-- a mark's place among the marks
place : List RunLine → ℕ → ℕ
place lines i = length (marked (take i lines))

mark_place : (lines : List RunLine) (i e : ℕ) → MarksAt lines i e → slice_get (marked lines) (place lines i) ≡ Some e
unfolding marked place
mark_place [] i e at = absurd (cc)
mark_place (Step r k ∷ lines) zero e at = absurd (cc)
mark_place (Step r k ∷ lines) (suc i) e at = mark_place lines i e at
mark_place (Mark x ∷ lines) zero e at = let same : x ≡ e = cc in ap (λ (y : ℕ). Some y) same
mark_place (Mark x ∷ lines) (suc i) e at = mark_place lines i e at

place_mark : (lines : List RunLine) (j e : ℕ) → slice_get (marked lines) j ≡ Some e → (i : ℕ) × MarksAt lines i e × (place lines i ≡ j)
unfolding marked place
place_mark [] j e at = absurd (cc)
place_mark (Step r k ∷ lines) j e at = let w = place_mark lines j e at in (suc w.0, w.1, w.2)
place_mark (Mark x ∷ lines) zero e at = let same : x ≡ e = cc in (0, ap (λ (y : ℕ). Some (Mark y)) same, refl)
place_mark (Mark x ∷ lines) (suc j) e at = let w = place_mark lines j e at in (suc w.0, w.1, ap suc w.2)

place_rises : (lines : List RunLine) (i j : ℕ) → i ≤ j → place lines i ≤ place lines j
unfolding marked place
place_rises lines zero j b = omega arith
place_rises lines (suc i) zero b = absurd (omega arith)
place_rises [] (suc i) (suc j) b = omega arith
place_rises (Step r k ∷ lines) (suc i) (suc j) b = place_rises lines i j (omega arith)
place_rises (Mark e ∷ lines) (suc i) (suc j) b = let rest = place_rises lines i j (omega arith) in omega arith

place_less : (lines : List RunLine) (i j e : ℕ) → MarksAt lines i e → i < j → place lines i < place lines j
unfolding marked place
place_less [] i j e at b = absurd (cc)
place_less (Step r k ∷ lines) zero j e at b = absurd (cc)
place_less (Step r k ∷ lines) (suc i) zero e at b = absurd (omega arith)
place_less (Step r k ∷ lines) (suc i) (suc j) e at b = place_less lines i j e at (omega arith)
place_less (Mark x ∷ lines) zero zero e at b = absurd (omega arith)
place_less (Mark x ∷ lines) zero (suc j) e at b = omega arith
place_less (Mark x ∷ lines) (suc i) zero e at b = absurd (omega arith)
place_less (Mark x ∷ lines) (suc i) (suc j) e at b = let rest = place_less lines i j e at (omega arith) in omega arith

-- the steps before a line behind a front, and before a mark of a piece
steps_behind : (front rest : List RunLine) (i : ℕ) → steps_before (front ++ rest) (length front + i) ≡ length (unit_steps front) + steps_before rest i
steps_behind [] rest i = ap (steps_before rest) (let e : 0 + i ≡ i = omega arith in e)
    ∙ (let e : steps_before rest i ≡ 0 + steps_before rest i = omega arith in e)
steps_behind (Step r k ∷ front) rest i =
    let next : suc (length front) + i ≡ suc (length front + i) = omega arith in
    let both = ap (steps_before ((Step r k ∷ front) ++ rest)) next in
    let left = length-append (replicate (unsigned_abs k) r) (unit_steps (take (length front + i) (front ++ rest))) in
    let right = length-append (replicate (unsigned_abs k) r) (unit_steps front) in
    omega (arith, both, left, right, steps_behind front rest i)
steps_behind (Mark e ∷ front) rest i =
    let next : suc (length front) + i ≡ suc (length front + i) = omega arith in
    ap (steps_before ((Mark e ∷ front) ++ rest)) next ∙ steps_behind front rest i

steps_marks : (es : List ℕ) (rest : List RunLine) (i : ℕ) → i ≤ length es → steps_before (map Mark es ++ rest) i ≡ 0
steps_marks es rest zero b = refl
steps_marks [] rest (suc i) b = absurd (omega arith)
steps_marks (e ∷ es) rest (suc i) b = steps_marks es rest i (omega arith)

pub no_steps : (es : List ℕ) → unit_steps (map Mark es) ≡ []
no_steps [] = refl
no_steps (e ∷ es) = no_steps es

mark_in : (es : List ℕ) (i e : ℕ) → MarksAt (map Mark es) i e → (i < length es) × In e es
mark_in [] i e at = absurd (cc)
mark_in (x ∷ es) zero e at = (omega arith, inl (let q : e ≡ x = cc in q))
mark_in (x ∷ es) (suc i) e at = let w = mark_in es i e at in ((let b = w.0 in omega arith), inr w.1)

unmarked : (lines : List RunLine) (i e : ℕ) → marked lines ≡ [] → MarksAt lines i e → ⊥
unmarked lines i e none at = let found = mark_place lines i e at in let same = ap (λ (es : List ℕ). slice_get es (place lines i)) none in cc

-- the piece of a mark
record Piecemeal (pieces : List Piece) (i e : ℕ) : Type 0 where
  pub number : ℕ
  pub piece : Piece
  pub at : slice_get pieces number ≡ Some piece
  pub member : In e piece.marks
  pub steps : steps_before (pieces_lines pieces) i ≡ steps_until pieces number

piece_steps : (piece : Piece) → length (unit_steps (piece_lines piece)) ≡ length (unit_steps (front_of piece))
piece_steps piece =
    let whole : piece_lines piece ≡ front_of piece ++ map Mark piece.marks = simp append_assoc in
    let cut = ap (λ (ls : List RunLine). length (unit_steps ls)) whole in
    let split = ap (λ (rs : List ℕ). length rs) (unit_steps-append (front_of piece) (map Mark piece.marks)) in
    let both = length-append (unit_steps (front_of piece)) (unit_steps (map Mark piece.marks)) in
    let none = ap (λ (rs : List ℕ). length rs) (no_steps piece.marks) in
    omega (arith, cut, split, both, none)

until_first : (piece : Piece) (pieces : List Piece) → steps_until (piece ∷ pieces) 0 ≡ length (unit_steps (front_of piece))
until_first piece pieces = ap (λ (ls : List RunLine). length (unit_steps ls)) (append-nil (piece_lines piece)) ∙ piece_steps piece

until_later : (piece : Piece) (pieces : List Piece) (k : ℕ) → steps_until (piece ∷ pieces) (suc k) ≡ length (unit_steps (front_of piece)) + steps_until pieces k
until_later piece pieces k =
    let next : suc k + 1 ≡ suc (k + 1) = omega arith in
    let here = ap (λ (n : ℕ). length (unit_steps (pieces_lines (take n (piece ∷ pieces))))) next in
    let split = ap (λ (rs : List ℕ). length rs) (unit_steps-append (piece_lines piece) (pieces_lines (take (k + 1) pieces))) in
    let both = length-append (unit_steps (piece_lines piece)) (unit_steps (pieces_lines (take (k + 1) pieces))) in
    omega (arith, here, split, both, piece_steps piece)

piece_of : (pieces : List Piece) (i e : ℕ) → MarksAt (pieces_lines pieces) i e → Piecemeal pieces i e
piece_of [] i e at = absurd (cc)
piece_of (piece ∷ pieces) i e at =
    let front = front_of piece in
    let marks = map Mark piece.marks in
    let rest = pieces_lines pieces in
    let whole = lines_parts piece rest in
    elim (get_parts front (marks ++ rest) i (Mark e) (subst (λ (ls : List RunLine). MarksAt ls i e) whole at)) [
      | inl h ↦ absurd (unmarked front i e (front_unmarked piece) h)
      | inr w ↦ (
          let before = ap (λ (ls : List RunLine). steps_before ls i) whole in
          let there = ap (steps_before (front ++ (marks ++ rest))) w.1 in
          let behind = steps_behind front (marks ++ rest) w.0 in
          elim (get_parts marks rest w.0 (Mark e) w.2) [
            | inl h ↦ (
                let m = mark_in piece.marks w.0 e h in
                let b : w.0 ≤ length piece.marks = (let c = m.0 in omega arith) in
                record {
                  number = 0;
                  piece = piece;
                  at = refl;
                  member = m.1;
                  steps = omega
                      (arith, before, there, behind, steps_marks piece.marks rest w.0 b, until_first piece pieces);
                })
            | inr v ↦ (
                let more = piece_of pieces v.0 e v.2 in
                let past = ap (steps_before (marks ++ rest)) v.1 in
                let none = ap (λ (rs : List ℕ). length rs) (no_steps piece.marks) in
                record {
                  number = suc more.number;
                  piece = more.piece;
                  at = more.at;
                  member = more.member;
                  steps = omega (arith, before, there, behind, past, none, steps_behind marks rest v.0, more.steps, until_later piece pieces more.number);
                })
          ])
    ]

pub show : PiecesShow
show a p run pieces h order =
    let lines = run.lines in
    let marks : marked lines ≡ pieces_marks pieces = ap marked h.lines ∙ marked_pieces pieces in
    let at_mark : (i e : ℕ) → MarksAt lines i e → slice_get (pieces_marks pieces) (place lines i) ≡ Some e =
    (λ i e at. ap (λ (es : List ℕ). slice_get es (place lines i)) (sym marks) ∙ mark_place lines i e at) in
    record {
      first = h.first;
      later = h.later;
      begins = h.begins;
      follows = h.follows;
      start = h.start;
      kept_empty = h.kept_empty;
      marked = λ e event at.
          let b = slice_get_within p.events e event at in
          let one = order.once e b in
          let w = place_of e (pieces_marks pieces) (times-in e (pieces_marks pieces) (omega (arith, one))) in
          let m = place_mark lines w.0 e (ap (λ (es : List ℕ). slice_get es w.0) marks ∙ w.1) in
          let piece = piece_of pieces m.0 e (subst (λ (ls : List RunLine). MarksAt ls m.0 e) h.lines m.1) in
          record {
            line = m.0;
            marked = m.1;
            once = λ i there. same_line lines e i m.0 there m.1
                (once_at (pieces_marks pieces) e (place lines i) (place lines m.0) one (at_mark i e there) (at_mark m.0 e m.1));
            happens = subst (HappensAt h.first h.later event) (sym (ap (λ (ls : List RunLine). steps_before ls m.0) h.lines ∙ piece.steps))
                (h.happens piece.number e piece.piece event piece.at piece.member at);
          };
      in_order = λ e f i event at bit there.
          let w = order.in_order e f (place lines i) event at bit (at_mark i e there) in
          let m = place_mark lines w.0 f (ap (λ (es : List ℕ). slice_get es w.0) marks ∙ w.2) in
          (m.0, earlier lines m.0 i w.0 m.2 w.1, m.1);
    } where
      same_line : (ls : List RunLine) (e i j : ℕ) → MarksAt ls i e → MarksAt ls j e → place ls i ≡ place ls j → i ≡ j
      same_line ls e i j at bt same = elim (cases_order i j) [
        | inl q ↦ q
        | inr (inl less) ↦ absurd (let b = place_less ls i j e at less in omega arith)
        | inr (inr more) ↦ absurd (let b = place_less ls j i e bt more in omega arith)
      ]

      earlier : (ls : List RunLine) (i j k : ℕ) → place ls i ≡ k → k < place ls j → i < j
      earlier ls i j k same b = elim (cases_lt i j) [ inl less ↦ less | inr more ↦ absurd (let c = place_rises ls j i more in omega arith) ]
