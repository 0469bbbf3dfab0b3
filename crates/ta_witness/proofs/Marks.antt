-- the marks of a word's pieces: where they stand, and in which order
use Rattle.ta_witness.proofs.Common.{◌≡◌, inl, inr, ℕ, zero, suc, ◌+◌, ◌<◌, ℤ, List, [], ◌∷◌, ◌++◌, map, length, take, replicate, reverse, unsigned_abs, eqb}
use Rattle.ta_witness.proofs.Common.{cond, true, false, not, Option, Some, None, slice_get, IsBitSet, arith, refl, sym, ap, ◌∙◌, subst, append_assoc}
use Rattle.ta_witness.proofs.Common.{append-nil, false≢true, and_parts, not-true, or_parts, or_right, nat_tests, eqb_tells, map-append, length-reverse}
use Rattle.ta_witness.proofs.Common.{length-map, slice_get_within, all_below-at, bit_true, get_parts, reverse_onto, slice_get_left, times-append, Automaton}
use Rattle.ta_witness.proofs.Common.{Pattern, has_bit, all_below, implies, In, times_in, Element, Event, Rise, Fall, has_event, follows, children, LegalWord}
use Rattle.ta_witness.proofs.Common.{Meaning, position_in, steps_of, event_ready, Mark, unit_steps, Piece, MarksInOrder, pieces_lines, pieces_marks}
use Rattle.ta_witness.proofs.Common.{piece_lines, step_line, last_lines, steps_until, no_steps, last_item, place_of, unit_steps-append}
use Rattle.ta_base.proofs.Times.{times-in}
use Rattle.ta_base.proofs.Booleans.{implies-at}
use Rattle.ta_automaton.specs.declared.pattern.Event.{Event as PatternEvent}
use Rattle.ta_witness.proofs.Backward.{PiecesBack, piece_rules, last_rules}
use Rattle.ta_scope.specs.Legal as scope

-- newer elements without an event leave its position
keep_position : (newer : List Element) (fs : List (List ℕ)) (past : List Element) (firings : List (List ℕ)) (e : ℕ) → length fs ≡ length newer
    → has_event newer e ≡ false → position_in (newer ++ past) (fs ++ firings) e ≡ position_in past firings e
unfolding has_event
keep_position [] [] past firings e size none = refl
keep_position [] (f ∷ fs) past firings e size none = absurd (omega arith)
keep_position (x ∷ newer) [] past firings e size none = absurd (omega arith)
keep_position (Event g ∷ newer) (f ∷ fs) past firings e size none =
    let parts = or_parts (eqb g e) (has_event newer e) none in
    let other : eqb e g ≡ false = (let n = parts.0 in grind (arith, nat_tests)) in
    rw other (keep_position newer fs past firings e (omega arith) parts.1)
keep_position (Rise i ∷ newer) (f ∷ fs) past firings e size none = keep_position newer fs past firings e (omega arith) none
keep_position (Fall mask ∷ newer) (f ∷ fs) past firings e size none = keep_position newer fs past firings e (omega arith) none

has_there : (newer : List Element) (e : ℕ) (past : List Element) → has_event (newer ++ (Event e ∷ past)) e ≡ true
unfolding has_event
has_there [] e past = let s : eqb e e ≡ true = grind (arith, nat_tests) in rw s refl
has_there (Event g ∷ newer) e past = or_right (eqb g e) (has_event (newer ++ (Event e ∷ past)) e) (has_there newer e past)
has_there (Rise i ∷ newer) e past = has_there newer e past
has_there (Fall mask ∷ newer) e past = has_there newer e past

-- an event that is a child is new
new_event : (a : Automaton) (p : Pattern) (start : ℕ) (past : List Element) (e : ℕ) → In (Event e) (children a p [] start past) → has_event past e ≡ false
new_event a p start past e child = not-true (has_event past e)
    (and_parts (not (has_event past e)) (follows p past (slice_get p.events e)) (event_ready a p [] start past e child)).0

no_repeat : (a : Automaton) (p : Pattern) (start : ℕ) (newer : List Element) (e : ℕ) (past : List Element) → LegalWord a p start (newer ++ (Event e ∷ past))
    → has_event newer e ≡ false
unfolding has_event
no_repeat a p start [] e past legal = refl
no_repeat a p start (Event g ∷ newer) e past legal = elim (eqb_tells g e) [
  | inl s ↦ absurd (false≢true (sym (new_event a p start (newer ++ (Event e ∷ past)) g legal.0) ∙ ap (has_event (newer ++ (Event e ∷ past))) s.1
      ∙ has_there newer e past))
  | inr ne ↦ rw ne.0 (no_repeat a p start newer e past legal.1)
]
no_repeat a p start (Rise i ∷ newer) e past legal = no_repeat a p start newer e past legal.1
no_repeat a p start (Fall mask ∷ newer) e past legal = no_repeat a p start newer e past legal.1

-- the unit steps of pieces
steps_lines : (steps : List (ℕ × ℤ)) → unit_steps (map step_line steps) ≡ scope.arranged_steps steps
steps_lines [] = refl
steps_lines (step ∷ steps) = ap (λ (xs : List ℕ). replicate (unsigned_abs step.1) step.0 ++ xs) (steps_lines steps)

last_steps : (last : Option ℕ) → unit_steps (last_lines last) ≡ last_rules last
last_steps None = refl
last_steps (Some r) = refl

lines_rules : (piece : Piece) → unit_steps (piece_lines piece) ≡ piece_rules piece
lines_rules piece =
    unit_steps-append (map step_line piece.steps) (last_lines piece.last ++ map Mark piece.marks)
    ∙ ap (λ (xs : List ℕ). xs ++ unit_steps (last_lines piece.last ++ map Mark piece.marks)) (steps_lines piece.steps)
    ∙ ap (λ (xs : List ℕ). scope.arranged_steps piece.steps ++ xs)
    (unit_steps-append (last_lines piece.last) (map Mark piece.marks)
    ∙ ap (λ (xs : List ℕ). unit_steps (last_lines piece.last) ++ xs) (no_steps piece.marks) ∙ append-nil (unit_steps (last_lines piece.last))
    ∙ last_steps piece.last)

back_steps : (pieces back : List Piece) → steps_of (map piece_rules (reverse pieces ++ back)) ≡ steps_of (map piece_rules back)
    ++ unit_steps (pieces_lines pieces)
back_steps [] back = sym (append-nil (steps_of (map piece_rules back)))
back_steps (q ∷ pieces) back =
    ap (λ (ps : List Piece). steps_of (map piece_rules ps)) (reverse_onto q pieces back)
    ∙ back_steps pieces (q ∷ back)
    ∙ append_assoc (steps_of (map piece_rules back)) (piece_rules q) (unit_steps (pieces_lines pieces))
    ∙ ap (λ (xs : List ℕ). steps_of (map piece_rules back) ++ xs)
    (ap (λ (xs : List ℕ). xs ++ unit_steps (pieces_lines pieces)) (sym (lines_rules q)) ∙ sym (unit_steps-append (piece_lines q) (pieces_lines pieces)))

pub all_steps : (pieces : List Piece) → steps_of (map piece_rules (reverse pieces)) ≡ unit_steps (pieces_lines pieces)
all_steps pieces = ap (λ (ps : List Piece). steps_of (map piece_rules ps)) (sym (append-nil (reverse pieces))) ∙ back_steps pieces []

-- an event's position is the end of its piece
position_onto : (a : Automaton) (p : Pattern) (start : ℕ) (word : List Element) (pieces : List Piece) (past : List Element) (back : List Piece) (k e : ℕ)
    → length pieces ≡ length word → LegalWord a p start (reverse word ++ past) → slice_get word k ≡ Some (Event e)
    → position_in (reverse word ++ past) (map piece_rules (reverse pieces ++ back)) e ≡ length
    (steps_of (map piece_rules (reverse (take (k + 1) pieces) ++ back)))
position_onto a p start [] pieces past back k e size legal at = absurd (cc)
position_onto a p start (x ∷ word) [] past back k e size legal at = absurd (omega arith)
position_onto a p start (x ∷ word) (q ∷ pieces) past back zero e size legal at =
    let same : x ≡ Event e = cc in
    let onto : reverse (x ∷ word) ++ past ≡ reverse word ++ (Event e ∷ past) = reverse_onto x word past
    ∙ ap (λ (y : Element). reverse word ++ (y ∷ past)) same in
    let fires : map piece_rules (reverse (q ∷ pieces) ++ back) ≡ map piece_rules (reverse pieces)
    ++ map piece_rules (q ∷ back) = ap (map piece_rules) (reverse_onto q pieces back) ∙ map-append piece_rules (reverse pieces) (q ∷ back) in
    let many : length (map piece_rules (reverse pieces)) ≡ length (reverse word) = omega
    (arith, length-map (reverse pieces) piece_rules, length-reverse pieces, length-reverse word) in
    ap (λ (ys : List Element). position_in ys (map piece_rules (reverse (q ∷ pieces) ++ back)) e) onto
    ∙ ap (λ (fs : List (List ℕ)). position_in (reverse word ++ (Event e ∷ past)) fs e) fires
    ∙ keep_position (reverse word) (map piece_rules (reverse pieces)) (Event e ∷ past) (map piece_rules (q ∷ back)) e many
    (no_repeat a p start (reverse word) e past (subst (LegalWord a p start) onto legal))
    ∙ (let s : eqb e e ≡ true = grind (arith, nat_tests) in rw s refl)
position_onto a p start (x ∷ word) (q ∷ pieces) past back (suc k) e size legal at =
    let next : suc k + 1 ≡ suc (k + 1) = omega arith in
    ap (λ (ys : List Element). position_in ys (map piece_rules (reverse (q ∷ pieces) ++ back)) e) (reverse_onto x word past)
    ∙ ap (λ (ps : List Piece). position_in (reverse word ++ (x ∷ past)) (map piece_rules ps) e) (reverse_onto q pieces back)
    ∙ position_onto a p start word pieces (x ∷ past) (q ∷ back) k e (omega arith) (subst (LegalWord a p start) (reverse_onto x word past) legal) at
    ∙ ap (λ (ps : List Piece). length (steps_of (map piece_rules ps))) (sym (reverse_onto q (take (k + 1) pieces) back))
    ∙ ap (λ (n : ℕ). length (steps_of (map piece_rules (reverse (take n (q ∷ pieces)) ++ back)))) (sym next)

pub position_at : (a : Automaton) (p : Pattern) (start : ℕ) (word : List Element) (pieces : List Piece) (k e : ℕ) → length pieces ≡ length word
    → LegalWord a p start (reverse word) → slice_get word k ≡ Some (Event e)
    → position_in (reverse word) (map piece_rules (reverse pieces)) e ≡ steps_until pieces k
position_at a p start word pieces k e size legal at =
    ap (λ (ys : List Element). position_in ys (map piece_rules (reverse pieces)) e) (sym (append-nil (reverse word)))
    ∙ ap (λ (ps : List Piece). position_in (reverse word ++ []) (map piece_rules ps) e) (sym (append-nil (reverse pieces)))
    ∙ position_onto a p start word pieces [] [] k e size (subst (LegalWord a p start) (sym (append-nil (reverse word))) legal) at
    ∙ ap (λ (xs : List ℕ). length xs) (back_steps (take (k + 1) pieces) [])

-- the marks, from the oldest piece on
back_marks : List Piece → List ℕ
back_marks [] = []
back_marks (piece ∷ back) = back_marks back ++ piece.marks

marks_onto : (pieces back : List Piece) → back_marks (reverse pieces ++ back) ≡ back_marks back ++ pieces_marks pieces
unfolding back_marks
marks_onto [] back = sym (append-nil (back_marks back))
marks_onto (q ∷ pieces) back = ap back_marks (reverse_onto q pieces back) ∙ marks_onto pieces (q ∷ back)
    ∙ append_assoc (back_marks back) q.marks (pieces_marks pieces)

all_marks : (pieces : List Piece) → back_marks (reverse pieces) ≡ pieces_marks pieces
unfolding back_marks
all_marks pieces = ap back_marks (sym (append-nil (reverse pieces))) ∙ marks_onto pieces []

no_marks : (e : ℕ) (back : List Piece) (piece : Piece) → piece.marks ≡ [] → back_marks (piece ∷ back) ≡ back_marks back
unfolding back_marks
no_marks e back piece none = ap (λ (es : List ℕ). back_marks back ++ es) none ∙ append-nil (back_marks back)

-- each event of a legal word has one mark
marks_once : (a : Automaton) (p : Pattern) (start : ℕ) (value : Meaning → ℤ) (past : List Element) (back : List Piece) (e : ℕ) → LegalWord a p start past
    → PiecesBack a value past back → times_in e (back_marks back) ≡ cond (has_event past e) 1 0
unfolding back_marks has_event times_in
marks_once a p start value [] [] e legal h = refl
marks_once a p start value [] (piece ∷ back) e legal h = absurd h
marks_once a p start value (x ∷ past) [] e legal h = absurd h
marks_once a p start value (Event g ∷ past) (piece ∷ back) e legal h =
    let rest = marks_once a p start value past back e legal.1 h.1 in
    let cut = ap (λ (es : List ℕ). times_in e (back_marks back ++ es)) h.0.ends.1 in
    let both = times-append e (back_marks back) (g ∷ []) in
    elim (eqb_tells g e) [
      | inl s ↦ (
          let new : has_event past e ≡ false = ap (has_event past) (sym s.1) ∙ new_event a p start past g legal.0 in
          let old : times_in e (back_marks back) ≡ 0 = rest ∙ ap (λ b. cond b 1 0) new in
          cut ∙ both ∙ rw s.0 (omega (arith, old)))
      | inr ne ↦ cut ∙ both ∙ rw ne.0 (omega (arith, rest))
    ]
marks_once a p start value (Rise i ∷ past) (piece ∷ back) e legal h = ap (times_in e) (no_marks e back piece h.0.ends.1)
    ∙ marks_once a p start value past back e legal.1 h.1
marks_once a p start value (Fall mask ∷ past) (piece ∷ back) e legal h = ap (times_in e) (no_marks e back piece h.0.ends.1)
    ∙ marks_once a p start value past back e legal.1 h.1

-- the marks of the events that an event comes after stand before it
Before : Pattern → List ℕ → Type 0
Before p marks = (e f i : ℕ) (event : PatternEvent) → slice_get p.events e ≡ Some event → IsBitSet event.after f → slice_get marks i ≡ Some e → (j : ℕ)
    × (j < i) × (slice_get marks j ≡ Some f)

marks_before : (a : Automaton) (p : Pattern) (start : ℕ) (value : Meaning → ℤ)
    → ((e : ℕ) (event : PatternEvent) → slice_get p.events e ≡ Some event → (f : ℕ) → IsBitSet event.after f → f < e)
    → (past : List Element) (back : List Piece) → LegalWord a p start past → PiecesBack a value past back → Before p (back_marks back)
unfolding back_marks Before
marks_before a p start value earlier [] [] legal h e f i event at bit there = absurd (cc)
marks_before a p start value earlier [] (piece ∷ back) legal h e f i event at bit there = absurd h
marks_before a p start value earlier (x ∷ past) [] legal h e f i event at bit there = absurd h
marks_before a p start value earlier (Event g ∷ past) (piece ∷ back) legal h e f i event at bit there =
    let old = back_marks back in
    let here : slice_get (old ++ (g ∷ [])) i ≡ Some e = ap (λ (es : List ℕ). slice_get (old ++ es) i) (sym h.0.ends.1) ∙ there in
    elim (get_parts old (g ∷ []) i e here) [
      | inl w ↦ (let v = marks_before a p start value earlier past back legal.1 h.1 e f i event at bit w in
          (v.0, v.1, slice_get_left old piece.marks v.0 f v.2))
      | inr w ↦ (
          let same : g ≡ e = (last_item g e w.0 w.2).1 in
          let ready = and_parts (not (has_event past g)) (follows p past (slice_get p.events g)) (event_ready a p [] start past g legal.0) in
          let b : f < length p.events = (let less = earlier e event at f bit in let c = slice_get_within p.events e event at in omega arith) in
          let follow : follows p past (Some event) ≡ true = ap (follows p past) (sym at ∙ ap (slice_get p.events) (sym same)) ∙ ready.1 in
          let done : has_event past f ≡ true = implies-at (has_bit event.after f) (has_event past f)
          (all_below-at (length p.events) (λ k. implies (has_bit event.after k) (has_event past k)) follow f b) (bit_true event.after f bit) in
          let one : times_in f old ≡ 1 = marks_once a p start value past back f legal.1 h.1 ∙ ap (λ t. cond t 1 0) done in
          let v = place_of f old (times-in f old (omega (arith, one))) in
          let within = slice_get_within old v.0 f v.1 in
          (v.0, (let q = w.1 in omega arith), slice_get_left old piece.marks v.0 f v.1))
    ]
marks_before a p start value earlier (Rise g ∷ past) (piece ∷ back) legal h e f i event at bit there =
    let none : back_marks back ++ piece.marks ≡ back_marks back = no_marks e back piece h.0.ends.1 in
    let v = marks_before a p start value earlier past back legal.1 h.1 e f i event at bit (ap (λ (es : List ℕ). slice_get es i) (sym none) ∙ there) in
    (v.0, v.1, slice_get_left (back_marks back) piece.marks v.0 f v.2)
marks_before a p start value earlier (Fall mask ∷ past) (piece ∷ back) legal h e f i event at bit there =
    let none : back_marks back ++ piece.marks ≡ back_marks back = no_marks e back piece h.0.ends.1 in
    let v = marks_before a p start value earlier past back legal.1 h.1 e f i event at bit (ap (λ (es : List ℕ). slice_get es i) (sym none) ∙ there) in
    (v.0, v.1, slice_get_left (back_marks back) piece.marks v.0 f v.2)

pub marks_in_order : (a : Automaton) (p : Pattern) (start : ℕ) (value : Meaning → ℤ)
    → ((e : ℕ) (event : PatternEvent) → slice_get p.events e ≡ Some event → (f : ℕ) → IsBitSet event.after f → f < e)
    → (past : List Element) (pieces : List Piece) → LegalWord a p start past → all_below (length p.events) (has_event past) ≡ true
    → PiecesBack a value past (reverse pieces) → MarksInOrder p (pieces_marks pieces)
unfolding Before
marks_in_order a p start value earlier past pieces legal complete h =
    let same = all_marks pieces in
    let before = marks_before a p start value earlier past (reverse pieces) legal h in
    record {
      once = λ e b. ap (times_in e) (sym same) ∙ marks_once a p start value past (reverse pieces) e legal h
          ∙ ap (λ t. cond t 1 0) (all_below-at (length p.events) (has_event past) complete e b);
      in_order = λ e f i event at bit there.
          let w = before e f i event at bit (ap (λ (es : List ℕ). slice_get es i) same ∙ there) in
          (w.0, w.1, ap (λ (es : List ℕ). slice_get es w.0) (sym same) ∙ w.2);
    }
