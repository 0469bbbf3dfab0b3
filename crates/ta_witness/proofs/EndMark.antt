-- at rest, the run of a whole node of a pattern with one event ends with the mark of this event
use Rattle.ta_witness.proofs.Common.{◌-◌, moving_rules, end_vector, Node, known_at, of_rest, InScope, WholeNode, Counts, NoneFewer, Rising, firings_in}
use Rattle.ta_witness.proofs.Common.{counts_of, only_last, sorted_is_chain, Piece, last_lines, piece_lines, pieces_lines, step_line, RunLine, Mark, ComesLast}
use Rattle.ta_witness.proofs.Common.{ComeAfterEarlier, arranged_within, ArrangedOf, PiecesTo, event_stop, listed, no_counts, node_stops, stops_of}
use Rattle.ta_moments.proofs.Common.{◌≡◌, inl, inr, ℕ, ◌+◌, ℤ, List, [], ◌∷◌, ◌++◌, map, drop, length, Option, arith, ints, sym, ap, ◌∙◌, refl}
use Rattle.ta_moments.proofs.Common.{subst, append_assoc, append-nil, range_with_len, In, Automaton, Pattern, after_earlier, pattern_within}
use Rattle.ta_witness.proofs.LastMark.{EndsWithMark, marked_piece}
unfoldable use Rattle.ta_witness.specs.Stops.{sorted_stops, with_stop}
use Rattle.ta_witness.specs.Stops.{Stop}
use Rattle.ta_witness.specs.Resting.{MomentRunsEndMarked}
use Rattle.ta_witness.proofs.Listing.{are_listed, listed_moves}
use Rattle.ta_witness.proofs.Marking.{stop_high}
use Rattle.ta_witness.proofs.Positions.{moment_for}
use Rattle.ta_witness.proofs.Showing.{Seen, run_in, seen}
use Rattle.ta_witness.proofs.Sorting.{go_or_stay, sorted_only, sorted_rising}
use Rattle.ta_witness.proofs.Walking.{stop_counts}

-- where no moving rule fires there is no step
no_steps : (a : Automaton) (p : Pattern) → InScope a → (n : Counts) → ((r : ℕ) → In r (moving_rules a p) → n r ≡ 0) → (steps : List (ℕ × ℤ))
    → ArrangedOf a (listed a p n) steps → steps ≡ []
no_steps a p scope n none [] h = refl
no_steps a p scope n none (s ∷ steps) h =
    let w = arranged_within a scope (listed a p n) (are_listed a p n) (s ∷ steps) h in
    let b = w.exist.0 in
    let low = w.factors.0.0 in
    let high = w.factors.0.1 in
    let m = listed_moves a p n s.0 b (omega (arith, ints, low, high)) in
    let some = m.1 in
    let zero_is = none s.0 m.0 in
    absurd (omega (arith, some, zero_is))

-- a stop without a mark that has what other counts have
abbrev IsPlainAt : List ℕ → Counts → Stop → Type 0
IsPlainAt rs u s = NoneFewer rs s.counts u × NoneFewer rs u s.counts × (s.marks ≡ [])

-- such stops make no line behind these counts
plain_lines : (a : Automaton) (p : Pattern) → InScope a → (u v : Counts) (ss : List Stop) (pieces : List Piece) → NoneFewer (moving_rules a p) u v
    → ((s : Stop) → In s ss → IsPlainAt (moving_rules a p) u s) → PiecesTo a p v ss pieces → pieces_lines pieces ≡ []
plain_lines a p scope u v [] [] le plain are = refl
plain_lines a p scope u v [] (q ∷ pieces) le plain are = absurd are
plain_lines a p scope u v (s ∷ ss) [] le plain are = absurd are
plain_lines a p scope u v (s ∷ ss) (q ∷ pieces) le plain are =
    let here = plain s (inl refl) in
    let steps = no_steps a p scope (λ r. s.counts r - v r) (λ r i. let most = here.0 r i in let least = le r i in omega (arith, most, least)) q.steps
    are.0.steps in
    let last = are.0.none_last in
    let marks = are.0.marks ∙ here.2 in
    let none : piece_lines q ≡ [] = (λ i. map step_line (steps i) ++ (last_lines (last i) ++ map Mark (marks i))) in
    ap (λ (ls : List RunLine). ls ++ pieces_lines pieces) none ∙ plain_lines a p scope u s.counts ss pieces here.1 (λ t i. plain t (inr i)) are.1

-- a marked stop with such stops behind it
stays_last : (a : Automaton) (p : Pattern) → InScope a → (e : ℕ) (s : Stop) → s.marks ≡ e ∷ [] → (v : Counts) (ts : List Stop) (pieces : List Piece)
    → ((t : Stop) → In t ts → IsPlainAt (moving_rules a p) s.counts t) → PiecesTo a p v (s ∷ ts) pieces → EndsWithMark e (pieces_lines pieces)
stays_last a p scope e s mark v ts [] plain are = absurd are
stays_last a p scope e s mark v ts (q ∷ pieces) plain are =
    let behind = plain_lines a p scope s.counts s.counts ts pieces (λ r i. omega arith) plain are.1 in (
      map step_line q.steps,
      ap (λ (ls : List RunLine). piece_lines q ++ ls) behind ∙ append-nil (piece_lines q)
          ∙ marked_piece q e are.0.none_last (are.0.marks ∙ mark),
    )

-- a stop before it
goes_before : (a : Automaton) (p : Pattern) (e : ℕ) (v : Counts) (t : Stop) (ss : List Stop) (pieces : List Piece) → PiecesTo a p v (t ∷ ss) pieces
    → ((qs : List Piece) → PiecesTo a p t.counts ss qs → EndsWithMark e (pieces_lines qs)) → EndsWithMark e (pieces_lines pieces)
goes_before a p e v t ss [] are next = absurd are
goes_before a p e v t ss (q ∷ qs) are next =
    let w = next qs are.1 in
    (piece_lines q ++ w.0, ap (λ (ls : List RunLine). piece_lines q ++ ls) w.1 ∙ sym (append_assoc (piece_lines q) w.0 (Mark e ∷ [])))

-- a marked stop that none exceeds, sorted into stops without marks
marked_last : (a : Automaton) (p : Pattern) → InScope a → (e : ℕ) (s : Stop) → s.marks ≡ e ∷ [] → (low : ℕ) (v : Counts) (ts : List Stop) (pieces : List Piece)
    → Rising (moving_rules a p) low (stop_counts ts) → ((t : Stop) → In t ts → NoneFewer (moving_rules a p) t.counts s.counts × (t.marks ≡ []))
    → PiecesTo a p v (with_stop (moving_rules a p) s ts) pieces → EndsWithMark e (pieces_lines pieces)
unfolding with_stop
marked_last a p scope e s mark low v [] pieces rising others are = stays_last a p scope e s mark v [] pieces (λ t i. absurd i) are
marked_last a p scope e s mark low v (t ∷ ts) pieces rising others are =
    let rs = moving_rules a p in
    elim (go_or_stay rs s t ts) [
      | inl w ↦ goes_before a p e v t (with_stop rs s ts) pieces (subst (λ (xs : List Stop). PiecesTo a p v xs pieces) w.1 are)
          (λ qs there. marked_last a p scope e s mark (firings_in rs t.counts) t.counts ts qs rising.1 (λ u i. others u (inr i)) there)
      | inr w ↦ stays_last a p scope e s mark v (t ∷ ts) pieces (λ u i.
          let low_enough = w.0 in
          let high = stop_high rs (firings_in rs t.counts) (t ∷ ts) (omega arith, rising.1) u i in
          let most = others u i in
          (most.0, sorted_is_chain rs s.counts u.counts (inr most.0) (omega (arith, low_enough, high)), most.1))
          (subst (λ (xs : List Stop). PiecesTo a p v xs pieces) w.1 are)
    ]

-- the stops of a node of a pattern with one event
one_event : (a : Automaton) (p : Pattern) (silent : List ℕ) (node : Node) (vs : List ℕ) → length p.events ≡ 1
    → node_stops a p (of_rest silent) node vs ≡ event_stop a p vs 0 ∷ stops_of vs (drop (length p.events) (known_at a p (of_rest silent) node).moments)
one_event a p silent node vs one =
    ap (λ (n : ℕ). map (event_stop a p vs) (range_with_len 0 n) ++ stops_of vs (drop (length p.events) (known_at a p (of_rest silent) node).moments)) one

sorted_last : (a : Automaton) (p : Pattern) → InScope a → ComesLast p → (silent : List ℕ) (node : Node) (vs : List ℕ) → WholeNode a p (of_rest silent) node vs
    → (h : Seen a p (of_rest silent) node vs) → length p.events ≡ 1 → (pieces : List Piece)
    → PiecesTo a p no_counts (sorted_stops (moving_rules a p) (node_stops a p (of_rest silent) node vs)) pieces → EndsWithMark 0 (pieces_lines pieces)
unfolding sorted_stops
sorted_last a p scope l silent node vs whole h one pieces are =
    let rs = moving_rules a p in
    let asking = of_rest silent in
    let s = event_stop a p vs 0 in
    let rest = stops_of vs (drop (length p.events) (known_at a p asking node).moments) in
    let stops : node_stops a p asking node vs ≡ s ∷ rest = one_event a p silent node vs one in
    let candidate = only_last p l 0 (sym one) node.candidate whole.candidate_is in
    marked_last a p scope 0 s refl 0 no_counts (sorted_stops rs rest) pieces (sorted_rising rs rest)
    (λ t i.
    let among = sorted_only rs rest t i in
    let there = h.stops.only t (subst (λ (xs : List Stop). In t xs) (sym stops) (inr among)) in (
      subst (λ (c : Option ℕ). NoneFewer rs t.counts (counts_of vs (end_vector a p c))) candidate (h.picture.picture.within t.counts there),
      (moment_for vs (drop (length p.events) (known_at a p asking node).moments) t among).3,
    ))
    (subst (λ (xs : List Stop). PiecesTo a p no_counts (sorted_stops rs xs) pieces) stops are)

pub ends_with_event : MomentRunsEndMarked
ends_with_event file scope number silent node vs whole l one run r =
    let a = file.automaton in
    let p = whole.pattern in
    let asking = of_rest silent in
    let within = after_earlier (length a.parameters + length a.shared + length a.locations) (length a.locations) p (pattern_within file number p whole.named) in
    let earlier : ComeAfterEarlier p = (λ e event here f set. within e event here f set) in
    let own = run_in file number asking node vs whole run r in
    let found = sorted_last a p scope l silent node vs whole.whole (seen a p earlier asking node vs whole.whole) one own.pieces own.are in
    (found.0, own.lines ∙ found.1)
