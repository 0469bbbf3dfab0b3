-- making the lists and lines of a run
use Rattle.ta_witness.proofs.Common.{◌≡◌, inl, inr, ℕ, zero, suc, ◌+◌, ◌^◌, ◌<◌, ◌≤◌, ℤ, pos, ◌≤ℤ◌, ◌<ℤ◌, List, [], ◌∷◌, ◌++◌, map, length, take, drop, reverse}
use Rattle.ta_witness.proofs.Common.{get_or, cond, true, false, Some, None, slice_get, arith, refl, sym, ap, ◌∙◌, subst, append_assoc, append-nil}
use Rattle.ta_witness.proofs.Common.{length-append, drop-cons, ints, slice_index_or, drop_all, take_more, map-append, length-map, length-take, length-reverse}
use Rattle.ta_witness.proofs.Common.{slice_get_within, AllByRecursion, each_append, each_push, known_naturals, get_parts, last_item, AllHold-left, Automaton}
use Rattle.ta_witness.proofs.Common.{Pattern, File, range_with_len, InScope, pattern_within, AreRuleCounts, ArrangedOf, count_at, arranged_within, Element}
use Rattle.ta_witness.proofs.Common.{Event, Fall, Meaning, Parameter, Start, legal_length, Solution, meanings, word_rows, Run, Step, Mark, Piece, step_line}
use Rattle.ta_witness.proofs.Common.{last_lines, piece_lines, pieces_lines, same_meaning, unknown_value, PieceOf, PiecesOf, WitnessOf, counts_before}
use Rattle.ta_witness.proofs.Common.{AreNaturals, AreValues, IsSingle, EachMayEnd, AddsPieceEnd, AddsPiece, AddsPieces, IsMadeFrom, RunOf, range_more}
use Rattle.ta_witness.proofs.Common.{length-range_with_len, Value, RunLine, LineFits, Fits}
use Rattle.ta_automaton.specs.Narrow.{IsNarrow}
use Rattle.ta_linear.specs.Numbers.{InRange}
use Rattle.ta_witness.proofs.Endings.{each_ends}

-- looking for an unknown
next_of : (ms : List Meaning) (vs : List ℤ) (m d : Meaning) (i : ℕ) → i < length ms → length vs ≡ length ms
    → unknown_value (drop i ms) (drop i vs) m ≡ cond (same_meaning (get_or ms i d) m) (get_or vs i (pos 0))
    (unknown_value (drop (i + 1) ms) (drop (i + 1) vs) m)
unfolding unknown_value
next_of ms vs m d i b size =
    ap (λ (ns : List Meaning). unknown_value ns (drop i vs) m) (drop-cons ms i d b)
    ∙ ap (λ (ws : List ℤ). unknown_value (get_or ms i d ∷ drop (suc i) ms) ws m) (drop-cons vs i (pos 0) (omega arith))
    ∙ ap (λ (j : ℕ). cond (same_meaning (get_or ms i d) m) (get_or vs i (pos 0)) (unknown_value (drop j ms) (drop j vs) m))
    (let e : suc i ≡ i + 1 = omega arith in e)

pub look_next : (ms : List Meaning) (vs : List ℤ) (m d : Meaning) (i : ℕ) (u : ℤ) → i < length ms → length vs ≡ length ms
    → same_meaning (get_or ms i d) m ≡ false → unknown_value (drop i ms) (drop i vs) m ≡ u → unknown_value (drop (i + 1) ms) (drop (i + 1) vs) m ≡ u
look_next ms vs m d i u b size other is = sym
    (next_of ms vs m d i b size ∙ ap (λ t. cond t (get_or vs i (pos 0)) (unknown_value (drop (i + 1) ms) (drop (i + 1) vs) m)) other) ∙ is

pub look_found : (ms : List Meaning) (vs : List ℤ) (m d : Meaning) (i : ℕ) (u : ℤ) → i < length ms → length vs ≡ length ms
    → same_meaning (get_or ms i d) m ≡ true → unknown_value (drop i ms) (drop i vs) m ≡ u → get_or vs i (pos 0) ≡ u
look_found ms vs m d i u b size same is = sym
    (next_of ms vs m d i b size ∙ ap (λ t. cond t (get_or vs i (pos 0)) (unknown_value (drop (i + 1) ms) (drop (i + 1) vs) m)) same) ∙ is

pub look_end : (ms : List Meaning) (vs : List ℤ) (m : Meaning) (i : ℕ) (u : ℤ) → length ms ≤ i → unknown_value (drop i ms) (drop i vs) m ≡ u → pos 0 ≡ u
unfolding unknown_value
look_end ms vs m i u b is = sym (ap (λ (ns : List Meaning). unknown_value ns (drop i vs) m) (drop_all i ms b)) ∙ is

pub values_more : (f : ℕ → ℤ) (i : ℕ) (xs : List ℤ) (z : ℤ) → AreValues (map f (range_with_len 0 i)) xs → z ≡ f i → Value z
    → AreValues (map f (range_with_len 0 (i + 1))) (xs ++ z ∷ [])
values_more f i xs z h e v =
    let more : range_with_len 0 (i + 1) ≡ range_with_len 0 i ++ i ∷ [] = ap (range_with_len 0) (let q : i + 1 ≡ suc i = omega arith in q) ∙ range_more 0 i
    ∙ ap (λ (x : ℕ). range_with_len 0 i ++ x ∷ []) (let q : 0 + i ≡ i = omega arith in q) in
    record {
      are = ap (λ (ys : List ℤ). ys ++ z ∷ []) h.are ∙ ap (λ (y : ℤ). map f (range_with_len 0 i) ++ y ∷ []) e ∙ sym (map-append f (range_with_len 0 i) (i ∷ []))
          ∙ ap (map f) (sym more);
      natural = each_push Value xs z h.natural v;
    }

-- the ends of elements
pub ended_event : (a : Automaton) (p : Pattern) (value : Meaning → ℤ) (k e : ℕ) (before after : List RunLine) → e < length p.events → after ≡ before
    ++ Mark e ∷ [] → AddsPieceEnd a p value k (Event e) before after
ended_event a p value k e before after b added = record { last = None; marks = e ∷ []; ends = λ steps. (refl, refl); added = added; fit = (b, tt) }

pub ended_fall : (a : Automaton) (p : Pattern) (value : Meaning → ℤ) (k mask r : ℕ) (before after : List RunLine) → IsSingle a value k r → after ≡ before
    ++ Step r (pos 1) ∷ [] → AddsPieceEnd a p value k (Fall mask) before after
ended_fall a p value k mask r before after single added = record {
  last = Some r;
  marks = [];
  ends = λ steps. ((r, refl, single.one), refl);
  added = added;
  fit = ((single.exists, omega (arith, ints), omega arith), tt);
}

-- one step more
abbrev pub StepsPushed : List (ℕ × ℤ) → List RunLine → List RunLine → Type 0
StepsPushed steps before lines = (lines ≡ before ++ map step_line steps) × AllByRecursion (λ (step : ℕ × ℤ). step.1 <ℤ pos (2 ^ 127)) steps

pub steps_push : (steps : List (ℕ × ℤ)) (i : ℕ) (d : ℕ × ℤ) (before lines after : List RunLine) → i < length steps → StepsPushed (take i steps) before lines
    → after ≡ lines ++ Step (get_or steps i d).0 (get_or steps i d).1 ∷ [] → (get_or steps i d).1 <ℤ pos (2 ^ 127)
    → StepsPushed (take (i + 1) steps) before after
steps_push steps i d before lines after b h added below =
    let x = get_or steps i d in
    let more : StepsPushed (take i steps ++ x ∷ []) before after = (
      added ∙ ap (λ (ls : List RunLine). ls ++ step_line x ∷ []) h.0 ∙ append_assoc before (map step_line (take i steps)) (step_line x ∷ [])
          ∙ ap (λ (ls : List RunLine). before ++ ls) (sym (map-append step_line (take i steps) (x ∷ []))),
      each_push (λ (step : ℕ × ℤ). step.1 <ℤ pos (2 ^ 127)) (take i steps) x h.1 below,
    ) in
    subst (λ (xs : List (ℕ × ℤ)). StepsPushed xs before after) (sym (take_more steps i d b)) more

-- lists of Counts
natural_at : (xs : List ℤ) (r : ℕ) → AllByRecursion Value xs → pos 0 ≤ℤ slice_index_or xs r (pos 0)
natural_at [] r h = omega (arith, ints)
natural_at (x ∷ xs) zero h = h.0.natural
natural_at (x ∷ xs) (suc r) h = natural_at xs r h.1

pub counts_from : (a : Automaton) (f : ℕ → ℤ) (n : ℕ) (xs : List ℤ) → n ≡ length a.rules → AreValues (map f (range_with_len 0 n)) xs → AreRuleCounts a xs
counts_from a f n xs size h = record {
  each_rule = ap (λ (ys : List ℤ). length ys) h.are ∙ length-map (range_with_len 0 n) f ∙ length-range_with_len 0 n ∙ size;
  natural = λ r. natural_at xs r h.natural;
}

-- the lines of steps within their counts fit
in_range : (z : ℤ) → pos 1 ≤ℤ z → z <ℤ pos (2 ^ 127) → InRange z
in_range z low high = grind (arith, ints)

pub steps_fit : (a : Automaton) (p : Pattern) (counts : List ℤ) (steps : List (ℕ × ℤ)) → AllByRecursion (λ (step : ℕ × ℤ). step.0 < length a.rules) steps
    → AllByRecursion (λ (step : ℕ × ℤ). (pos 1 ≤ℤ step.1) × (step.1 ≤ℤ count_at counts step.0)) steps
    → AllByRecursion (λ (step : ℕ × ℤ). step.1 <ℤ pos (2 ^ 127)) steps → AllByRecursion (LineFits a p) (map step_line steps)
steps_fit a p counts [] e f g = tt
steps_fit a p counts (step ∷ steps) e f g = ((e.0, f.0.0, in_range step.1 f.0.0 g.0), steps_fit a p counts steps e.1 f.1 g.1)

-- the piece of an element: its arranged steps are added, and then its end
pub piece_added : (a : Automaton) → InScope a → (p : Pattern) (value : Meaning → ℤ) (k : ℕ) (element : Element) (counts : List ℤ) (steps : List (ℕ × ℤ))
    (before middle after : List RunLine) → counts ≡ counts_before a value k → AreRuleCounts a counts → ArrangedOf a counts steps
    → StepsPushed steps before middle → AddsPieceEnd a p value k element middle after → AddsPiece a p value k element before after
piece_added a scope p value k element counts steps before middle after are natural arranged pushed ended =
    let within = arranged_within a scope counts natural steps arranged in
    let fit = steps_fit a p counts steps within.exist within.factors pushed.1 in
    record {
      piece = record { steps = steps; last = ended.last; marks = ended.marks };
      is = record { steps = subst (λ (cs : List ℤ). ArrangedOf a cs steps) are arranged; ends = ended.ends steps };
      added = ended.added ∙ ap (λ (ls : List RunLine). ls ++ (last_lines ended.last ++ map Mark ended.marks)) pushed.0
          ∙ append_assoc before (map step_line steps) (last_lines ended.last ++ map Mark ended.marks);
      fit = each_append (LineFits a p) (map step_line steps) (last_lines ended.last ++ map Mark ended.marks) fit ended.fit;
    }

pieces_more : (a : Automaton) (value : Meaning → ℤ) (word : List Element) (pieces : List Piece) (x : Element) (piece : Piece) → PiecesOf a value word pieces
    → PieceOf a value (length word) x piece → PiecesOf a value (word ++ x ∷ []) (pieces ++ piece ∷ [])
pieces_more a value word pieces x piece h is = record {
  count = omega (arith, h.count, length-append word (x ∷ []), length-append pieces (piece ∷ []));
  each = λ k element q at there. elim (get_parts word (x ∷ []) k element at) [
    | inl w ↦ elim (get_parts pieces (piece ∷ []) k q there) [
      | inl v ↦ h.each k element q w v
      | inr v ↦ absurd (let b = slice_get_within word k element w in let c = v.1 in omega (arith, h.count))
    ]
    | inr w ↦ elim (get_parts pieces (piece ∷ []) k q there) [
      | inl v ↦ absurd (let b = slice_get_within pieces k q v in let c = w.1 in omega (arith, h.count))
      | inr v ↦ (
          let e = last_item x element w.0 w.2 in
          let f = last_item piece q v.0 v.2 in
          let number : length word ≡ k = (let c = w.1 in let z = e.0 in omega arith) in
          subst (λ (y : Element). PieceOf a value k y q) e.1 (subst (PieceOf a value k x) f.1 (subst (λ (j : ℕ). PieceOf a value j x piece) number is)))
    ]
  ];
}

pub pieces_lines-append : (ps qs : List Piece) → pieces_lines (ps ++ qs) ≡ pieces_lines ps ++ pieces_lines qs
pieces_lines-append [] qs = refl
pieces_lines-append (p ∷ ps) qs = ap (λ (ls : List RunLine). piece_lines p ++ ls) (pieces_lines-append ps qs)
    ∙ sym (append_assoc (piece_lines p) (pieces_lines ps) (pieces_lines qs))

pub lined_more : (a : Automaton) (p : Pattern) (value : Meaning → ℤ) (word : List Element) (i : ℕ) (d : Element) (lines after : List RunLine) → i < length word
    → AddsPieces a p value (take i word) lines → AddsPiece a p value i (get_or word i d) lines after → AddsPieces a p value (take (i + 1) word) after
lined_more a p value word i d lines after b h added =
    let x = get_or word i d in
    let size : length (take i word) ≡ i = grind (arith, length-take) in
    let more : AddsPieces a p value (take i word ++ x ∷ []) after = record {
      pieces = h.pieces ++ added.piece ∷ [];
      are = pieces_more a value (take i word) h.pieces x added.piece h.are (subst (λ (j : ℕ). PieceOf a value j x added.piece) (sym size) added.is);
      made = added.added ∙ ap (λ (ls : List RunLine). ls ++ piece_lines added.piece) h.made
          ∙ ap (λ (ls : List RunLine). pieces_lines h.pieces ++ ls) (sym (append-nil (piece_lines added.piece)))
          ∙ sym (pieces_lines-append h.pieces (added.piece ∷ []));
      fit = subst (AllByRecursion (LineFits a p)) (sym added.added) (each_append (LineFits a p) lines (piece_lines added.piece) h.fit added.fit);
    } in
    subst (λ (xs : List Element). AddsPieces a p value xs after) (sym (take_more word i d b)) more

pub known_from : (file : File) (p : Pattern) (ms : List Meaning) (solution : Solution) → IsMadeFrom file p ms solution → AreNaturals ms solution.values
known_from file p ms solution h = record {
  count = ap (λ (vs : List ℤ). length vs) h.are ∙ length-map h.values pos ∙ h.solved.solves.count ∙ ap (λ (ns : List Meaning). length ns) (sym h.unknowns);
  natural = subst (AllByRecursion (λ v. pos 0 ≤ℤ v)) (sym h.are) (known_naturals h.values);
}

pub ends_from : (file : File) (p : Pattern) (ms : List Meaning) (solution : Solution) → IsMadeFrom file p ms solution
    → EachMayEnd file.automaton p (unknown_value ms solution.values) solution.word
ends_from file p ms solution h =
    let a = file.automaton in
    let past = reverse solution.word in
    let start = solution.start_mask in
    let ends = each_ends a p start solution.word h.values h.solved.legal (AllHold-left h.values (word_rows a p start past) [] h.solved.solves.rows_hold) in
    subst (λ (ns : List Meaning). EachMayEnd a p (unknown_value ns solution.values) solution.word) (sym h.unknowns)
    (subst (λ (vs : List ℤ). EachMayEnd a p (unknown_value (meanings a p start past) vs) solution.word) (sym h.are) ends)

pub few_elements : (file : File) (p : Pattern) (ms : List Meaning) (solution : Solution) → IsNarrow file.automaton → IsMadeFrom file p ms solution
    → length solution.word ≤ 30
few_elements file p ms solution narrow h =
    let a = file.automaton in
    omega (
      arith,
      legal_length a p solution.start_mask (reverse solution.word) narrow (pattern_within file solution.pattern p h.named).events_limit
          h.solved.legal,
      length-reverse solution.word,
    )

-- the run that is made is that of the solution, and it fits the file
pub run_witness : (file : File) (p : Pattern) (ms : List Meaning) (solution : Solution) (run : Run) → RunOf file p ms solution run → WitnessOf file solution run
run_witness file p ms solution run r =
    let a = file.automaton in
    let h = r.asked in
    let value : List Meaning → Meaning → ℤ = λ ns. unknown_value ns solution.values in
    record {
      pattern = p;
      named = h.named;
      same_pattern = r.same_pattern;
      parameters = r.parameters.are ∙ ap (λ (ns : List Meaning). map (λ i. value ns (Parameter i)) (range_with_len 0 (length a.parameters))) h.unknowns;
      counts = r.counts.are ∙ ap (λ (ns : List Meaning). map (λ l. value ns (Start l)) a.initial) h.unknowns;
      pieces = r.lined.pieces;
      are = subst (λ (ns : List Meaning). PiecesOf a (value ns) solution.word r.lined.pieces) h.unknowns r.lined.are;
      lines = r.lined.made;
    }

pub run_fits : (file : File) (p : Pattern) (ms : List Meaning) (solution : Solution) (run : Run) → RunOf file p ms solution run → Fits file run
run_fits file p ms solution run r = record {
  pattern = p;
  named = ap (slice_get file.patterns) r.same_pattern ∙ r.asked.named;
  parameters = ap (λ (xs : List ℤ). length xs) r.parameters.are ∙ length-map (range_with_len 0 (length file.automaton.parameters)) _
      ∙ length-range_with_len 0 (length file.automaton.parameters);
  parameters_natural = r.parameters.natural;
  counts = ap (λ (xs : List ℤ). length xs) r.counts.are ∙ length-map file.automaton.initial _;
  counts_natural = r.counts.natural;
  lines = r.lined.fit;
}
