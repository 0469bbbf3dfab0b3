-- the run of a solution shows the pattern, and is short
--
-- The pieces of the run, one for each element, fire as the solution says (`Backward`): arranged steps are an order that goes
-- forward, and the last step of a Fall is the rule whose Single is 1. Firings of this kind give a run in which the pattern occurs
-- (`Realize` of ta_encode), each event at the end of its element. The marks stand at these positions, each event once, those that
-- it comes after before it (`Marks`). A piece has at most one step for each rule, and a Fall one more.
use Rattle.ta_witness.proofs.Common.{◌≡◌, inl, inr, ℕ, ◌+◌, ◌≤◌, ℤ, List, ◌∷◌, map, length, reverse, true, Some, slice_get, unsigned_abs, arith, sym, ap, ◌∙◌}
use Rattle.ta_witness.proofs.Common.{subst, slice_index, length-reverse, slice_get_within, get_or_from_slice_get, bit_set, each_from, get_map, some_at}
use Rattle.ta_witness.proofs.Common.{count_most, number_here, Automaton, Pattern, File, has_bit, range_with_len, In, Config, HappensAt, InScope, pattern_within}
use Rattle.ta_witness.proofs.Common.{after_earlier, arranged_within, Element, Event, Rise, Fall, has_event, has_rise, has_fallen, legal_weight, Solution}
use Rattle.ta_witness.proofs.Common.{Meaning, Parameter, Start, meanings, SolvedWord, position_in, steps_of, Run, unit_steps, ShowsPattern, Piece, OncePerRule}
use Rattle.ta_witness.proofs.Common.{HasFewSteps, PiecesHappen, pieces_lines, steps_count, are_short, show, unknown_value, IsSolution, PiecesOf, EndsPiece}
use Rattle.ta_witness.proofs.Common.{WitnessOf, WitnessesShow, solution_value}
use Rattle.ta_encode.proofs.Theorems.{these_run}
use Rattle.ta_witness.proofs.Backward.{pieces_back, pieces_fire, piece_rules, values_of, are_counts}
use Rattle.ta_witness.proofs.Marks.{all_steps, position_at, marks_in_order}
use Rattle.ta_witness.proofs.Starts.{parameters_are, counts_are}
use Rattle.std.proofs.lemmas.Option.{same_Some}
use Rattle.ta_base.proofs.Naturals.{product_most}
use Rattle.ta_automaton.specs.Runs as runs

-- a run of pieces whose events and steps are those of a solution
pub record Parts (a : Automaton) (p : Pattern) (start : ℕ) (word : List Element) (vs : List ℕ) (run : Run) : Type 0 where
  pub pieces : List Piece
  pub are : PiecesOf a (values_of a p start (reverse word) vs) word pieces
  pub parameters : run.parameters ≡ map (λ i. values_of a p start (reverse word) vs (Parameter i)) (range_with_len 0 (length a.parameters))
  pub counts : run.counts ≡ map (λ l. values_of a p start (reverse word) vs (Start l)) a.initial
  pub lines : run.lines ≡ pieces_lines pieces

-- the only events that a piece marks are those of its element
marked_event : (value : Meaning → ℤ) (k : ℕ) (element : Element) (piece : Piece) (e : ℕ) → EndsPiece value k element piece → In e piece.marks
    → element ≡ Event e
marked_event value k (Event g) piece e ends i = elim (subst (In e) ends.1 i) [ inl q ↦ ap Event (sym q) | inr j ↦ absurd j ]
marked_event value k (Rise g) piece e ends i = absurd (subst (In e) ends.1 i)
marked_event value k (Fall mask) piece e ends i = absurd (subst (In e) ends.1 i)

shows_parts : (file : File) (n : ℕ) (p : Pattern) → slice_get file.patterns n ≡ Some p → InScope file.automaton
    → (start : ℕ) (word : List Element) (vs : List ℕ) → SolvedWord file.automaton p start word vs → (run : Run) → Parts file.automaton p start word vs run
    → ShowsPattern file.automaton p run
shows_parts file n p at scope start word vs solved run h =
    let a = file.automaton in
    let past = reverse word in
    let value = values_of a p start past vs in
    let back = pieces_back a value word h.pieces h.are in
    let firings = map piece_rules (reverse h.pieces) in
    let r = these_run file n p at start word vs solved firings (pieces_fire a scope p start past vs (reverse h.pieces) back) in
    let o = r.occurs in
    let count = o.run.initial.admissible.count in
    let earlier = after_earlier (length a.parameters + length a.shared + length a.locations) (length a.locations) p (pattern_within file n p at) in
    let steps : unit_steps run.lines ≡ steps_of firings = ap unit_steps h.lines ∙ sym (all_steps h.pieces) in
    let empty : (l : ℕ) → has_bit p.empty l ≡ true → slice_index r.first.counters l ≡ 0 = (λ l b. o.kept_empty l (bit_set p.empty l b) 0 r.first (omega arith))
    in
    let happen : PiecesHappen a p run h.pieces = record {
      lines = h.lines;
      first = r.first;
      later = o.later;
      begins = record {
        parameters = sym (ap (λ (zs : List ℤ). map unsigned_abs zs) h.parameters ∙ parameters_are a p start past vs r.first count r.begins);
        counts = λ j l there. counts_are a p start past vs r.first count r.begins empty j l there
            ∙ ap (λ (cs : List ℤ). slice_index (map unsigned_abs cs) j) (sym h.counts);
      };
      follows = subst (λ (rules : List ℕ). runs.Run a r.first rules o.later) (sym steps) o.run;
      start = o.start;
      kept_empty = λ k c there l bit. subst (λ (d : Config). slice_index d.counters l ≡ 0) (get_or_from_slice_get (r.first ∷ o.later) k c c there)
          (o.kept_empty l bit k c (slice_get_within (r.first ∷ o.later) k c there));
      happens = λ k e piece event there i named.
          let within = slice_get_within h.pieces k piece there in
          let x = some_at word k (let c = h.are.count in omega arith) in
          let is = marked_event value k x.0 piece e (h.are.each k x.0 piece x.1 there).ends i in
          let here = position_at a p start word h.pieces k e h.are.count solved.legal (x.1 ∙ ap Some is) in
          let b = slice_get_within p.events e event named in
          let place : slice_get o.positions e ≡ Some (position_in past firings e) = ap (λ (ps : List ℕ). slice_get ps e) r.there
          ∙ get_map (position_in past firings) (range_with_len 0 (length p.events)) e e (number_here e (length p.events) b) in
          subst (HappensAt r.first o.later event) here (o.happens e event (position_in past firings e) named place);
    } in
    show a p run h.pieces happen (marks_in_order a p start value earlier past h.pieces solved.legal solved.complete back)

short_parts : (file : File) (n : ℕ) (p : Pattern) → InScope file.automaton → (start : ℕ) (word : List Element) (vs : List ℕ)
    → SolvedWord file.automaton p start word vs → (run : Run) → Parts file.automaton p start word vs run → HasFewSteps file.automaton p run.lines
short_parts file n p scope start word vs solved run h =
    let a = file.automaton in
    let past = reverse word in
    let once = each_from (OncePerRule a) h.pieces (λ k piece at.
    let within = slice_get_within h.pieces k piece at in
    let x = some_at word k (let c = h.are.count in omega arith) in
    let w = arranged_within a scope _ (are_counts a p start past vs k) piece.steps (h.are.each k x.0 piece x.1 at).steps in
    record { exist = w.exist; once = w.once }) in
    let short = are_short a h.pieces once in
    let weight = legal_weight a p start past solved.legal in
    let few : length h.pieces ≤ length a.rise + length a.fall + length p.events = omega (
      arith,
      h.are.count,
      length-reverse word,
      weight,
      count_most (has_event past) (length p.events),
      count_most (has_rise past) (length a.rise),
      count_most
          (has_fallen start past) (length a.fall),
    ) in
    let lines = ap steps_count h.lines in
    product_most (length h.pieces) (length a.rise + length a.fall + length p.events) (length a.rules + 1) (steps_count run.lines) few
    (omega (arith, lines, short))

-- the parts of a solution's run
pub parts_of : (file : File) (solution : Solution) (s : IsSolution file solution) (run : Run) (w : WitnessOf file solution run)
    → Parts file.automaton s.pattern solution.start_mask solution.word s.values run
parts_of file solution s run w =
    let a = file.automaton in
    let same : w.pattern ≡ s.pattern = same_Some w.pattern s.pattern (sym w.named ∙ s.named) in
    let values : Pattern → List ℤ → Meaning → ℤ = λ p vs m. unknown_value (meanings a p solution.start_mask (reverse solution.word)) vs m in
    let one : solution_value a w.pattern solution ≡ values s.pattern solution.values = ap (λ (p : Pattern). values p solution.values) same in
    let two : values s.pattern solution.values ≡ values_of a s.pattern solution.start_mask (reverse solution.word) s.values = ap
    (λ (vs : List ℤ). values s.pattern vs) s.are in
    let both = one ∙ two in
    record {
      pieces = w.pieces;
      are = subst (λ (v : Meaning → ℤ). PiecesOf a v solution.word w.pieces) both w.are;
      parameters = w.parameters ∙ ap (λ (v : Meaning → ℤ). map (λ i. v (Parameter i)) (range_with_len 0 (length a.parameters))) both;
      counts = w.counts ∙ ap (λ (v : Meaning → ℤ). map (λ l. v (Start l)) a.initial) both;
      lines = w.lines;
    }

pub witnesses_show : WitnessesShow
witnesses_show file scope solution s run w =
    let h = parts_of file solution s run w in
    let named : slice_get file.patterns run.pattern ≡ Some s.pattern = ap (slice_get file.patterns) w.same_pattern ∙ s.named in (
      record {
        pattern = s.pattern;
        named = named;
        shows = shows_parts file solution.pattern s.pattern s.named scope solution.start_mask solution.word s.values s.solved run h;
      },
      (λ p at. subst (λ (q : Pattern). HasFewSteps file.automaton q run.lines) (same_Some s.pattern p (sym named ∙ at))
          (short_parts file solution.pattern s.pattern scope solution.start_mask solution.word s.values s.solved run h)),
    )
