-- the run of a whole node shows the pattern
--
-- The stops of the node are the positions of a picture, and sorted they are a chain (`Pictures` of ta_moments). The pieces of
-- the run lead from each stop to the next, so each mark stands where the firings have the counts of its event, and there the
-- event's condition holds. Events with the same counts are marked by number, and an event comes after others of lower numbers
-- alone: so marks keep the order of the pattern.
use Rattle.ta_witness.proofs.Common.{At, value_at, moving_rules, Point, event_vector, end_vector, Asking, Node, known_at, slice_index, true, unsigned_abs}
use Rattle.ta_witness.proofs.Common.{InScope, Parameter, Start, spoken, WholeNode, Stands, Chain, Counts, Rising, firings_in, value_after, counts_of}
use Rattle.ta_witness.proofs.Common.{comparisons_same, event_moment, all_positions, Emptied, no_firings, sum_grows, read_of, whole_settled, show, MarksInOrder}
use Rattle.ta_witness.proofs.Common.{Piece, PiecesHappen, pieces_lines, pieces_marks, steps_until, ShowsPattern, unit_steps, Run, ComeAfterEarlier, PiecesTo}
use Rattle.ta_witness.proofs.Common.{no_counts, node_stops, MomentRunOf, WholeOf, start_value}
use Rattle.ta_moments.proofs.Common.{◌≤◌, cases_lt, Moment, inl, Config, File, ◌≡◌, inr, ℕ, ◌+◌, ◌<◌, ℤ, List, [], ◌++◌, map, length, slice_get, arith, sym, ap}
use Rattle.ta_moments.proofs.Common.{◌∙◌, refl, subst, same_Some, slice_get_within, bit_true, has_bit, range_with_len, In, in_at, times_in, times-in, Automaton}
use Rattle.ta_moments.proofs.Common.{Pattern, after_earlier, pattern_within}
use Rattle.ta_moments.proofs.Common.{rows_at_start}
use Rattle.ta_base.proofs.Times.{times-numbers}
use Rattle.ta_encode.proofs.Appending.{trail_begun}
unfoldable use Rattle.ta_encode.specs.Unknowns.{meanings}
use Rattle.ta_moments.proofs.Nodes.{PictureOf, picture_of}
use Rattle.ta_moments.proofs.Pictures.{links}
use Rattle.ta_moments.proofs.Reading.{all_met}
use Rattle.ta_witness.proofs.Starts.{counts_are, parameters_are}
use Rattle.ta_witness.specs.Stops.{sorted_stops}
use Rattle.ta_witness.specs.MomentLaws.{MomentRunsShow}
use Rattle.ta_witness.proofs.Walking.{last_counts, Walks, marks_are, stop_counts, stop_marks, stop_of, walk}
use Rattle.ta_witness.proofs.Sorting.{sorted_has, sorted_only, sorted_rising, sorted_times}
use Rattle.ta_witness.proofs.Marking.{marked_before, sorted_turn}
use Rattle.ta_witness.proofs.Positions.{StopsOf, counts_in, in_counts, stops_are}
use Rattle.ta_automaton.specs.Runs as runs

-- what a whole node says: a picture, and its stops
pub record Seen (a : Automaton) (p : Pattern) (asking : Asking) (node : Node) (vs : List ℕ) : Type 0 where
  pub picture : PictureOf a p vs (known_at a p asking node).moments (end_vector a p node.candidate) (λ e. Point (event_vector a p e))
  pub stops : StopsOf a p vs (known_at a p asking node).moments (node_stops a p asking node vs)
  pub many : length p.events ≤ length (known_at a p asking node).moments

enough_moments : (p : Pattern) (ms : List Moment) → ((e : ℕ) → e < length p.events → e < length ms) → length p.events ≤ length ms
enough_moments p ms h = elim (cases_lt (length ms) (length p.events)) [ inl less ↦ absurd (let no = h (length ms) less in omega (arith, no)) | inr most ↦ most ]

pub seen : (a : Automaton) (p : Pattern) → ComeAfterEarlier p → (asking : Asking) (node : Node) (vs : List ℕ) → WholeNode a p asking node vs
    → Seen a p asking node vs
seen a p earlier asking node vs w =
    let r = read_of a p earlier asking node vs w in
    let s = spoken a p asking.silent node.candidate w.candidate_is node.past in
    let ms = (known_at a p asking node).moments in
    record {
      picture = picture_of a p vs (omega (arith, s.least, w.count)) (all_met vs (rows_at_start a p) r.first.start) ms (end_vector a p node.candidate)
          (λ e. Point (event_vector a p e)) (whole_settled a p earlier asking node vs w);
      many = enough_moments p ms (λ e less. slice_get_within ms e (Point (event_vector a p e))
          (r.begins e (Point (event_vector a p e)) (event_moment a p node.candidate e less)));
      stops = stops_are a p vs ms (λ e less. r.begins e (Point (event_vector a p e)) (event_moment a p node.candidate e less));
    }

-- sorted, they are a chain
pub stops_chain : (a : Automaton) (p : Pattern) (asking : Asking) (node : Node) (vs : List ℕ) (h : Seen a p asking node vs)
    → Chain a p h.picture.begins.first no_counts (stop_counts (sorted_stops (moving_rules a p) (node_stops a p asking node vs)))
stops_chain a p asking node vs h =
    let rs = moving_rules a p in
    let ms = (known_at a p asking node).moments in
    let stops = node_stops a p asking node vs in
    let sorted = sorted_stops rs stops in
    let first = h.picture.begins.first in
    links a p first (all_positions vs ms) (counts_of vs (end_vector a p node.candidate)) h.picture.picture no_counts (inr (λ r. refl)) (stop_counts sorted)
    (subst (λ (n : ℕ). Rising rs n (stop_counts sorted)) (sym (no_firings rs)) (sorted_rising rs stops))
    (λ u i. let w = counts_in sorted u i in subst (λ (x : Counts). In x (all_positions vs ms)) (sym w.2) (h.stops.only w.0 (sorted_only rs stops w.0 w.1)))
    (λ u i. let w = h.stops.has u i in inr (subst (λ (x : Counts). In x (stop_counts sorted)) (sym w.2) (in_counts sorted w.0 (sorted_has rs stops w.0 w.1))))
    (λ u i r k. omega arith)

-- the run, in its pieces
pub record RunIn (a : Automaton) (p : Pattern) (asking : Asking) (node : Node) (vs : List ℕ) (run : Run) : Type 0 where
  pub parameters : run.parameters ≡ map (λ i. start_value a p vs (Parameter i)) (range_with_len 0 (length a.parameters))
  pub counts : run.counts ≡ map (λ l. start_value a p vs (Start l)) a.initial
  pub pieces : List Piece
  pub are : PiecesTo a p no_counts (sorted_stops (moving_rules a p) (node_stops a p asking node vs)) pieces
  pub lines : run.lines ≡ pieces_lines pieces

marks_ordered : (a : Automaton) (p : Pattern) → ComeAfterEarlier p
    → (asking : Asking) (node : Node) (vs : List ℕ) (h : Seen a p asking node vs) (pieces : List Piece)
    → PiecesTo a p no_counts (sorted_stops (moving_rules a p) (node_stops a p asking node vs)) pieces → MarksInOrder p (pieces_marks pieces)
marks_ordered a p earlier asking node vs h pieces are =
    let rs = moving_rules a p in
    let stops = node_stops a p asking node vs in
    let marks = stop_marks (sorted_stops rs stops) in
    let sum : ℕ → ℕ = λ e. firings_in rs (counts_of vs (event_vector a p e)) in
    let same : pieces_marks pieces ≡ marks = marks_are a p no_counts (sorted_stops rs stops) pieces are in
    let once : (e : ℕ) → e < length p.events → times_in e marks ≡ 1 =
    (λ e less. sorted_times rs stops e ∙ ap (times_in e) h.stops.marks ∙ times-numbers e 0 (length p.events) (omega arith) (omega arith)) in
    let turn = sorted_turn rs sum stops (λ s i. h.stops.own s i rs) h.stops.by_number in
    let ordered : MarksInOrder p marks = record {
      once = once;
      in_order = λ e f i event named set at.
          let b = slice_get_within p.events e event named in
          let less = earlier e event named f set in
          let le = sum_grows rs (counts_of vs (event_vector a p f)) (counts_of vs (event_vector a p e))
          (h.picture.happen.in_order e f event named (omega arith) set) in
          marked_before sum marks turn e f i at less le (times-in f marks (let one = once f (omega arith) in omega arith));
    } in
    subst (MarksInOrder p) (sym same) ordered

-- where it leads: its pieces happen, and it ends at the last stop
pub record Walked (a : Automaton) (p : Pattern) (asking : Asking) (node : Node) (vs : List ℕ) (h : Seen a p asking node vs) (run : Run) (pieces : List Piece) :
    Type 0 where
  pub happen : PiecesHappen a p run pieces
  pub end : Config
  pub reached : At happen.first happen.later (length (unit_steps run.lines)) end
  pub stands : Stands a p h.picture.begins.first (last_counts no_counts (sorted_stops (moving_rules a p) (node_stops a p asking node vs))) end

pub walked : (a : Automaton) (p : Pattern) → InScope a
    → (asking : Asking) (node : Node) (vs : List ℕ) (h : Seen a p asking node vs) (run : Run) (r : RunIn a p asking node vs run)
    → Walked a p asking node vs h run r.pieces
unfolding meanings
walked a p scope asking node vs h run r =
    let b = h.picture.begins in
    let first = b.first in
    let rs = moving_rules a p in
    let stops = node_stops a p asking node vs in
    let sorted = sorted_stops rs stops in
    let begun = trail_begun a (Emptied p) first b.stands.empty in
    let w : Walks a p first no_counts first begun.trail sorted r.pieces = walk a p scope first no_counts sorted r.pieces (stops_chain a p asking node vs h)
    r.are first begun.trail b.stands in
    let count = b.initial.admissible.count in
    let empty : (l : ℕ) → has_bit p.empty l ≡ true → slice_index first.counters l ≡ 0 = b.stands.empty in
    let steps : w.trail.rules ≡ unit_steps run.lines = w.is ∙ ap (λ (xs : List ℕ). xs ++ unit_steps (pieces_lines r.pieces)) begun.is
    ∙ ap unit_steps (sym r.lines) in
    let none : length begun.trail.rules ≡ 0 = ap (λ (xs : List ℕ). length xs) begun.is in
    let happen : PiecesHappen a p run r.pieces = record {
      lines = r.lines;
      first = first;
      later = w.trail.later;
      begins = record {
        parameters = sym (ap (λ (zs : List ℤ). map unsigned_abs zs) r.parameters ∙ parameters_are a p 0 [] vs first count b.begins);
        counts = λ j l there. counts_are a p 0 [] vs first count b.begins empty j l there
            ∙ ap (λ (cs : List ℤ). slice_index (map unsigned_abs cs) j) (sym r.counts);
      };
      follows = record { initial = b.initial; steps = subst (λ (rules : List ℕ). runs.Steps a first rules w.trail.later) steps w.trail.run };
      start = b.start;
      kept_empty = λ k c there l bit. w.trail.all_good k c there l (bit_true p.empty l bit);
      happens = λ k e piece event there i named.
          let s = stop_of a p no_counts sorted r.pieces r.are k piece there in
          let mine = sorted_only rs stops s.0 (in_at sorted k s.0 s.1) in
          let counts = h.stops.event_there s.0 mine e (subst (In e) s.2 i) in
          let x = w.there k s.0 s.1 in
          let at : At first w.trail.later (steps_until r.pieces k) x.0 = subst (λ (j : ℕ). At first w.trail.later j x.0)
          (let z : length begun.trail.rules + steps_until r.pieces k ≡ steps_until r.pieces k = omega (arith, none) in z) x.1 in
          let values : (place : ℕ) → value_after a p first (counts_of vs (event_vector a p e)) place ≡ value_at x.0 place =
          (λ place. ap (λ (u : Counts). value_after a p first u place) (sym counts) ∙ sym (x.2.values place)) in (
            x.0,
            at,
            comparisons_same (value_after a p first (counts_of vs (event_vector a p e))) (value_at x.0) values event.condition.comparisons
                (h.picture.happen.holds e event named),
          );
    } in
    record {
      happen = happen;
      end = w.end;
      reached = subst (λ (rules : List ℕ). At first w.trail.later (length rules) w.end) steps w.trail.last;
      stands = w.stands;
    }

pub shows_in : (a : Automaton) (p : Pattern) → ComeAfterEarlier p → InScope a → (asking : Asking) (node : Node) (vs : List ℕ) → WholeNode a p asking node vs
    → (run : Run) → RunIn a p asking node vs run → ShowsPattern a p run
shows_in a p earlier scope asking node vs whole run r =
    let h = seen a p earlier asking node vs whole in
    show a p run r.pieces (walked a p scope asking node vs h run r).happen (marks_ordered a p earlier asking node vs h r.pieces r.are)

-- the run of the pattern that a whole node is of
pub run_in : (file : File) (number : ℕ) (asking : Asking) (node : Node) (vs : List ℕ) (whole : WholeOf file number asking node vs) (run : Run)
    → MomentRunOf file number asking node vs run → RunIn file.automaton whole.pattern asking node vs run
run_in file number asking node vs whole run r =
    let own : RunIn file.automaton r.pattern asking node vs run = record
    { parameters = r.parameters; counts = r.counts; pieces = r.pieces; are = r.are; lines = r.lines } in
    subst (λ (q : Pattern). RunIn file.automaton q asking node vs run) (same_Some r.pattern whole.pattern (sym r.named ∙ whole.named)) own

pub runs_show : MomentRunsShow
runs_show file scope number asking node vs whole run r =
    let a = file.automaton in
    let p = whole.pattern in
    let earlier = after_earlier (length a.parameters + length a.shared + length a.locations) (length a.locations) p (pattern_within file number p whole.named)
    in
    record {
      pattern = p;
      named = ap (slice_get file.patterns) r.same_pattern ∙ whole.named;
      shows = shows_in a p (λ e event here f set. earlier e event here f set) scope asking node vs whole.whole run
          (run_in file number asking node vs whole run r);
    }
