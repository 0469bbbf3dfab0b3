-- how many accelerated steps the run of a whole node has
use Rattle.ta_witness.proofs.Common.{◌-◌, Asking, Node, Point, Pair, event_vector, moving_rules, known_at, InScope, Chain, Counts, NoneFewer, Rising}
use Rattle.ta_witness.proofs.Common.{firings_in, counts_of, sum_grows, Piece, piece_lines, pieces_lines, steps_count, StepsWithin, arranged_within, PiecesTo}
use Rattle.ta_witness.proofs.Common.{event_stop, listed, stops_of, no_counts, node_stops, end_vector, WholeNode, whole_settled, no_firings, HasFewSteps, Run}
use Rattle.ta_witness.proofs.Common.{RunLine, Step, Mark, ComeAfterEarlier}
use Rattle.ta_moments.proofs.Common.{cond, eqb, ◌≡◌, inl, inr, ℕ, suc, ◌+◌, ◌*◌, ◌≤◌, ℤ, List, [], ◌∷◌, ◌++◌, map, drop, length, slice_get, Some, None}
use Rattle.ta_moments.proofs.Common.{arith, ints, sym, ap, ◌∙◌, refl, subst, same_Some, length-map, length-range_with_len, cases_lt, eqb_tells, range_with_len}
use Rattle.ta_moments.proofs.Common.{In, times-in, Automaton, Pattern, File, Moment, early, late, is_moving}
unfoldable use Rattle.ta_base.specs.Sums.{times_in}
use Rattle.ta_base.proofs.Lists.{filter_shorter}
use Rattle.ta_moments.specs.Chains.{Cost, most_steps}
use Rattle.ta_moments.proofs.Pictures.{rising_in}
use Rattle.ta_moments.proofs.Segments.{firings_between}
use Rattle.ta_moments.proofs.Settling.{fewer}
use Rattle.ta_replay.specs.Pieces.{rule_of}
unfoldable use Rattle.ta_witness.specs.Stops.{sorted_stops, with_stop}
use Rattle.ta_witness.specs.Stops.{Stop}
use Rattle.ta_witness.proofs.Listing.{are_listed, listed_moves, one_in}
use Rattle.ta_witness.proofs.Sorting.{go_or_stay, sorted_has, sorted_rising}
use Rattle.ta_witness.proofs.Walking.{stop_counts}
use Rattle.ta_witness.proofs.Positions.{counts_in, in_counts, in_dropped}
use Rattle.ta_witness.proofs.Showing.{RunIn, Seen, run_in, seen, stops_chain}
use Rattle.ta_witness.specs.MomentLaws.{MomentRunsAreShort}
use Rattle.ta_moments.proofs.Common.{after_earlier, pattern_within, Config}
use Rattle.ta_moments.specs.Nodes.{SettledMoments}
use Rattle.ta_moments.proofs.Short.{few_moments}
use Rattle.std.proofs.Math.Nat.{mul-le-mul_right}
use Rattle.std.proofs.lemmas.List.{length-drop}

-- ---- the steps between two stops
firings_add : (rs : List ℕ) (m n : Counts) → firings_in rs (λ r. m r + n r) ≡ firings_in rs m + firings_in rs n
firings_add [] m n = refl
firings_add (r ∷ rs) m n = omega (arith, firings_add rs m n)

firings_most : (rs : List ℕ) (m : Counts) → ((r : ℕ) → m r ≤ 1) → firings_in rs m ≤ length rs
firings_most [] m h = omega arith
firings_most (r ∷ rs) m h = omega (arith, h r, firings_most rs m h)

times_all : (rs xs : List ℕ) → ((x : ℕ) → In x xs → In x rs) → length xs ≤ firings_in rs (λ r. times_in r xs)
unfolding times_in
times_all rs [] h = omega arith
times_all rs (x ∷ xs) h =
    let here : Counts = λ r. cond (eqb x r) 1 0 in
    let own : here x ≡ 1 = elim (eqb_tells x x) [ inl e ↦ ap (λ b. cond b 1 0) e.0 | inr ne ↦ absurd (ne.1 refl) ] in
    omega (arith, firings_add rs here (λ r. times_in r xs), times_all rs xs (λ y i. h y (inr i)), one_in rs here x (h x (inl refl)), own)

times_tail : (x q : ℕ) (xs : List ℕ) → times_in q (x ∷ xs) ≤ 1 → times_in q xs ≤ 1
unfolding times_in
times_tail x q xs h = omega (arith, h)

each_step : (a : Automaton) (p : Pattern) (n : Counts) (steps : List (ℕ × ℤ)) → StepsWithin a (listed a p n) steps → (r : ℕ) → In r (map rule_of steps)
    → In r (moving_rules a p) × (1 ≤ n r)
each_step a p n [] w r i = absurd i
each_step a p n (s ∷ steps) w r (inl e) =
    let b = w.exist.0 in
    let low = w.factors.0.0 in
    let high = w.factors.0.1 in
    let m = listed_moves a p n s.0 b (omega (arith, ints, low, high)) in
    (subst (λ (q : ℕ). In q (moving_rules a p)) (sym e) m.0, subst (λ (q : ℕ). 1 ≤ n q) (sym e) m.1)
each_step a p n (s ∷ steps) w r (inr i) = each_step a p n steps
    (record { exist = w.exist.1; once = λ q. times_tail s.0 q (map rule_of steps) (w.once q); factors = w.factors.1 }) r i

few_steps : (a : Automaton) (p : Pattern) (n : Counts) (steps : List (ℕ × ℤ)) → StepsWithin a (listed a p n) steps
    → (length steps ≤ firings_in (moving_rules a p) n) × (length steps ≤ length (moving_rules a p))
few_steps a p n steps w =
    let rs = moving_rules a p in
    let xs = map rule_of steps in
    let m : Counts = λ r. times_in r xs in
    let all = times_all rs xs (λ r i. (each_step a p n steps w r i).0) in
    let many : length xs ≡ length steps = length-map steps rule_of in
    let below : NoneFewer rs m n = (λ r i. elim (cases_lt 0 (times_in r xs)) [
      | inl some ↦ (let least = (each_step a p n steps w r (times-in r xs (omega arith))).1 in omega (arith, least, w.once r))
      | inr none ↦ omega (arith, none)
    ]) in
    (omega (arith, all, many, sum_grows rs m n below), omega (arith, all, many, firings_most rs m w.once))

count_steps : (steps : List (ℕ × ℤ)) (marks : List ℕ) → steps_count (piece_lines (record { steps = steps; last = None; marks = marks })) ≡ length steps
count_steps [] [] = refl
count_steps [] (e ∷ marks) = count_steps [] marks
count_steps (s ∷ steps) marks = omega (arith, count_steps steps marks)

piece_count : (q : Piece) → q.last ≡ None → steps_count (piece_lines q) ≡ length q.steps
piece_count q none = ap (λ l. steps_count (piece_lines (record { steps = q.steps; last = l; marks = q.marks }))) none ∙ count_steps q.steps q.marks

count_append : (xs ys : List RunLine) → steps_count (xs ++ ys) ≡ steps_count xs + steps_count ys
count_append [] ys = omega arith
count_append (Step r factor ∷ xs) ys = omega (arith, count_append xs ys)
count_append (Mark e ∷ xs) ys = count_append xs ys

pieces_few : (a : Automaton) (p : Pattern) → InScope a → (first : Config) (v : Counts) (ss : List Stop) (pieces : List Piece)
    → Chain a p first v (stop_counts ss) → PiecesTo a p v ss pieces
    → steps_count (pieces_lines pieces) ≤ most_steps (moving_rules a p) (firings_in (moving_rules a p) v) (stop_counts ss)
pieces_few a p scope first v [] [] chain are = omega arith
pieces_few a p scope first v [] (q ∷ pieces) chain are = absurd are
pieces_few a p scope first v (s ∷ ss) [] chain are = absurd are
pieces_few a p scope first v (s ∷ ss) (q ∷ pieces) chain are =
    let rs = moving_rules a p in
    let n : Counts = λ r. s.counts r - v r in
    let few = few_steps a p n q.steps (arranged_within a scope (listed a p n) (are_listed a p n) q.steps are.0.steps) in
    let between = firings_between rs v s.counts chain.0.grows in
    let rest = pieces_few a p scope first s.counts ss pieces chain.1 are.1 in
    let own = piece_count q are.0.none_last in
    let both = count_append (piece_lines q) (pieces_lines pieces) in
    let one = few.0 in
    let two = few.1 in
    omega (arith, one, two, between, rest, own, both)

-- ---- what sorted stops cost
record Few (rs : List ℕ) (low : ℕ) (s : Stop) (ts : List Stop) : Type 0 where
  few : most_steps rs low (stop_counts (with_stop rs s ts)) ≤ most_steps rs low (stop_counts ts) + length rs
  near : (u : Counts) (d : ℕ) → In u (stop_counts ts) → firings_in rs u ≡ firings_in rs s.counts + d
      → most_steps rs low (stop_counts (with_stop rs s ts)) ≤ most_steps rs low (stop_counts ts) + d

with_few : (rs : List ℕ) (low : ℕ) (s : Stop) (ts : List Stop) → Rising rs low (stop_counts ts) → low ≤ firings_in rs s.counts → Few rs low s ts
unfolding with_stop
with_few rs low s [] h le = record { few = omega arith; near = λ u d i e. absurd i }
with_few rs low s (t ∷ ts) h le = elim (go_or_stay rs s t ts) [
  | inl w ↦ (
      let less = w.0 in
      let r = with_few rs (firings_in rs t.counts) s ts h.1 (omega (arith, less)) in
      let is = ap (λ (xs : List Stop). most_steps rs low (stop_counts xs)) w.1 in
      record {
        few = (let more = r.few in omega (arith, is, more));
        near = λ u d i e. elim i [
          | inl same ↦ absurd (let f : firings_in rs u ≡ firings_in rs t.counts = ap (firings_in rs) same in omega (arith, f, e, less))
          | inr j ↦ (let more = r.near u d j e in omega (arith, is, more))
        ];
      })
  | inr w ↦ (
      let more = w.0 in
      let is = ap (λ (xs : List Stop). most_steps rs low (stop_counts xs)) w.1 in
      record {
        few = omega (arith, is, more, le);
        near = λ u d i e. (let up = rising_in rs (firings_in rs t.counts) (stop_counts (t ∷ ts)) (omega arith, h.1) u i in omega (arith, is, more, le, up, e));
      })
]

sorted_cost : (rs : List ℕ) (ss : List Stop) (n : ℕ) → Cost rs (stop_counts ss) n → most_steps rs 0 (stop_counts (sorted_stops rs ss)) ≤ n
unfolding sorted_stops
sorted_cost rs [] n c = omega arith
sorted_cost rs (s ∷ ss) n c =
    let sorted = sorted_stops rs ss in
    let rest : most_steps rs 0 (stop_counts sorted) ≤ c.0 = sorted_cost rs ss c.0 c.1 in
    let w = with_few rs 0 s sorted (sorted_rising rs ss) (omega arith) in
    elim c.2 [
      | inl far ↦ (let more = w.few in omega (arith, more, rest, far))
      | inr close ↦ (
          let at = counts_in ss close.1 close.2 in
          let there = subst (λ (x : Counts). In x (stop_counts sorted)) (sym at.2) (in_counts sorted at.0 (sorted_has rs ss at.0 at.1)) in
          let more = w.near close.1 close.0 there close.3 in
          let end : c.0 + close.0 ≤ n = close.4 in
          omega (arith, more, rest, end))
    ]

-- ---- what the stops of a node cost
rules_few : (a : Automaton) (p : Pattern) → length (moving_rules a p) ≤ length a.rules
rules_few a p = omega (
  arith,
  filter_shorter (λ r. is_moving p (slice_get a.rules r)) (range_with_len 0 (length a.rules)),
  length-range_with_len 0
      (length a.rules),
)

uses_cost : (a : Automaton) (p : Pattern) (vs : List ℕ) (ms : List Moment)
    → ((m : Moment) → In m ms → firings_in (moving_rules a p) (counts_of vs (late m)) ≤ firings_in (moving_rules a p) (counts_of vs (early m)) + 1)
    → ((m : Moment) → In m ms → NoneFewer (moving_rules a p) (counts_of vs (early m)) (counts_of vs (late m)))
    → Cost (moving_rules a p) (stop_counts (stops_of vs ms)) (length ms * (length a.rules + 1))
uses_cost a p vs [] short grows = tt
uses_cost a p vs (Point v ∷ ms) short grows =
    let before = length ms * (length a.rules + 1) in
    let next : suc (length ms) * (length a.rules + 1) ≡ before + (length a.rules + 1) = omega arith in
    (before, uses_cost a p vs ms (λ n i. short n (inr i)) (λ n i. grows n (inr i)), inl (omega (arith, rules_few a p, next)))
uses_cost a p vs (Pair v w ∷ ms) short grows =
    let rs = moving_rules a p in
    let one = firings_in rs (counts_of vs v) in
    let two = firings_in rs (counts_of vs w) in
    let before = length ms * (length a.rules + 1) in
    let more = sum_grows rs (counts_of vs v) (counts_of vs w) (grows (Pair v w) (inl refl)) in
    let next : suc (length ms) * (length a.rules + 1) ≡ before + (length a.rules + 1) = omega arith in
    let least = short (Pair v w) (inl refl) in (
      before + length rs,
      (before, uses_cost a p vs ms (λ n i. short n (inr i)) (λ n i. grows n (inr i)), inl (omega arith)),
      inr (two - one, counts_of vs w, inl refl, omega (arith, more), omega (arith, rules_few a p, next, least)),
    )

events_cost : (a : Automaton) (p : Pattern) (vs es : List ℕ) (rest : List Stop) (m : ℕ) → Cost (moving_rules a p) (stop_counts rest) m
    → Cost (moving_rules a p) (stop_counts (map (event_stop a p vs) es ++ rest)) (m + length es * (length a.rules + 1))
events_cost a p vs [] rest m c = subst (Cost (moving_rules a p) (stop_counts rest)) (let e : m ≡ m + 0 * (length a.rules + 1) = omega arith in e) c
events_cost a p vs (e ∷ es) rest m c =
    let before = m + length es * (length a.rules + 1) in
    let next : m + suc (length es) * (length a.rules + 1) ≡ before + (length a.rules + 1) = omega arith in
    (before, events_cost a p vs es rest m c, inl (omega (arith, rules_few a p, next)))

pub runs_short : MomentRunsAreShort
runs_short file scope number asking node vs whole once run r p at =
    let a = file.automaton in
    let same : whole.pattern ≡ p = same_Some whole.pattern p (sym whole.named ∙ sym (ap (slice_get file.patterns) r.same_pattern) ∙ at) in
    subst (λ (q : Pattern). HasFewSteps a q run.lines) same
    (short_at a whole.pattern scope asking node vs (seen_at file number whole.pattern whole.named asking node vs whole.whole)
    (settled_at file number whole.pattern whole.named asking node vs whole.whole) (few_moments a whole.pattern asking node whole.whole.answered once) run
    (run_in file number asking node vs whole run r))
  where
    early_of : (file : File) (number : ℕ) (q : Pattern) → slice_get file.patterns number ≡ Some q → ComeAfterEarlier q
    early_of file number q named e event here f b = after_earlier
        (length file.automaton.parameters + length file.automaton.shared + length file.automaton.locations) (length file.automaton.locations) q
        (pattern_within file number q named) e event here f b

    seen_at : (file : File) (number : ℕ) (q : Pattern) → slice_get file.patterns number ≡ Some q → (asking : Asking) (node : Node) (vs : List ℕ)
        → WholeNode file.automaton q asking node vs → Seen file.automaton q asking node vs
    seen_at file number q named asking node vs w = seen file.automaton q (early_of file number q named) asking node vs w

    settled_at : (file : File) (number : ℕ) (q : Pattern) → slice_get file.patterns number ≡ Some q → (asking : Asking) (node : Node) (vs : List ℕ)
        → WholeNode file.automaton q asking node vs → SettledMoments file.automaton q vs (known_at file.automaton q asking node).moments
        (end_vector file.automaton q node.candidate) (λ e. Point (event_vector file.automaton q e))
    settled_at file number q named asking node vs w = whole_settled file.automaton q (early_of file number q named) asking node vs w

    short_at : (a : Automaton) (q : Pattern) → InScope a → (asking : Asking) (node : Node) (vs : List ℕ) (h : Seen a q asking node vs)
        → SettledMoments a q vs (known_at a q asking node).moments (end_vector a q node.candidate) (λ e. Point (event_vector a q e))
        → length (known_at a q asking node).moments ≤ length q.events + (length a.rise + length a.fall) → (run : Run) → RunIn a q asking node vs run
        → HasFewSteps a q run.lines
    short_at a q scope asking node vs h s few run r =
        let rs = moving_rules a q in
        let ms = (known_at a q asking node).moments in
        let n = length q.events in
        let uses = drop n ms in
        let stops = node_stops a q asking node vs in
        let cost = events_cost a q vs (range_with_len 0 n) (stops_of vs uses) (length uses * (length a.rules + 1))
        (uses_cost a q vs uses (λ m i. s.short m (in_dropped n ms m i))
        (λ m i. let k = s.each m (in_dropped n ms m i) in fewer a q vs (early m) (late m) k.early_natural k.late_natural k.in_order)) in
        let most = sorted_cost rs stops (length uses * (length a.rules + 1) + length (range_with_len 0 n) * (length a.rules + 1)) cost in
        let steps = pieces_few a q scope h.picture.begins.first no_counts (sorted_stops rs stops) r.pieces (stops_chain a q asking node vs h) r.are in
        let none : firings_in rs no_counts ≡ 0 = no_firings rs in
        let low : most_steps rs (firings_in rs no_counts) (stop_counts (sorted_stops rs stops)) ≡ most_steps rs 0 (stop_counts (sorted_stops rs stops)) = ap
        (λ (x : ℕ). most_steps rs x (stop_counts (sorted_stops rs stops))) none in
        let lines = ap steps_count r.lines in
        let together : length uses * (length a.rules + 1) + length (range_with_len 0 n) * (length a.rules + 1) ≡ (length uses + length (range_with_len 0 n)) *
        (length a.rules + 1) = omega arith in
        let all : length uses + length (range_with_len 0 n) ≤ length a.rise + length a.fall + length q.events = omega
        (arith, length-drop n ms, length-range_with_len 0 n, few, h.many) in
        let bound = mul-le-mul_right (length a.rules + 1) all in
        omega (arith, lines, steps, low, most, together, bound)
