-- what the ends of the search for a sample say
use Rattle.ta_walk.proofs.Common.{◌≡◌, ℕ, zero, suc, ◌+◌, ◌*◌, ◌^◌, ◌<◌, ◌≤◌, ℤ, pos, negsuc, ◌*ℤ◌, ◌<ℤ◌, List, [], ◌∷◌, map, take, length, length-append, refl}
use Rattle.ta_walk.proofs.Common.{sym, ap, ◌∙◌, subst, arith, slice_get, IsSomeAnd, unsigned_abs, ints, length-map, take-map, AllByRecursion, InRange, System}
use Rattle.ta_walk.proofs.Common.{Automaton, SystemAt, HasStart, sample_meanings, sample_rows, sample_search, sampled, Pending, SolvesAt, bounded_rows, Bound}
use Rattle.ta_walk.proofs.Common.{bound_row, condition_rows, opposite, processes_row, rows_count, none_starts, sample_few, samples_start, condition_few}
use Rattle.ta_walk.proofs.Common.{IsJudged, Fraction, SampleEnd, Ending, IsVisitEnding, IsSampleEnd, SampleAt, SampleEndsAreDetermined, SampleFound}
use Rattle.ta_walk.proofs.Common.{SampleRefuted, SamplesAreReal, ScaledSolve, IsScaled, inl, inr, ◌⊎◌, AreNumbers, IsWholeNumber, WholeAt, each_take, Element}
use Rattle.ta_encode.proofs.Moments.{AllHold-append, AllHold-left}
use Rattle.ta_walk.specs.declared.end.SampleEnd.TheVariants.{Sample, Empty, Spent, Overflow}
use Rattle.ta_walk.specs.Ends.Ending.{Whole, Solved, Stopped, Left}
use Rattle.ta_walk.proofs.DeterminedEnds.{endings_once, node_with}
use Rattle.ta_walk.proofs.ProofsMade.{refuted_in_order}
use Rattle.ta_walk.proofs.SplitsFit.{vertex_in_range}
use Rattle.ta_walk.proofs.WordsSolved.{unscaled_solve, whole_solves}

-- the sample system is small: the resilience condition has at most 16 comparisons, of at most two rows each
sample_rows_few : (a : Automaton) → length (sample_rows a) ≤ 34
unfolding sample_rows
sample_rows_few a =
    let ms = sample_meanings a in
    let limit = a.resilience.limit in
    omega (
      arith,
      length-append (condition_rows a ms a.resilience.comparisons) (processes_row a ms ∷ opposite (processes_row a ms) ∷ []),
      condition_few a ms
          a.resilience.comparisons,
    )

pub sample_small : (a : Automaton) (bounds : List Bound) (system : System) → SystemAt (sample_search a) (sampled bounds) system
    → system.unknowns + length system.rows ≤ 40000000 + length bounds
sample_small a bounds system is =
    let unknowns = is.unknowns in
    let few = sample_few a in
    omega (
      arith,
      rows_count (bounded_rows (sample_search a) (sampled bounds)) system.rows is.rows,
      length-append (sample_rows a) (map bound_row bounds),
      length-map bounds bound_row,
      sample_rows_few a,
    )

-- a solution with bounds is one without
without_bounds : (a : Automaton) (w : Pending Element) (vs : List ℕ) → SolvesAt (sample_search a) w vs → SolvesAt (sample_search a) (sampled []) vs
without_bounds a w vs s = record
    { count = s.count; rows_hold = AllHold-append vs (sample_rows a) [] (AllHold-left vs (sample_rows a) (map bound_row w.bounds) s.rows_hold) tt }

-- no whole values are taken in place of a vertex's
sample_scaled : (a : Automaton) → ScaledSolve (sample_search a)
sample_scaled a = unscaled_solve (sample_search a) (λ w vs. refl)

pub found_starts : (a : Automaton) (budget : ℕ) (parameters : List ℤ) → SampleFound a budget parameters → (values : List ℕ) × (parameters ≡ map pos values)
    × HasStart a values
found_starts a budget parameters found =
    let n = length a.parameters in
    let w = found.node.word in
    let at = found.node.holds in
    let solved = whole_solves (sample_search a) (sample_scaled a) w at.values at.whole in
    let start = samples_start a solved.0 (without_bounds a w solved.0 solved.2) in
    (take n solved.0, at.first ∙ ap (take n) solved.1 ∙ take-map pos n solved.0, start)

refuted_starts : (a : Automaton) (budget : ℕ) → SampleRefuted a budget → (values : List ℕ) → ¬ HasStart a values
refuted_starts a budget refuted =
    let s = sample_search a in
    none_starts a (IsJudged s) (λ w ts judged. judged.leaf) refuted.nodes (refuted_in_order s s.roots refuted.nodes refuted.tree.visits)

-- a natural number whose fraction is in range is below 2^127
small : (n : ℕ) (f : Fraction) → IsWholeNumber (pos n) f → InRange f.top → n < 2 ^ 127
small n f is fits = of_bottom f.bottom f.positive is fits
  where
    of_bottom : (b : ℤ) → pos 0 <ℤ b → f.top ≡ (pos n *ℤ b) → InRange f.top → n < 2 ^ 127
    of_bottom (pos zero) positive e h = absurd (omega (arith, ints))
    of_bottom (pos (suc m)) positive e h =
        let product : unsigned_abs (pos n *ℤ pos (suc m)) ≡ n * suc m = refl in
        let least : n ≤ n * suc m = grind arith in
        let same = ap unsigned_abs e in
        omega arith
    of_bottom (negsuc m) positive e h = absurd (omega (arith, ints))

all_small : (values : List Fraction) (ns : List ℕ) → AreNumbers values (map pos ns)
    → ((x : ℕ) → x < length values → IsSomeAnd (slice_get values x) (λ f. InRange f.top)) → AllByRecursion (λ n. n < 2 ^ 127) ns
all_small [] [] are fits = tt
all_small [] (n ∷ ns) are fits = absurd are
all_small (f ∷ fs) [] are fits = tt
all_small (f ∷ fs) (n ∷ ns) are fits = (small n f are.0 (fits 0 (omega arith)), all_small fs ns are.1 (λ x b. fits (suc x) (omega arith)))

-- they are those of the vertex
are_numbers : (a : Automaton) (w : Pending Element) (numbers : List ℤ) (whole : WholeAt (sample_search a) w numbers) → AreNumbers whole.values numbers
are_numbers a w numbers whole = of whole.whole
  where
    of : AreNumbers whole.values numbers ⊎ IsScaled (sample_search a) w whole.values numbers → AreNumbers whole.values numbers
    of (inl are) = are
    of (inr is) = absurd (let none = is.scaled in cc)

-- the values of a sample are below 2^127
pub found_small : (a : Automaton) (budget : ℕ) (parameters : List ℤ) (found : SampleFound a budget parameters)
    → AllByRecursion (λ n. n < 2 ^ 127) (found_starts a budget parameters found).0
unfolding found_starts
found_small a budget parameters found =
    let at = found.node.holds in
    let vertex = at.whole.vertex in
    let solved = whole_solves (sample_search a) (sample_scaled a) found.node.word at.values at.whole in
    let count = vertex.holds.gives.count in
    each_take (λ n. n < 2 ^ 127) (length a.parameters) solved.0
    (all_small at.whole.values solved.0 (subst (AreNumbers at.whole.values) solved.1 (are_numbers a found.node.word at.values at.whole))
    (λ x b. vertex_in_range vertex.system at.whole.values vertex.holds x (omega arith)))

pub samples_real : SamplesAreReal
samples_real = record { found = found_starts; none = refuted_starts }

-- the end of the search
abbrev ending_of : (a : Automaton) (budget : ℕ) (e : SampleEnd) → IsSampleEnd a budget e → Ending Element
ending_of a budget (Sample parameters) h = Solved h.number h.node.word h.node.holds.values
ending_of a budget Empty h = Whole h.nodes h.count
ending_of a budget (Spent count) h = Stopped count
ending_of a budget (Overflow node kind) h = Left node kind

is_ending : (a : Automaton) (budget : ℕ) (e : SampleEnd) (h : IsSampleEnd a budget e) → IsVisitEnding (sample_search a) budget (ending_of a budget e h)
is_ending a budget (Sample parameters) h = node_with (sample_search a) budget h.number (SampleAt a parameters)
    (λ w. (w ≡ h.node.word) × WholeAt (sample_search a) w h.node.holds.values) h.node (refl, h.node.holds.whole)
is_ending a budget Empty h = h.tree
is_ending a budget (Spent count) h = h
is_ending a budget (Overflow node kind) h = h

pub sample_ends_once : SampleEndsAreDetermined
sample_ends_once a budget e f h g = from e f h g
    (endings_once (sample_search a) budget (ending_of a budget e h) (ending_of a budget f g) (is_ending a budget e h) (is_ending a budget f g))
  where
    from : (e f : SampleEnd) (h : IsSampleEnd a budget e) (g : IsSampleEnd a budget f) → ending_of a budget e h ≡ ending_of a budget f g → e ≡ f
    from (Sample ps) (Sample qs) h g same =
        let values : h.node.holds.values ≡ g.node.holds.values = cc in
        ap Sample (h.node.holds.first ∙ ap (take (length a.parameters)) values ∙ sym g.node.holds.first)
    from (Sample ps) Empty h g same = absurd (cc)
    from (Sample ps) (Spent d) h g same = absurd (cc)
    from (Sample ps) (Overflow j l) h g same = absurd (cc)
    from Empty (Sample qs) h g same = absurd (cc)
    from Empty Empty h g same = refl
    from Empty (Spent d) h g same = absurd (cc)
    from Empty (Overflow j l) h g same = absurd (cc)
    from (Spent c) (Sample qs) h g same = absurd (cc)
    from (Spent c) Empty h g same = absurd (cc)
    from (Spent c) (Spent d) h g same = cc
    from (Spent c) (Overflow j l) h g same = absurd (cc)
    from (Overflow i k) (Sample qs) h g same = absurd (cc)
    from (Overflow i k) Empty h g same = absurd (cc)
    from (Overflow i k) (Spent d) h g same = absurd (cc)
    from (Overflow i k) (Overflow j l) h g same = cc
