-- the laws of words, systems, refutations and runs
use Rattle.ta_encode.proofs.Common.{◌≡◌, ◌≤◌, inl, inr, true, ℕ, ◌<◌, ◌+◌, List, [], ◌∷◌, ◌++◌, map, get_or, take, length, length-append, arith, reverse, sym}
use Rattle.ta_encode.proofs.Common.{ap, ◌∙◌, subst, slice_get, Some, reverse-reverse, length-map, false≢true, all_below-at, each_index, Automaton, Pattern}
use Rattle.ta_encode.proofs.Common.{File, Config, LoopsPure, Occurs, range_with_len, pattern_within, after_earlier, Good, Element, LegalUnder, has_event}
use Rattle.ta_encode.proofs.Common.{is_complete, Parameter, Start, start_locations, start_meanings, meanings, word_rows, SolvesWord, EndsAt, IsReordered}
use Rattle.ta_encode.proofs.Common.{ReorderedTo, RunsReorderTo, start_values, steps_of, RunsReorder, ProofsShowSafety, ProofsLeaveNoSolution}
use Rattle.ta_encode.proofs.Common.{SolutionsBecomeRuns, StepsOfSolutionsRun, take_at}
use Rattle.ta_encode.proofs.Moments.{AllHold-left}
use Rattle.ta_encode.proofs.Start.{parameter_values, start_counts}
use Rattle.ta_encode.proofs.Switch.{Begins}
use Rattle.ta_encode.proofs.Reorder.{AfterEarlier, describe}
use Rattle.ta_encode.proofs.Safety.{take_apart, none_solves, proof_safe}
use Rattle.ta_encode.proofs.Prefixes.{prefix_fewer, prefix_solves}
use Rattle.ta_encode.proofs.Realize.{some_firings, solution_runs}

earlier : (file : File) (n : ℕ) (p : Pattern) → slice_get file.patterns n ≡ Some p → AfterEarlier p
earlier file n p at = after_earlier (length file.automaton.parameters + length file.automaton.shared + length file.automaton.locations)
    (length file.automaton.locations) p (pattern_within file n p at)

begins_with : (a : Automaton) (p : Pattern) (first : Config) (vs : List ℕ) → length first.parameters ≡ length a.parameters
    → Begins (parameter_values a first ++ start_counts a p first) vs → start_values a p first ≡ take (length (start_meanings a p)) vs
unfolding start_meanings
begins_with a p first vs count b =
    let origin = parameter_values a first ++ start_counts a p first in
    let nums = range_with_len 0 (length a.parameters) in
    let locs = start_locations a p in
    let many : length origin ≡ length (start_meanings a p) = omega (
      arith,
      length-append (parameter_values a first) (start_counts a p first),
      length-append (map Parameter nums) (map Start locs),
      length-map nums
          (λ j. get_or first.parameters j 0),
      length-map nums Parameter,
      length-map locs (λ l. get_or first.counters l 0),
      length-map locs Start,
    ) in
    let parameters : parameter_values a first ≡ first.parameters = subst
    (λ (n : ℕ). map (λ j. get_or first.parameters j 0) (range_with_len 0 n) ≡ first.parameters) count (each_index first.parameters) in
    sym (ap (λ (xs : List ℕ). take (length (start_meanings a p)) xs) b.1 ∙ take_at origin b.0 (length (start_meanings a p)) many
    ∙ ap (λ (xs : List ℕ). xs ++ start_counts a p first) parameters)

-- the word of a run in which a pattern occurs whose events come after earlier ones alone
pub reordered_by : (a : Automaton) (p : Pattern) → AfterEarlier p → LoopsPure a → (pairs : List (ℕ × ℕ)) → Good a pairs → (first : Config) (rules : List ℕ)
    → Occurs a p first rules → IsReordered a p pairs first
reordered_by a p early loops pairs good first rules occurs =
    let d = describe a p pairs good loops early first rules occurs in
    let word = reverse d.past in
    let back : d.past ≡ reverse word = sym (reverse-reverse d.past) in
    let solves = subst (λ (q : List Element). SolvesWord a p d.start q [] d.values) back d.solves in
    record {
      start = d.start;
      is_start = d.is_start;
      word = word;
      values = d.values;
      begins = begins_with a p first d.values occurs.run.initial.admissible.count d.begins;
      solved = record {
        legal = subst (LegalUnder a p pairs d.start) back d.legal;
        complete = ap (is_complete p) (sym back) ∙ d.complete;
        solves = solves;
      };
      prefix_solved = prefix_solves a p d.start word d.values solves;
    }

pub reorder : RunsReorder
reorder file n p at loops pairs good first rules occurs = reordered_by file.automaton p (earlier file n p at) loops pairs good first rules occurs

-- a pattern with events has no complete word without elements
not_empty : (p : Pattern) (past : List Element) → 0 < length p.events → is_complete p past ≡ true → past ≡ [] → ⊥
unfolding has_event
not_empty p past some complete e = false≢true (all_below-at (length p.events) (has_event []) (sym (ap (is_complete p) e) ∙ complete) 0 some)

-- that word, and what stands at its end
pub reordered_to : (a : Automaton) (p : Pattern) → AfterEarlier p → LoopsPure a → (pairs : List (ℕ × ℕ)) → Good a pairs → 0 < length p.events
    → (first : Config) (rules : List ℕ) (o : Occurs a p first rules) → ReorderedTo a p pairs first (first ∷ o.later) o.positions
unfolding reordered_by
reordered_to a p early loops pairs good some first rules o =
    let d = describe a p pairs good loops early first rules o in
    let back : d.past ≡ reverse (reverse d.past) = sym (reverse-reverse d.past) in
    record {
      reordered = reordered_by a p early loops pairs good first rules o;
      ends = elim d.ends [
        | inl none ↦ absurd (not_empty p d.past some d.complete none)
        | inr ends ↦ subst (λ (q : List Element). EndsAt a p d.start q d.values (first ∷ o.later) o.positions) back ends
      ];
    }

pub reorder_to : RunsReorderTo
reorder_to file n p at loops pairs good some first rules o = reordered_to file.automaton p (earlier file n p at) loops pairs good some first rules o

pub safety : ProofsShowSafety
safety file n p at loops pairs good trees proof = proof_safe file.automaton p pairs good loops (earlier file n p at) trees proof

pub no_solution : ProofsLeaveNoSolution
no_solution a p pairs trees proof start b word vs s =
    none_solves a p pairs trees proof start b (reverse word) vs s.legal s.complete (AllHold-left vs (word_rows a p start (reverse word)) [] s.solves.rows_hold)

pub these_run : StepsOfSolutionsRun
unfolding meanings
these_run file n p at start word vs s firings fires =
    let a = file.automaton in
    let f = take_apart (reverse word) [] in
    let fewer : length (start_meanings a p) ≤ length (meanings a p start (reverse word)) = subst
    (λ (q : List Element). length (start_meanings a p) ≤ length (meanings a p start q)) f.1 (prefix_fewer a p start [] f.0) in
    solution_runs a p (earlier file n p at) start (reverse word) vs firings fires s.legal s.complete
    (AllHold-left vs (word_rows a p start (reverse word)) [] s.solves.rows_hold) (omega (arith, s.solves.count))

pub runs : SolutionsBecomeRuns
runs file n p at scope start word vs s =
    let a = file.automaton in
    let some = some_firings a p start (reverse word) vs scope (AllHold-left vs (word_rows a p start (reverse word)) [] s.solves.rows_hold) in
    let these = these_run file n p at start word vs s some.0 some.1 in
    record { first = these.first; rules = steps_of some.0; begins = these.begins; occurs = these.occurs }
