use Rattle.ta_moment_tree.proofs.Common.{◌≡◌, ◌≤◌, ◌+◌, ℕ, List, Option, false, length, reverse, slice_get, take, Automaton, is_pair_in}
use Rattle.ta_moments.specs.Moments.{known}
use Rattle.ta_moment_tree.proofs.count.is_pair.Given as goal

abbrev pub invariant-loop-fact : goal.invariant-loop-fact
invariant-loop-fact l = record {
  few : l.count ≤ length l.pattern.events + l.fact-index;
  is : (a : Automaton) (silent : List ℕ) (candidate : Option ℕ)
      → l.count ≡ length (known a l.pattern silent candidate (reverse (take l.fact-index l.facts))).moments;
  none : (a : Automaton) (silent : List ℕ) (candidate : Option ℕ)
      → is_pair_in (slice_get (known a l.pattern silent candidate (reverse (take l.fact-index l.facts))).moments l.moment) ≡ false;
}
