use Rattle.ta_moment_tree.proofs.Common.{◌≡◌, ℕ, List, Option, reverse, take}
use Rattle.ta_moments.specs.Moments.{known}
use Rattle.ta_moment_tree.proofs.count.unknown_count.Given as goal

abbrev pub invariant-loop-fact : goal.invariant-loop-fact
invariant-loop-fact l = (silent : List ℕ) (candidate : Option ℕ)
    → l.count ≡ (known l.task.automaton.now l.task.pattern.now silent candidate (reverse (take l.fact-index l.facts))).unknowns
