use Rattle.ta_moment_tree.proofs.Common.{◌≡◌, ℕ, ◌+◌, drop, Vector}
use Rattle.ta_moments.specs.Moments.{fresh}
use Rattle.ta_moment_tree.proofs.vector.place_in.Given as goal

abbrev pub invariant-loop-number : goal.invariant-loop-number
invariant-loop-number l = (first : ℕ) (other : Vector) → fresh first l.rules other l.rule ≡ fresh (first + l.number) (drop l.number l.rules) other l.rule
