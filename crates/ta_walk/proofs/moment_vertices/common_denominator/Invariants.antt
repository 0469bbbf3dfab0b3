use Rattle.ta_walk.proofs.Common.{◌≡◌, ◌<◌, ◌^◌, ℕ, List, drop, common_denominator, Fraction}
use Rattle.ta_moments.specs.Vertices.{denominator_with}
use Rattle.ta_simplex.specs.Vertex.{parts_of}
use Rattle.ta_walk.proofs.moment_vertices.common_denominator.Given as goal

-- what is left goes on from the denominator so far
pub record Known (values rest : List Fraction) (denominator : ℕ) : Type 0 where
  pub is : common_denominator (parts_of values) ≡ denominator_with denominator (parts_of rest)
  pub some : 0 < denominator
  pub fits : denominator < 2 ^ 127

abbrev pub invariant-loop-value : goal.invariant-loop-value
invariant-loop-value l = Known l.values (drop l.value-index l.values) l.denominator
