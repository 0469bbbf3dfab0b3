use Rattle.ta_walk.proofs.Common.{◌≡◌, [], drop, numbers_over}
use Rattle.ta_simplex.specs.Vertex.{parts_of}
use Rattle.ta_walk.proofs.Lowest.{all_or_none}
use Rattle.ta_walk.proofs.moment_vertices.numbers_over.Given as goal

-- the numbers so far go first
abbrev pub invariant-loop-value : goal.invariant-loop-value
invariant-loop-value l = all_or_none [] (numbers_over l.denominator (parts_of l.values)) ≡ all_or_none l.numbers.items
    (numbers_over l.denominator (parts_of (drop l.value-index l.values)))
