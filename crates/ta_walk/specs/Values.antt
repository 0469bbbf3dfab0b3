-- The values of unknowns that those of the code stand for.
use Rattle.std.specs.Prelude.{Option, Some, None}
use Rattle.ta_moments.specs.Questions.{Values}
use Rattle.ta_walk.specs.declared.moment_vertex.Vertex.{Vertex}

-- the values of a vertex
abbrev pub values_of : Option Vertex → Values
values_of None = None
values_of (Some vertex) = Some (record { denominator = vertex.denominator; numbers = vertex.numbers })
