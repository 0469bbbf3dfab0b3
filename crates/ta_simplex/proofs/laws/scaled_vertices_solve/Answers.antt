use Rattle.ta_simplex.proofs.WholeLemmas.{scaled_vertex_solves}
use Rattle.ta_simplex.proofs.laws.scaled_vertices_solve.Goals as goal

pub returns : goal.returns
returns c = scaled_vertex_solves
