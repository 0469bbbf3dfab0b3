use Rattle.ta_simplex.proofs.WholeLemmas.{whole_vertex_solves}
use Rattle.ta_simplex.proofs.laws.whole_vertices_solve.Goals as goal

pub returns : goal.returns
returns c = whole_vertex_solves
