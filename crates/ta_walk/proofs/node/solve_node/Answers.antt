use Rattle.ta_walk.proofs.Common.{ℕ, ◌<◌, ◌^◌, List, length, ap, arith, sym, subst, Fraction, System, SystemAt, variables, slack_tableau, OverflowsAt, IsVertex}
use Rattle.ta_walk.proofs.Common.{IsOutOfRangeAt, here, IsBranch, IsRefuted}
use Rattle.ta_walk.specs.declared.end.PlaceKind.TheVariants.{Pivot}
use Rattle.ta_walk.proofs.Nodes.{few_variables}
use Rattle.ta_walk.proofs.VertexTaken.{on_inner, on_inner_ok}
use Rattle.ta_walk.proofs.node.solve_node.Goals as goal

pub solve-requires-clause-room : goal.solve-requires-clause-room
solve-requires-clause-room g c κs within =
    subst (λ (z : System). variables z < 2 ^ 32) (sym c.system-system.ensures)
    (few_variables (here c.args.cursor.now) (g.T.Tree.system_of c.args.kept.now) c.requires.few c.requires.small)

pub returns-in-Err-Overflow-clause-solved : goal.returns-in-Err-Overflow-clause-solved
returns-in-Err-Overflow-clause-solved g c =
    let system = c.system-system.result.now in
    let s = g.T.Tree.search c.args.tree.now in
    let is = subst (SystemAt s (here c.args.cursor.now)) (sym c.system-system.ensures) c.requires.system in
    let overflows : OverflowsAt (slack_tableau system) c.in-Err-Overflow.pivot = rw c.in-Err-Overflow.field-0-is at c.in-Err-Overflow.ensures.fault in
    let IsOut : ℕ → Type 0 = λ count. IsOutOfRangeAt s (here c.args.cursor.now) (Pivot count) in
    subst IsOut (sym c.in-Err-Overflow.pivot-is) (record { system = system; is = is; holds = overflows })

pub take_refuted-requires-clause-few : goal.take_refuted-requires-clause-few
take_refuted-requires-clause-few g c =
    subst (λ (z : System). variables z < 2 ^ 32) (sym c.system-system.ensures)
    (few_variables (here c.args.cursor.now) (g.T.Tree.system_of c.args.kept.now) c.requires.few c.requires.small)

pub take_vertex-requires-clause-few : goal.take_vertex-requires-clause-few
take_vertex-requires-clause-few g c =
    let system = c.system-system.result.now in
    let vertex : IsVertex system c.in-Ok-Vertex.values = rw c.in-Ok-Vertex.field-0-is at c.in-Ok-Vertex.ensures.ok in
    let count = vertex.gives.count in
    let few = subst (λ (z : System). variables z < 2 ^ 32) (sym c.system-system.ensures)
    (few_variables (here c.args.cursor.now) (g.T.Tree.system_of c.args.kept.now) c.requires.few c.requires.small) in
    let same = ap (λ (vs : List Fraction). length vs) c.as_slice.ensures in
    omega arith

pub take_vertex-requires-clause-vertex : goal.take_vertex-requires-clause-vertex
take_vertex-requires-clause-vertex g c =
    let system = c.system-system.result.now in
    let is = subst (SystemAt (g.T.Tree.search c.args.tree.now) (here c.args.cursor.now)) (sym c.system-system.ensures) c.requires.system in
    let vertex : IsVertex system c.in-Ok-Vertex.values = rw c.in-Ok-Vertex.field-0-is at c.in-Ok-Vertex.ensures.ok in
    record { system = system; is = is; holds = subst (IsVertex system) (sym c.as_slice.ensures) vertex }

pub take_refuted-requires-clause-refuted : goal.take_refuted-requires-clause-refuted
take_refuted-requires-clause-refuted g c =
    let refuted : IsRefuted c.system-system.result.now c.in-Ok-Refuted.multipliers = rw c.in-Ok-Refuted.field-0-is at c.in-Ok-Refuted.ensures.ok in refuted

pub returns-in-Ok-Refuted-clause-branch : goal.returns-in-Ok-Refuted-clause-branch
returns-in-Ok-Refuted-clause-branch g c =
    on_inner c.take_refuted.result
    (subst (λ (z : System). IsBranch g.D.Dictionary.tableau g.D.Dictionary.pivot_of z.rows c.solve.new.self) c.system-system.ensures
    c.in-Ok-Refuted.ensures.branch)

pub returns-in-Ok-Refuted-clause-solved : goal.returns-in-Ok-Refuted-clause-solved
returns-in-Ok-Refuted-clause-solved g c =
    let s = g.T.Tree.search c.args.tree.now in
    let w = here c.args.cursor.now in
    c.take_refuted.ensures s w (subst (SystemAt s w) (sym c.system-system.ensures) c.requires.system)

pub returns-in-Ok-Vertex-clause-branch : goal.returns-in-Ok-Vertex-clause-branch
returns-in-Ok-Vertex-clause-branch g c =
    on_inner_ok c.take_vertex.result
    (subst (λ (z : System). IsBranch g.D.Dictionary.tableau g.D.Dictionary.pivot_of z.rows c.solve.new.self) c.system-system.ensures
    c.in-Ok-Vertex.ensures.branch)

pub returns-in-Ok-Vertex-clause-solved : goal.returns-in-Ok-Vertex-clause-solved
returns-in-Ok-Vertex-clause-solved g c = c.take_vertex.ensures
