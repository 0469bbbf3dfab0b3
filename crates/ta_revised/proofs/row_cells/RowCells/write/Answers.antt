use Rattle.ta_revised.proofs.Common.{◌≡◌, ◌≤◌, ◌+◌, ◌∙◌, ap, sym, ℤ, List, length, set, arith, to_z-of_z, arc_value, zeros_behind}
use Rattle.ta_revised.proofs.RowCellFacts.{length_behind, long_behind, own_behind, set_behind}
use Rattle.ta_revised.proofs.row_cells.RowCells.write.Goals as goal

pub returns : goal.returns
returns c =
    let xs = (arc_value c.self.inside.stored).items in
    let count = c.self.inside.count in
    let column = c.args.column in
    let fn = c.ranges.number in
    let owned : c.in-Some.cells.now.items ≡ zeros_behind (arc_value c.self.inside.stored).items (c.args.column + 1) =
    ap (λ (v : _). v.items) c.in-Some.ensures.value ∙ c.in_ok-own.ensures.value in
    let wide : length c.args.self.now ≡ c.self.inside.count = ap (λ (ys : List ℤ). length ys) (sym c.self.view_is)
    ∙ length_behind xs count c.self.invariant.short in
    let room : c.args.column + 1 ≤ c.self.inside.count = (let r = c.requires in omega arith) in
    let stored = long_behind xs (column + 1) in
    simp to_z-of_z
    (ap (λ (ys : List ℤ). zeros_behind (set ys column c.args.number) count) owned
    ∙ set_behind (zeros_behind xs (column + 1)) column c.args.number count (omega arith)
    ∙ ap (λ (ys : List ℤ). set ys column c.args.number) (own_behind xs count (column + 1) c.self.invariant.short room ∙ c.self.view_is))
