use Rattle.ta_revised.proofs.Common.{◌≡◌, ◌≤◌, ◌∙◌, List, ℤ, length, ap, sym, arith, zeros_behind, arc_value}
use Rattle.ta_revised.proofs.RowCellFacts.{length_behind, own_behind}
use Rattle.ta_revised.proofs.row_cells.RowCells.padded.Goals as goal

pub returns : goal.returns
returns c =
    let xs = (arc_value c.self.inside.stored).items in
    let count = c.self.inside.count in
    let short = c.self.invariant.short in
    let long : length c.args.self.now ≡ c.self.inside.count = ap (λ (ys : List ℤ). length ys) (sym c.self.view_is) ∙ length_behind xs count short in
    let room : c.self.inside.count ≤ c.args.columns = (let r = c.requires in omega arith) in
    ap (λ (v : _). zeros_behind v.items c.args.columns) c.in_ok-stored.ensures ∙ sym (own_behind xs c.args.columns count (omega arith) room)
    ∙ ap (λ (ys : List ℤ). zeros_behind ys c.args.columns) c.self.view_is
