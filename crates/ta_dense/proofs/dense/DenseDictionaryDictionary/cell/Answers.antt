use Rattle.ta_dense.proofs.Common.{◌≡◌, arith, sym, ap, length, rules, length-map, Tableau, row_view, pos, subst, to_z-of_z, get_or_read, All-get_or, SFits}
use Rattle.ta_dense.proofs.Common.{w128, InRange}
use Rattle.ta_dense.proofs.DenseFacts.{proper_read}
use Rattle.ta_dense.proofs.dense.DenseDictionaryDictionary.cell.Goals as goal

pub index-requires-2 : goal.index-requires-2
index-requires-2 c =
    let rows = ap (λ (t : Tableau). length t.rows) c.self.view_is in
    let columns = ap (λ (t : Tableau). length t.non_basic) c.self.view_is in
    let l = length-map c.self.inside.rows.items row_view in
    let proper = proper_read (length c.self.inside.non_basic.items) c.self.inside.rows.items c.args.row c.index.result.now c.self.invariant.proper (omega arith)
    c.index.ensures in
    let items : length c.index.result.now.cells.items ≡ c.index.result.now.cells.len = search rules in
    omega arith

pub returns-clause-fits : goal.returns-clause-fits
returns-clause-fits c =
    let rows = ap (λ (t : Tableau). length t.rows) c.self.view_is in
    let columns = ap (λ (t : Tableau). length t.non_basic) c.self.view_is in
    let l = length-map c.self.inside.rows.items row_view in
    let proper = proper_read (length c.self.inside.non_basic.items) c.self.inside.rows.items c.args.row c.index.result.now c.self.invariant.proper (omega arith)
    c.index.ensures in
    let read = get_or_read c.index.result.now.cells.items c.args.column c.index-2.result.now (omega arith) c.index-2.ensures (pos 0) in
    let fits = subst InRange (sym read) (All-get_or InRange c.index.result.now.cells.items c.args.column (pos 0) (omega arith) proper.cells) in
    let f : SFits w128 c.index-2.result.now = search rules in
    simp to_z-of_z fits
