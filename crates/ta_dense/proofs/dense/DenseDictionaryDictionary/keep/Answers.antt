use Rattle.ta_dense.proofs.Common.{◌≡◌, arith, sym, ap, subst, length, rules, length-map, Tableau, IsProper, row_view}
use Rattle.ta_dense.proofs.DenseFacts.{proper_read}
use Rattle.ta_dense.proofs.ProperFacts.{IsProper-self}
use Rattle.ta_dense.proofs.ExtendFacts.{IsProper-padded}
use Rattle.ta_dense.proofs.dense.DenseDictionaryDictionary.keep.Goals as goal

pub of_row-requires : goal.of_row-requires
of_row-requires c =
    let rows = ap (λ (t : Tableau). length t.rows) c.self.view_is in
    let l = length-map c.self.inside.rows.items row_view in
    let n = length c.self.inside.non_basic.items in
    let proper = proper_read n c.self.inside.rows.items c.args.row c.index-chosen.result.now c.self.invariant.proper (omega arith) c.index-chosen.ensures in
    let items : length c.index-chosen.result.now.cells.items ≡ c.index-chosen.result.now.cells.len = search rules in
    IsProper-self c.len.result (row_view c.in_ok-copy.copy)
    (subst (IsProper c.len.result) (sym c.in_ok-copy.ensures)
    (IsProper-padded n c.index-chosen.result.now.basic c.len.result (row_view c.index-chosen.result.now) proper (omega arith)))
