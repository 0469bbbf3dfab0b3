use Rattle.ta_dense.proofs.Common.{arith, ap, length, rules, to_z-of_z, length-map, SFits, w128, Tableau, row_view}
use Rattle.ta_dense.proofs.DenseFacts.{proper_read}
use Rattle.ta_dense.proofs.dense.DenseDictionaryDictionary.denominator.Goals as goal

pub returns-clause-fits : goal.returns-clause-fits
returns-clause-fits c =
    let rows = ap (λ (t : Tableau). length t.rows) c.self.view_is in
    let l = length-map c.self.inside.rows.items row_view in
    let proper = proper_read (length c.self.inside.non_basic.items) c.self.inside.rows.items c.args.row c.index.result.now c.self.invariant.proper
    (let h = c.requires in omega arith) c.index.ensures in
    let f : SFits w128 c.index.result.now.denominator = search rules in
    simp to_z-of_z proper.denominator

pub returns-clause-positive : goal.returns-clause-positive
returns-clause-positive c =
    let rows = ap (λ (t : Tableau). length t.rows) c.self.view_is in
    let l = length-map c.self.inside.rows.items row_view in
    let proper = proper_read (length c.self.inside.non_basic.items) c.self.inside.rows.items c.args.row c.index.result.now c.self.invariant.proper
    (let h = c.requires in omega arith) c.index.ensures in
    let f : SFits w128 c.index.result.now.denominator = search rules in
    simp to_z-of_z proper.positive
