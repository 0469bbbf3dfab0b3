use Rattle.ta_links.proofs.Common.{◌≡◌, ap, length, arith, rules, Linked}
use Rattle.ta_links.proofs.LinkedFacts.{length-table_rows}
use Rattle.ta_links.proofs.linked.LinkedDictionaryDictionary.rows.Goals as goal

pub returns : goal.returns
returns c =
    let rows = ap (λ (e : Linked). length e.tableau.rows) c.self.view_is in
    let l = length-table_rows c.self.inside.links.cells.items (length c.self.inside.non_basic.items) 0 c.self.inside.rows.items in
    let items : length c.self.inside.rows.items ≡ c.self.inside.rows.len = search rules in
    omega arith
