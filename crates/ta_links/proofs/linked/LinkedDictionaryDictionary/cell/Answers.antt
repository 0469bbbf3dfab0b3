use Rattle.ta_links.proofs.Common.{◌∙◌, arith, rules, to_z-of_z, SFits, w128}
use Rattle.ta_links.proofs.LinkedFacts.{row_below, number_is}
use Rattle.ta_links.proofs.linked.LinkedDictionaryDictionary.cell.Goals as goal

pub number-requires-clause-row : goal.number-requires-clause-row
number-requires-clause-row c =
    let b = row_below c.self.inside c.args.self.now c.args.row c.self.view_is c.requires.row in
    omega arith

pub returns-clause-value : goal.returns-clause-value
returns-clause-value c =
    let f : SFits w128 c.number.result = search rules in
    simp to_z-of_z (c.number.ensures.value ∙ number_is c.self.inside c.args.self.now c.args.row c.args.column c.self.view_is c.requires.row c.requires.column)
