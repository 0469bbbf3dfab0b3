use Rattle.ta_links.proofs.Common.{◌∙◌, ap, sym, List, get_or, rules, to_z-of_z, SFits, w128, TableauRow, RowHead, no_head}
use Rattle.ta_links.proofs.LinkedFacts.{head_below, head_is}
use Rattle.ta_links.proofs.linked.LinkedDictionaryDictionary.constant.Goals as goal

pub head_of-requires : goal.head_of-requires
head_of-requires c = head_below c.self.inside c.args.self.now c.args.row c.deref.result.now c.self.view_is c.requires c.deref.ensures.value

pub returns-clause-value : goal.returns-clause-value
returns-clause-value c =
    let w = head_is c.self.inside c.args.self.now c.args.row c.head_of.result c.self.invariant c.self.view_is c.requires
    (c.head_of.ensures ∙ ap (λ (hs : List RowHead). get_or hs c.args.row no_head) c.deref.ensures.value) in
    let f : SFits w128 c.head_of.result.constant = search rules in
    simp to_z-of_z (sym (ap (λ (r : TableauRow). r.constant) w.row_is))

pub returns-clause-fits : goal.returns-clause-fits
returns-clause-fits c =
    let w = head_is c.self.inside c.args.self.now c.args.row c.head_of.result c.self.invariant c.self.view_is c.requires
    (c.head_of.ensures ∙ ap (λ (hs : List RowHead). get_or hs c.args.row no_head) c.deref.ensures.value) in
    let f : SFits w128 c.head_of.result.constant = search rules in
    simp to_z-of_z w.proper.constant
