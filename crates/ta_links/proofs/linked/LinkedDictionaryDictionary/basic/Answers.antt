use Rattle.ta_links.proofs.Common.{◌∙◌, ap, sym, List, length, get_or, arith, TableauRow, RowHead, no_head}
use Rattle.ta_links.proofs.LinkedFacts.{head_is, row_below}
use Rattle.ta_links.proofs.linked.LinkedDictionaryDictionary.basic.Goals as goal

pub head_of-requires : goal.head_of-requires
head_of-requires c =
    let b = row_below c.self.inside c.args.self.now c.args.row c.self.view_is c.requires in
    let long = ap (λ (hs : List RowHead). length hs) c.deref.ensures.value in
    omega arith

pub returns : goal.returns
returns c =
    let w = head_is c.self.inside c.args.self.now c.args.row c.head_of.result c.self.invariant c.self.view_is c.requires
    (c.head_of.ensures ∙ ap (λ (hs : List RowHead). get_or hs c.args.row no_head) c.deref.ensures.value) in
    sym (ap (λ (r : TableauRow). r.basic) w.row_is)
