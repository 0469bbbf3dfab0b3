use Rattle.ta_links.proofs.Common.{◌≡◌, ◌∙◌, ◌<◌, ◌<ℤ◌, ap, sym, subst, arith, rules, length, set, get_or, List, pos, get_or_read, length-set, RowHead, Linked}
use Rattle.ta_links.proofs.Common.{no_head}
use Rattle.ta_links.proofs.LinkedFacts.{row_below, number_is}
use Rattle.ta_links.proofs.PivotedTable.{pivoted_tableau, pivoted_held}
use Rattle.ta_links.proofs.linked.LinkedDictionaryDictionary.pivot.Goals as goal

pub head_of-leaving-requires : goal.head_of-leaving-requires
head_of-leaving-requires c =
    let b = row_below c.self.inside c.args.self c.args.row c.self.view_is c.requires.row in
    let long = ap (λ (hs : List RowHead). length hs) c.deref.ensures.value in
    omega arith

pub pivot_rows-requires-clause-row : goal.pivot_rows-requires-clause-row
pivot_rows-requires-clause-row c = row_below c.self.inside c.args.self c.args.row c.self.view_is c.requires.row

pub pivot_rows-requires-clause-positive : goal.pivot_rows-requires-clause-positive
pivot_rows-requires-clause-positive c = subst (λ (z : _). pos 0 <ℤ z)
    (sym (number_is c.self.inside c.args.self c.args.row c.args.column c.self.view_is c.requires.row c.requires.column)) c.requires.positive

pub returns-in-Ok-None-clause-ok : goal.returns-in-Ok-None-clause-ok
returns-in-Ok-None-clause-ok c =
    let us = c.self.inside.non_basic.items in
    let hs = c.self.inside.rows.items in
    let columns = ap (λ (e : Linked). length e.tableau.non_basic) c.self.view_is in
    let inside : c.args.column < length c.self.inside.non_basic.items = let b = c.requires.column in omega arith in
    let d = rw c.in-Ok-None.field-0-is at c.in-Ok-None.ensures.done in
    let n : c.len-columns.result ≡ length c.self.inside.non_basic.items = search rules in
    let leaving = ap (λ (h : RowHead). h.basic) (c.head_of-leaving.ensures ∙ ap (λ (xs : List RowHead). get_or xs c.args.row no_head) c.deref.ensures.value) in
    let entering = get_or_read us c.args.column c.index-entering.result.now inside c.index-entering.ensures 0 in
    pivoted_tableau us hs c.pivot_rows.new.heads.items c.self.inside.links c.pivot_rows.new.links c.len-columns.result c.args.row c.args.column
    c.head_of-leaving.result.basic c.index-entering.result.now c.args.self.tableau (ap (λ (e : Linked). e.tableau) c.self.view_is)
    (row_below c.self.inside c.args.self c.args.row c.self.view_is c.requires.row) n leaving entering d

pub returns-in-Ok-None-clause-held : goal.returns-in-Ok-None-clause-held
returns-in-Ok-None-clause-held c =
    let us = c.self.inside.non_basic.items in
    let d = rw c.in-Ok-None.field-0-is at c.in-Ok-None.ensures.done in
    let n : c.len-columns.result ≡ length c.self.inside.non_basic.items = search rules in
    let us2 = set us c.args.column c.head_of-leaving.result.basic in
    pivoted_held us us2 c.self.inside.rows.items c.pivot_rows.new.heads.items c.self.inside.links c.pivot_rows.new.links c.len-columns.result c.args.row
    c.args.column c.index-entering.result.now c.args.self.tableau c.args.self.cells (ap (λ (e : Linked). e.tableau) c.self.view_is)
    (ap (λ (e : Linked). e.cells) c.self.view_is) n (length-set us c.args.column c.head_of-leaving.result.basic) d
