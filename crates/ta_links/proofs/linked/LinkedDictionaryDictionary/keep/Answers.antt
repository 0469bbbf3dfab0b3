use Rattle.ta_links.proofs.Common.{◌≡◌, ◌<◌, ◌+◌, ◌∙◌, ap, sym, arith, length, get_or, List, ℕ, ℤ, TableauRow, coefficients, RowHead, Linked, no_head, value_in}
use Rattle.ta_links.proofs.Common.{row_values}
use Rattle.ta_links.proofs.LinkedFacts.{head_is, row_below, values_are}
use Rattle.ta_links.proofs.linked.LinkedDictionaryDictionary.keep.Goals as goal

pub head_of-head-requires : goal.head_of-head-requires
head_of-head-requires c =
    let b = row_below c.self.inside c.args.self.now c.args.row c.self.view_is c.requires.row in
    let long = ap (λ (hs : List RowHead). length hs) c.deref.ensures.value in
    omega arith

pub list_line-requires-clause-line : goal.list_line-requires-clause-line
list_line-requires-clause-line c =
    let b = row_below c.self.inside c.args.self.now c.args.row c.self.view_is c.requires.row in
    let r : c.args.row < length c.self.inside.links.row_heads.items = omega arith in
    r

pub returns : goal.returns
returns c =
    let cells = c.self.inside.links.cells.items in
    let n = length c.self.inside.non_basic.items in
    let h = c.head_of-head.result in
    let ts = c.in_ok-list.list.items in
    let w = head_is c.self.inside c.args.self.now c.args.row c.head_of-head.result c.self.invariant c.self.view_is c.requires.row
    (c.head_of-head.ensures ∙ ap (λ (hs : List RowHead). get_or hs c.args.row no_head) c.deref.ensures.value) in
    let width : c.columns.result ≡ length c.self.inside.non_basic.items = c.columns.ensures
    ∙ ap (λ (e : Linked). length e.tableau.non_basic) (sym c.self.view_is) in
    let same : 0 + c.args.row ≡ c.args.row = omega arith in
    let values : coefficients c.columns.result ts ≡ row_values cells n (0 + c.args.row) = ap (λ (k : ℕ). coefficients k ts) width
    ∙ sym (values_are cells n (0 + c.args.row) ts (λ j. ap (λ (r : ℕ). value_in cells r j) same ∙ c.in_ok-list.ensures.numbers j)) in
    c.of_row.ensures ∙ ap (λ (zs : List ℤ). record { row = c.args.row; column = c.args.column; denominator = h.denominator; constant = h.constant; cells = zs })
    values
    ∙ ap (λ (r : TableauRow). record { row = c.args.row; column = c.args.column; denominator = r.denominator; constant = r.constant; cells = r.cells })
    (sym w.row_is)
