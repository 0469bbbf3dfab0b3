use Rattle.ta_links.proofs.Common.{◌∙◌, ap, sym, subst, List, ℕ, Option, rules, to_z-of_z, SFits, w128, Cell, along_rows, cell_at, IsAt, IsEmptyPlace, IsSought}
use Rattle.ta_links.proofs.Writing.{at_value, gap_value}
use Rattle.ta_links.proofs.reading.number_behind.Goals as goal

pub cell_at_place-requires-clause-left : goal.cell_at_place-requires-clause-left
cell_at_place-requires-clause-left c =
    let s = subst (λ (xs : List Cell). IsSought along_rows xs c.args.links.now.row_heads.items c.args.row c.args.column c.args.left) (sym c.deref.ensures.value)
    c.requires.left in
    subst (λ (hs : List (Option ℕ)). IsSought along_rows c.deref.result.now hs c.args.row c.args.column c.args.left) (sym c.deref-2.ensures.value) s

pub returns-in-Some-clause-value : goal.returns-in-Some-clause-value
returns-in-Some-clause-value c =
    let l = c.args.links.now in
    let at = subst (λ (xs : List Cell). IsAt xs c.args.row c.args.column c.in-Some.at) c.deref.ensures.value c.in-Some.ensures.found in
    let f : SFits w128 c.cell_of.result.value = search rules in
    simp to_z-of_z (ap (λ (x : Cell). x.value) (c.cell_of.ensures ∙ ap (λ (xs : List Cell). cell_at xs c.in-Some.at) c.deref-in-Some.ensures.value)
    ∙ sym (at_value l.cells.items l.row_heads.items l.column_heads.items l.free_head c.args.row c.args.column c.in-Some.at c.requires.sound at))

pub returns-in-None-clause-value : goal.returns-in-None-clause-value
returns-in-None-clause-value c =
    let l = c.args.links.now in
    let gap = subst (λ (xs : List Cell). IsEmptyPlace along_rows xs c.deref-2.result.now c.args.row c.args.column c.args.left) c.deref.ensures.value
    c.in-None.ensures.none in
    let gap_ = subst (λ (hs : List (Option ℕ)). IsEmptyPlace along_rows l.cells.items hs c.args.row c.args.column c.args.left) c.deref-2.ensures.value gap in
    sym (gap_value l.cells.items l.row_heads.items l.column_heads.items l.free_head c.args.row c.args.column c.args.left c.requires.sound gap_)
