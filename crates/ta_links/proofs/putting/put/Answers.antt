use Rattle.ta_links.proofs.Common.{subst, sym, ◌∙◌, List, to_z-of_z, Cell, along_rows, MayBefore, IsAt}
use Rattle.ta_links.proofs.Writing.{at_value}
use Rattle.ta_links.proofs.putting.put.Goals as goal

pub seek-left-requires-clause-start : goal.seek-left-requires-clause-start
seek-left-requires-clause-start c = subst (λ (xs : List Cell). MayBefore along_rows xs c.args.row c.args.column c.args.start) (sym c.deref.ensures.value)
    c.requires.start

pub returns-in-Some-clause-fresh : goal.returns-in-Some-clause-fresh
returns-in-Some-clause-fresh c e zero_ =
    let l = c.args.links.now in
    let at = subst (λ (xs : List Cell). IsAt xs c.args.row c.args.column c.in-Some.at) c.deref-3.ensures.value c.in-Some.ensures.found in
    absurd (at.live.value (sym (at_value l.cells.items l.row_heads.items l.column_heads.items l.free_head c.args.row c.args.column c.in-Some.at c.requires.sound
    at) ∙ zero_))

pub returns-in_ok-fill-in-None-clause-before : goal.returns-in_ok-fill-in-None-clause-before
returns-in_ok-fill-in-None-clause-before c h e =
    let f = c.ranges.value in
    let filled = simp to_z-of_z at c.in_ok-fill-in-None.ensures in
    let may = subst (λ (xs : List Cell). MayBefore along_rows xs c.args.row c.args.column c.seek-left.result) c.deref.ensures.value c.seek-left.ensures.may in
    filled.kept c.args.row h (may h e)
