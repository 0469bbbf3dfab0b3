use Rattle.ta_links.proofs.Common.{◌+◌, ◌<ℤ◌, sym, subst, length, pos, ℕ, value_in, MergedBelow, RefusedFirst}
use Rattle.ta_links.proofs.CarriedRows.{placed_positive, carried_done, carry_refused}
use Rattle.ta_links.proofs.carrying.carry_through.Goals as goal

pub merge_others-requires-clause-positive : goal.merge_others-requires-clause-positive
merge_others-requires-clause-positive c =
    let l = c.place_pivot.new.links in
    let last = c.args.first + c.args.count in
    subst (λ (j : ℕ). pos 0 <ℤ value_in l.cells.items last j) (sym c.column-column.ensures)
    (placed_positive c.args.columns last c.args.kept.now c.place_pivot.new.heads.items l c.requires.kept c.in_ok-place_pivot.ensures.placed)

pub returns-clause-done : goal.returns-clause-done
returns-clause-done c =
    let last = c.args.first + c.args.count in
    let hs1 = c.place_pivot.new.heads.items in
    let l1 = c.place_pivot.new.links in
    let p = c.in_ok-place_pivot.ensures in
    let x = c.in_ok-clear_row.ensures in
    let m = subst (λ (j : ℕ). MergedBelow c.args.first c.args.columns last j hs1 l1 (length hs1) c.merge_others.new.heads.items c.merge_others.new.links)
    c.column-column.ensures (rw c.in_default.is at c.in_ok-at.ensures.done) in
    carried_done c.args.columns c.args.first c.args.count c.args.kept.now c.args.heads.now.items hs1 c.merge_others.new.heads.items c.args.links.now l1
    c.merge_others.new.links c.clear_row.new.links c.requires.kept p.room p.placed p.others m
    (record { sound = x.sound; rows = x.rows; columns = x.same_columns; empty = x.empty; others = x.others })

pub returns-in-Some-clause-refused : goal.returns-in-Some-clause-refused
returns-in-Some-clause-refused c =
    let last = c.args.first + c.args.count in
    let hs1 = c.place_pivot.new.heads.items in
    let l1 = c.place_pivot.new.links in
    let p = c.in_ok-place_pivot.ensures in
    let r = subst (λ (j : ℕ). RefusedFirst c.args.first c.args.columns last j hs1 l1 (length hs1) c.in-Some.at) c.column-column.ensures
    (rw c.in-Some.is at c.in_ok-at.ensures.refused) in
    carry_refused c.args.columns c.args.first c.args.count c.in-Some.at c.args.kept.now c.args.heads.now.items hs1 c.args.links.now l1 c.requires.kept p.room
    p.placed p.others r
