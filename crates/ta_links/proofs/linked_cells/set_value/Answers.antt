use Rattle.ta_links.proofs.Common.{◌≡◌, sym, subst, List, to_z-of_z, Cell, valued}
use Rattle.ta_links.proofs.Removing.{SetDone, set_keeps}
use Rattle.ta_links.proofs.linked_cells.set_value.Goals as goal
use Rattle.ta_links.proofs.linked_cells.set_value.Goals.{After-write_value}

-- the cells whose number is written
done : (c : After-write_value) →
    (let l = c.args.links.now in SetDone l.cells.items l.row_heads.items l.column_heads.items l.free_head c.args.at c.args.value c.write_value.new.cells.items)
done c =
    let f = c.ranges.value in
    let l = c.args.links.now in
    let e : c.write_value.new.cells.items ≡ valued l.cells.items c.args.at c.args.value = simp to_z-of_z at c.write_value.ensures in
    subst (λ (xs : List Cell). SetDone l.cells.items l.row_heads.items l.column_heads.items l.free_head c.args.at c.args.value xs) (sym e)
    (set_keeps l.cells.items l.row_heads.items l.column_heads.items l.free_head c.args.at c.args.value c.requires.sound c.requires.live c.requires.value
    c.requires.fits)

pub returns-clause-sound : goal.returns-clause-sound
returns-clause-sound c = (done (goal.at.returns-clause-sound c).After-write_value).linked

pub returns-clause-values : goal.returns-clause-values
returns-clause-values c = (done (goal.at.returns-clause-values c).After-write_value).values

pub returns-clause-kept : goal.returns-clause-kept
returns-clause-kept c = (done (goal.at.returns-clause-kept c).After-write_value).kept
