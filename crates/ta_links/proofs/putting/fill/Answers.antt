use Rattle.ta_links.proofs.Common.{◌≡◌, ◌≢◌, ℕ, ℤ, pos, ap, sym, ◌∙◌, subst, List, Option, arith, to_z-of_z, ints, Cell, along_columns, value_in, written}
use Rattle.ta_links.proofs.Common.{IsSought, of_z, w128, zero_from_bits}
use Rattle.ta_links.proofs.Writing.{gap_value, zero_is, written_by, fills_one, before_kept, sought_gap}
use Rattle.ta_links.proofs.putting.fill.Goals as goal

pub returns-then-value-eq0-clause-values : goal.returns-then-value-eq0-clause-values
returns-then-value-eq0-clause-values c q p =
    let l = c.args.links.now in
    let zero_ : c.args.value ≡ pos 0 = zero_from_bits c.args.value c.ranges.value c.if-value-eq0.true in
    let none = gap_value l.cells.items l.row_heads.items l.column_heads.items l.free_head c.args.row c.args.column c.args.left c.requires.sound c.requires.left
    in
    zero_is (value_in l.cells.items) c.args.row c.args.column none q p
    ∙ ap (λ (z : ℤ). written (value_in l.cells.items) c.args.row c.args.column z q p) (sym zero_)

pub insert-requires-clause-above : goal.insert-requires-clause-above
insert-requires-clause-above c =
    let l = c.args.links.now in
    let s = subst (λ (xs : List Cell). IsSought along_columns xs c.deref-2.result.now c.args.column c.args.row c.seek-above.result) c.deref.ensures.value
    c.seek-above.ensures in
    let t = subst (λ (hs : List (Option ℕ)). IsSought along_columns l.cells.items hs c.args.column c.args.row c.seek-above.result) c.deref-2.ensures.value s in
    sought_gap l.cells.items l.row_heads.items l.column_heads.items l.free_head c.args.row c.args.column c.args.left c.seek-above.result c.requires.sound
    c.requires.left t

pub returns : goal.returns
returns c =
    let f = c.ranges.value in
    let l = c.args.links.now in
    let n = c.insert.new.links in
    let e = simp to_z-of_z at c.in_ok-insert.ensures in
    let none = gap_value l.cells.items l.row_heads.items l.column_heads.items l.free_head c.args.row c.args.column c.args.left c.requires.sound c.requires.left
    in
    let apart : c.args.value ≢ pos 0 = λ z. c.if-value-eq0.false (ap (of_z w128) z) in
    let one = fills_one (value_in l.cells.items c.args.row c.args.column) c.args.value none apart in
    let held = e.held in
    record {
      sound = e.sound;
      rows = e.rows;
      columns = e.columns;
      values = written_by (value_in l.cells.items) (value_in n.cells.items) c.args.row c.args.column c.args.value c.args.value e.values
          (omega (arith, ints, none));
      kept = λ r h b. before_kept l.cells.items n.cells.items r c.args.column h b (e.kept h b.live);
      fresh = e.fresh;
      held = omega arith;
    }
