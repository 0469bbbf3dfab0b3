use Rattle.ta_links.proofs.Common.{◌≡◌, ℤ, pos, ap, sym, ◌∙◌, to_z-of_z, value_in, written, of_z, w128, zero_from_bits}
use Rattle.ta_links.proofs.Writing.{removed_is, set_is, before_kept, before_apart}
use Rattle.ta_links.proofs.putting.rewrite.Goals as goal

pub returns-then-value-eq0 : goal.returns-then-value-eq0
returns-then-value-eq0 c =
    let l = c.args.links.now in
    let n = c.remove.new.links in
    let zero_ : c.args.value ≡ pos 0 = zero_from_bits c.args.value c.ranges.value c.if-value-eq0.true in
    record {
      sound = c.remove.ensures.sound;
      rows = c.remove.ensures.rows;
      columns = c.remove.ensures.columns;
      values = λ q p. removed_is l.cells.items l.row_heads.items l.column_heads.items l.free_head c.args.row c.args.column c.args.at c.requires.sound
          c.requires.at (value_in n.cells.items) c.remove.ensures.values q p
          ∙ ap (λ (z : ℤ). written (value_in l.cells.items) c.args.row c.args.column z q p) (sym zero_);
      kept = λ r h b. before_kept l.cells.items n.cells.items r c.args.column h b
          (c.remove.ensures.kept h b.live (before_apart l.cells.items c.args.row r c.args.column c.args.at h c.requires.at b));
      held = c.remove.ensures.held;
    }

pub returns : goal.returns
returns c =
    let f = c.ranges.value in
    let l = c.args.links.now in
    let n = c.set_value.new.links in
    let e = simp to_z-of_z at c.set_value.ensures in
    record {
      sound = e.sound;
      rows = e.rows;
      columns = e.columns;
      values = set_is l.cells.items l.row_heads.items l.column_heads.items l.free_head c.args.row c.args.column c.args.at c.args.value c.requires.sound
          c.requires.at (value_in n.cells.items) e.values;
      kept = λ r h b. before_kept l.cells.items n.cells.items r c.args.column h b (e.kept h b.live);
      held = e.held;
    }

pub set_value-requires-clause-value : goal.set_value-requires-clause-value
set_value-requires-clause-value c =
    let f = c.ranges.value in
    simp to_z-of_z (λ e. c.if-value-eq0.false (ap (of_z w128) e))
