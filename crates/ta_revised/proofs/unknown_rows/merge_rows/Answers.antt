use Rattle.ta_revised.proofs.Common.{◌≡◌, arith, ap, refl, sym, ◌∙◌, length, get_or, set, subst, length-map, length-set, get_or-map, All-set, rest_more}
use Rattle.ta_revised.proofs.Common.{TableauRow, no_row, narrow_view, IsAfter, IsUnknownRow, unknown_row, unknown_rows}
use Rattle.std.proofs.lemmas.List.{map-set}
use Rattle.ta_revised.proofs.BasicLists.{listed_all, listed_more, listed_none, listed_set}
use Rattle.ta_revised.proofs.UnknownRowSteps.{after_more}
use Rattle.ta_revised.proofs.unknown_rows.merge_rows.Goals as goal

pub merge_row-requires-clause-row : goal.merge_row-requires-clause-row
merge_row-requires-clause-row c = c.loop-at.invariant.rows c.loop-at.at c.index-rows-at.result (omega arith)

pub loop-at-preserved : goal.loop-at-preserved
loop-at-preserved c =
    let inv = c.loop-at.invariant in
    let n = length c.args.chosen.now.cells in
    let column = c.args.column in
    let chosen = narrow_view c.args.chosen.now in
    let old = unknown_rows n c.args.rows.now in
    let at = c.loop-at.at in
    let x = c.index-rows-at.result in
    let new = c.merge_row.new.row in
    let rows = c.loop-at.rows in
    let l1 = length-map c.loop-at.rows (unknown_row (length c.args.chosen.now.cells)) in
    let read : unknown_row (length c.args.chosen.now.cells) (get_or c.loop-at.rows c.loop-at.at c.index-rows-at.result) ≡
    get_or (unknown_rows (length c.args.chosen.now.cells) c.args.rows.now) c.loop-at.at no_row =
    ap (unknown_row n) (inv.rest at x (omega arith)) ∙ sym (get_or-map (unknown_row n) c.args.rows.now at x no_row (omega arith)) in
    let P : TableauRow → Type 0 = λ r. IsAfter (length c.args.chosen.now.cells) c.args.column (narrow_view c.args.chosen.now) r
    (unknown_row (length c.args.chosen.now.cells) c.merge_row.new.row) in
    let merged = c.in_ok-merge_row.ensures in
    let after = subst P read (rw c.if-not-branch.false at merged.after) in
    record {
      done = rw (map-set (unknown_row n) rows at new) (after_more n column chosen old (unknown_rows n rows) at (unknown_row n new)
          (omega arith) after inv.done);
      rest = λ k d below. rest_more d c.args.rows.now rows at new (λ j low. inv.rest j d low) k below;
      rows = All-set (IsUnknownRow n) rows at new (rw c.if-not-branch.false at merged.row) inv.rows;
      basic = listed_more c.loop-at.basic.items c.list_basic.new.list.items (set rows at new) at _ c.index-rows-at-in-loop-at.result
          (omega (arith, length-set rows at new)) refl c.in_ok-list_basic.ensures (listed_set c.loop-at.basic.items rows at new inv.basic);
    }

pub loop-at-init : goal.loop-at-init
loop-at-init c = record {
  done = λ k h. absurd (omega arith);
  rest = λ k d h. refl;
  rows = c.requires.rows;
  basic = rw c.in_ok-basic.ensures.items (listed_none c.args.rows.now);
}

pub returns-clause-basic : goal.returns-clause-basic
returns-clause-basic c = listed_all c.loop-at.basic.items c.loop-at.rows c.loop-at.at (omega arith) c.loop-at.invariant.basic

pub returns-clause-after : goal.returns-clause-after
returns-clause-after c =
    let n = length c.args.chosen.now.cells in
    let l1 = length-map c.loop-at.rows (unknown_row n) in
    let l2 = length-map c.args.rows.now (unknown_row n) in
    record {
      count = omega arith;
      each = λ u h. c.loop-at.invariant.done u (omega arith);
    }
