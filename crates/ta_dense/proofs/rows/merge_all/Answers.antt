use Rattle.ta_dense.proofs.Common.{◌≡◌, ◌<◌, arith, ap, ◌∙◌, sym, refl, get_or, length, subst, below_more, set, length-map, map-set, get_or-map, done_more}
use Rattle.ta_dense.proofs.Common.{IsProper}
use Rattle.ta_dense.proofs.Common.{rest_more, row_view, views, merged, no_row, MergesInRange}
use Rattle.ta_dense.proofs.RowSteps.{rows_proper_more, rows_all}
use Rattle.ta_dense.proofs.rows.merge_all.Goals as goal

pub loop-at-preserved : goal.loop-at-preserved
loop-at-preserved c =
    let inv = c.loop-at.invariant in
    let chosen = row_view c.args.chosen.now in
    let old = views c.args.rows.now in
    let at = c.loop-at.at in
    let l1 = length-map c.loop-at.rows row_view in
    let l2 = length-map c.args.rows.now row_view in
    let read : row_view (get_or c.loop-at.rows c.loop-at.at c.index-rows-at.result) ≡ get_or (views c.args.rows.now) c.loop-at.at no_row =
    sym (get_or-map row_view c.loop-at.rows at c.index-rows-at.result no_row (omega arith)) ∙ inv.rest at (omega arith) in
    let value : row_view c.merge.new.row ≡ merged c.args.column (row_view c.args.chosen.now) (get_or (views c.args.rows.now) c.loop-at.at no_row) =
    c.if-not-merge.ensures.value ∙ ap (merged c.args.column chosen) read in
    let within = subst (MergesInRange c.args.column chosen) read (c.if-not-merge.ensures.within.0 refl) in
    let proper = c.if-not-merge.ensures.proper in
    let e = map-set row_view c.loop-at.rows c.loop-at.at c.merge.new.row in
    let length-views = length-map (set c.loop-at.rows c.loop-at.at c.merge.new.row) row_view in
    let length-e = ap length e in
    record {
      done = rw e (done_more (λ k. merged c.args.column chosen (get_or old k no_row)) no_row (views c.loop-at.rows) at (row_view c.merge.new.row) (omega arith)
          value inv.done);
      rest = rw e (rest_more no_row old (views c.loop-at.rows) at (row_view c.merge.new.row) inv.rest);
      in_range = below_more (λ k. k < length old → MergesInRange c.args.column chosen (get_or old k no_row)) at inv.in_range (λ h. within);
      proper = rw e (λ i h. rows_proper_more (length c.args.chosen.now.cells.items) (views c.loop-at.rows) at (row_view c.merge.new.row) proper
          (λ k below. inv.proper k (omega arith)) i (omega arith));
    }

pub returns-clause-value : goal.returns-clause-value
returns-clause-value c =
    let l1 = length-map c.loop-at.rows row_view in
    let l2 = length-map c.args.rows.now row_view in
    rows_all (merged c.args.column (row_view c.args.chosen.now)) (views c.args.rows.now) (views c.loop-at.rows) (length c.args.rows.now) l2 (omega arith)
    (λ k h. c.loop-at.invariant.done k (omega arith))

pub merge-requires-clause-row : goal.merge-requires-clause-row
merge-requires-clause-row c =
    let l = length-map c.loop-at.rows row_view in
    subst (IsProper (length c.args.chosen.now.cells.items)) (get_or-map row_view c.loop-at.rows c.loop-at.at c.index-rows-at.result no_row (omega arith))
    (c.loop-at.invariant.proper c.loop-at.at (omega arith))

pub returns-then-not-merge-clause-refused : goal.returns-then-not-merge-clause-refused
returns-then-not-merge-clause-refused c =
    let l1 = length-map c.loop-at.rows row_view in
    let l2 = length-map c.args.rows.now row_view in
    let read : row_view (get_or c.loop-at.rows c.loop-at.at c.index-rows-at.result) ≡ get_or (views c.args.rows.now) c.loop-at.at no_row =
    sym (get_or-map row_view c.loop-at.rows c.loop-at.at c.index-rows-at.result no_row (omega arith)) ∙ c.loop-at.invariant.rest c.loop-at.at (omega arith) in
    record {
      below = omega arith;
      refused = λ m. let t = c.if-not-merge.ensures.within.1 (subst (MergesInRange c.args.column (row_view c.args.chosen.now)) (sym read) m) in cc;
      first = c.loop-at.invariant.in_range;
    }
