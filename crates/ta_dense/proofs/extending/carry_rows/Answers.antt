use Rattle.ta_dense.proofs.Common.{◌≡◌, ℕ, List, arith, sym, ◌∙◌, ap, subst, length, map, below_more, get_or_default, length-map, TableauRow, merged, row_view}
use Rattle.ta_dense.proofs.Common.{views, AreProper, RowsMergeBelow, KeptPivot, kept_at, no_pivot, chosen_row, carried}
use Rattle.ta_dense.proofs.Common.{◌-◌, ◌<ℤ◌, pos, ℤ, replicate, cell_of, get_or_append_left, FirstRefused, IsProper}
use Rattle.ta_dense.proofs.ExtendFacts.{carried_more}
use Rattle.ta_dense.proofs.extending.carry_rows.Goals as goal

pub loop-pivot-preserved : goal.loop-pivot-preserved
loop-pivot-preserved c =
    let inv = c.loop-pivot.invariant in
    let ks = c.args.kept.now in
    let j = c.loop-pivot.pivot in
    let n = c.args.columns in
    let rows = views c.loop-pivot.rows in
    let old = views c.args.rows.now in
    let inside = c.loop-pivot-test.true in
    let at : c.index-kept-pivot.result ≡ kept_at c.args.kept.now c.loop-pivot.pivot = c.index-kept-pivot.is
    ∙ get_or_default ks j c.index-kept-pivot.result no_pivot inside in
    let at_column : c.index-kept-pivot-in-loop-pivot.result ≡ kept_at c.args.kept.now c.loop-pivot.pivot = c.index-kept-pivot-in-loop-pivot.is
    ∙ get_or_default ks j c.index-kept-pivot-in-loop-pivot.result no_pivot inside in
    let k = kept_at ks j in
    let chosen = c.in_ok-chosen.ensures.value ∙ ap (chosen_row n) at in
    let column = c.column.ensures ∙ ap (λ (p : KeptPivot). p.column) at_column in
    let l1 = length-map c.loop-pivot.rows row_view in
    let l2 = length-map c.args.rows.now row_view in
    let long : length c.loop-pivot.rows ≡ length (views c.args.rows.now) = omega arith in
    let within = subst (λ (m : ℕ). RowsMergeBelow k.column (chosen_row n k) (carried n ks j old) m) long
    (subst (λ (xs : List TableauRow). RowsMergeBelow k.column (chosen_row n k) xs (length c.loop-pivot.rows)) inv.value
    (subst (λ (r : TableauRow). RowsMergeBelow k.column r rows (length c.loop-pivot.rows)) chosen
    (subst (λ (m : ℕ). RowsMergeBelow m (row_view c.in_ok-chosen.chosen) rows (length c.loop-pivot.rows)) column c.in_default.ensures.in_range))) in
    record {
      value = c.in_default.ensures.value ∙ ap (λ (m : ℕ). map (merged m (row_view c.in_ok-chosen.chosen)) rows) column
          ∙ ap (λ (r : TableauRow). map (merged k.column r) rows) chosen ∙ ap (map (merged k.column (chosen_row n k))) inv.value
          ∙ sym (carried_more n j ks old);
      within = below_more (λ i. RowsMergeBelow (kept_at ks i).column (chosen_row n (kept_at ks i)) (carried n ks i old) (length old)) j inv.within within;
      proper = subst (λ (m : ℕ). AreProper m c.merge_all.new.rows) c.in_ok-chosen.ensures.proper.long c.in_default.ensures.proper;
    }

pub merge_all-requires-clause-chosen : goal.merge_all-requires-clause-chosen
merge_all-requires-clause-chosen c =
    subst (λ (m : ℕ). IsProper m (row_view c.in_ok-chosen.chosen)) (sym c.in_ok-chosen.ensures.proper.long) c.in_ok-chosen.ensures.proper

pub merge_all-requires-clause-rows : goal.merge_all-requires-clause-rows
merge_all-requires-clause-rows c =
    subst (λ (m : ℕ). AreProper m c.loop-pivot.rows) (sym c.in_ok-chosen.ensures.proper.long) c.loop-pivot.invariant.proper

pub returns-in-Some-clause-before : goal.returns-in-Some-clause-before
returns-in-Some-clause-before c = c.loop-pivot.invariant.within

pub returns-in-Some-clause-refused : goal.returns-in-Some-clause-refused
returns-in-Some-clause-refused c =
    let ks = c.args.kept.now in
    let j = c.loop-pivot.pivot in
    let n = c.args.columns in
    let inside = c.loop-pivot-test.true in
    let at : c.index-kept-pivot.result ≡ kept_at c.args.kept.now c.loop-pivot.pivot = c.index-kept-pivot.is
    ∙ get_or_default ks j c.index-kept-pivot.result no_pivot inside in
    let at_column : c.index-kept-pivot-in-loop-pivot.result ≡ kept_at c.args.kept.now c.loop-pivot.pivot = c.index-kept-pivot-in-loop-pivot.is
    ∙ get_or_default ks j c.index-kept-pivot-in-loop-pivot.result no_pivot inside in
    let k = kept_at ks j in
    let chosen = c.in_ok-chosen.ensures.value ∙ ap (chosen_row n) at in
    let column = c.column.ensures ∙ ap (λ (p : KeptPivot). p.column) at_column in
    let rows = views c.loop-pivot.rows in
    subst (λ (xs : List TableauRow). FirstRefused k.column (chosen_row n k) xs c.in-Some.row) c.loop-pivot.invariant.value
    (subst (λ (r : TableauRow). FirstRefused k.column r rows c.in-Some.row) chosen
    (subst (λ (m : ℕ). FirstRefused m (row_view c.in_ok-chosen.chosen) rows c.in-Some.row) column c.in-Some.ensures.refused))

pub merge_all-requires-clause-column : goal.merge_all-requires-clause-column
merge_all-requires-clause-column c =
    let ks = c.args.kept.now in
    let j = c.loop-pivot.pivot in
    let inside = c.loop-pivot-test.true in
    let at_column : c.index-kept-pivot-in-loop-pivot.result ≡ kept_at c.args.kept.now c.loop-pivot.pivot = c.index-kept-pivot-in-loop-pivot.is
    ∙ get_or_default ks j c.index-kept-pivot-in-loop-pivot.result no_pivot inside in
    let column = c.column.ensures ∙ ap (λ (p : KeptPivot). p.column) at_column in
    let own = c.requires.kept c.loop-pivot.pivot c.loop-pivot-test.true in
    let low = own.column in
    let high = own.long in
    let long = c.in_ok-chosen.ensures.proper.long in
    omega arith

pub merge_all-requires-clause-positive : goal.merge_all-requires-clause-positive
merge_all-requires-clause-positive c =
    let ks = c.args.kept.now in
    let j = c.loop-pivot.pivot in
    let inside = c.loop-pivot-test.true in
    let at_column : c.index-kept-pivot-in-loop-pivot.result ≡ kept_at c.args.kept.now c.loop-pivot.pivot = c.index-kept-pivot-in-loop-pivot.is
    ∙ get_or_default ks j c.index-kept-pivot-in-loop-pivot.result no_pivot inside in
    let column = c.column.ensures ∙ ap (λ (p : KeptPivot). p.column) at_column in
    let own = c.requires.kept c.loop-pivot.pivot c.loop-pivot-test.true in
    let low = own.column in
    let n = c.args.columns in
    let at : c.index-kept-pivot.result ≡ kept_at c.args.kept.now c.loop-pivot.pivot = c.index-kept-pivot.is
    ∙ get_or_default ks j c.index-kept-pivot.result no_pivot inside in
    let k = kept_at ks j in
    let chosen = c.in_ok-chosen.ensures.value ∙ ap (chosen_row n) at in
    let left = get_or_append_left k.cells (replicate (n - length k.cells) (pos 0)) (pos 0) k.column low in
    let there = subst (λ (z : ℤ). pos 0 <ℤ z) (sym left) own.positive in
    subst (λ (r : TableauRow). pos 0 <ℤ cell_of r c.column.result) (sym chosen)
    (subst (λ (m : ℕ). pos 0 <ℤ cell_of (chosen_row n k) m) (sym column) there)
