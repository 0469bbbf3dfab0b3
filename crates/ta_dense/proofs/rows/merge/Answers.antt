use Rattle.ta_dense.proofs.Common.{◌≡◌, arith, ap, ◌∙◌, sym, refl, pos, rules, length, subst, true, false, to_z-of_z, get_or_read, SFits, of_z, w128, row_view}
use Rattle.ta_dense.proofs.Common.{TableauRow, merged_by, reduced, IsProper, MergesByInRange, zero_from_bits}
use Rattle.ta_dense.proofs.ProperFacts.{Factored, factored, merged_from, IsProper-reduced, IsProper-merged_by, IsProper-self, merged-zero}
use Rattle.ta_dense.proofs.rows.merge.Goals as goal
use Rattle.ta_dense.proofs.rows.merge.Goals.{After-factors-p}

-- the two factors are those of the rows, and the first is positive
ours : (c : After-factors-p) → Factored c.args.column (row_view c.args.chosen.now) (row_view c.args.row.now) c.factors-p.result.0 c.factors-p.result.1
ours c =
    let f1 : SFits w128 c.index-a.result.now = search rules in
    let f2 : SFits w128 c.index.result.now = search rules in
    let fp : SFits w128 c.factors-p.result.0 = search rules in
    let fq : SFits w128 c.factors-p.result.1 = search rules in
    let e = simp to_z-of_z at c.factors-p.ensures in
    factored c.args.column (row_view c.args.chosen.now) (row_view c.args.row.now) c.index-a.result.now c.index.result.now c.factors-p.result.0
    c.factors-p.result.1
    (get_or_read c.args.row.now.cells.items c.args.column c.index-a.result.now (omega arith) c.index-a.ensures (pos 0))
    (get_or_read c.args.chosen.now.cells.items c.args.column c.index.result.now (omega arith) c.index.ensures (pos 0))
    (λ zero. c.if-a-eq0.false (ap (of_z w128) zero)) e.first e.second

-- a row that is merged by them is proper
proper : (c : After-factors-p) → MergesByInRange c.factors-p.result.0 c.factors-p.result.1 c.args.column (row_view c.args.chosen.now) (row_view c.args.row.now)
    → IsProper (length c.args.chosen.now.cells.items)
    (merged_by c.factors-p.result.0 c.factors-p.result.1 c.args.column (row_view c.args.chosen.now) (row_view c.args.row.now))
proper c within =
    let f1 : SFits w128 c.index-a.result.now = search rules in
    let f2 : SFits w128 c.index.result.now = search rules in
    let fp : SFits w128 c.factors-p.result.0 = search rules in
    let fq : SFits w128 c.factors-p.result.1 = search rules in
    let e = simp to_z-of_z at c.factors-p.ensures in
    IsProper-merged_by (length c.args.chosen.now.cells.items) c.factors-p.result.0 c.factors-p.result.1 c.args.column (row_view c.args.chosen.now)
    (row_view c.args.row.now) c.requires.column e.positive c.requires.chosen c.requires.row within

pub returns : goal.returns
returns c =
    let at = (goal.at.returns c).After-factors-p in
    let fp : SFits w128 c.factors-p.result.0 = search rules in
    let fq : SFits w128 c.factors-p.result.1 = search rules in
    let f = ours at in
    let m = simp to_z-of_z at c.if-not-merge_by.ensures in
    let within = m.within.0 refl in
    let value = c.reduce.ensures ∙ ap reduced m.value in
    let P : TableauRow → Type 0 = IsProper (length c.args.chosen.now.cells.items) in
    record {
      within = (λ t apart. rw (← f.first, ← f.second) within, λ h. refl);
      value = value ∙ merged_from c.args.column (row_view c.args.chosen.now) (row_view c.args.row.now) c.factors-p.result.0 c.factors-p.result.1 f;
      proper = subst P (sym value) (IsProper-reduced (length c.args.chosen.now.cells.items)
          (merged_by c.factors-p.result.0 c.factors-p.result.1 c.args.column (row_view c.args.chosen.now) (row_view c.args.row.now)) (proper at within));
    }

pub reduce-requires : goal.reduce-requires
reduce-requires c =
    let fp : SFits w128 c.factors-p.result.0 = search rules in
    let fq : SFits w128 c.factors-p.result.1 = search rules in
    let m = simp to_z-of_z at c.if-not-merge_by.ensures in
    let P : TableauRow → Type 0 = λ r. IsProper (length r.cells) r in
    subst P (sym m.value) (IsProper-self (length c.args.chosen.now.cells.items)
    (merged_by c.factors-p.result.0 c.factors-p.result.1 c.args.column (row_view c.args.chosen.now) (row_view c.args.row.now))
    (proper (goal.at.reduce-requires c).After-factors-p (m.within.0 refl)))

pub returns-then-not-merge_by-clause-within : goal.returns-then-not-merge_by-clause-within
returns-then-not-merge_by-clause-within c =
    let fp : SFits w128 c.factors-p.result.0 = search rules in
    let fq : SFits w128 c.factors-p.result.1 = search rules in
    let f = ours (goal.at.returns-then-not-merge_by-clause-within c).After-factors-p in
    let m = simp to_z-of_z at c.if-not-merge_by.ensures in
    (λ t. absurd (let k : false ≡ true = t in cc), λ all. m.within.1 (rw (f.first, f.second) (all f.apart)))

pub returns-then-a-eq0 : goal.returns-then-a-eq0
returns-then-a-eq0 c =
    let f1 : SFits w128 c.index-a.result.now = search rules in
    let e = get_or_read c.args.row.now.cells.items c.args.column c.index-a.result.now (omega arith) c.index-a.ensures (pos 0) in
    let zero = sym e ∙ zero_from_bits c.index-a.result.now f1 c.if-a-eq0.true in
    record {
      within = (λ t apart. absurd (apart zero), λ h. refl);
      value = sym (merged-zero c.args.column (row_view c.args.chosen.now) (row_view c.args.row.now) zero);
      proper = search rules;
    }
