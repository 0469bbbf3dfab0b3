use Rattle.ta_revised.proofs.Common.{◌<ℤ◌, ℕ, ap, pos, ◌∙◌, sym, rules, length, to_z-of_z, SFits, of_z, to_z, subst, w16, narrow_view, IsNarrow, TableauRow}
use Rattle.ta_revised.proofs.Common.{reduced, merged_by, cell_of, merged-zero, factors_positive}
use Rattle.ta_dense.proofs.ProperFacts.{Factored, factored, merged_from}
use Rattle.ta_revised.proofs.NarrowFacts.{narrow_merged_by, narrow_reduced, narrow_itself}
use Rattle.ta_revised.proofs.narrow_rows.merge_narrow.Goals.{After-narrow_factors-p, In_ok-merge_narrow_by}
use Rattle.ta_revised.proofs.narrow_rows.merge_narrow.Goals as goal

-- the two factors are those of the rows
ours : (c : After-narrow_factors-p) → Factored c.args.column (narrow_view c.args.chosen.now) (narrow_view c.args.row.now) c.narrow_factors-p.result.0
    c.narrow_factors-p.result.1
ours c =
    let f1 : SFits w16 c.at-a.result = search rules in
    let f2 : SFits w16 c.at.result = search rules in
    let fp : SFits w16 c.narrow_factors-p.result.0 = search rules in
    let fq : SFits w16 c.narrow_factors-p.result.1 = search rules in
    let e = simp to_z-of_z at c.narrow_factors-p.ensures in
    factored c.args.column (narrow_view c.args.chosen.now) (narrow_view c.args.row.now) c.at-a.result c.at.result c.narrow_factors-p.result.0
    c.narrow_factors-p.result.1
    c.at-a.ensures c.at.ensures
    (λ zero. c.if-a-eq0.false (ap (of_z w16) zero)) e.first e.second

-- the merged row is a narrow one
narrowed : (c : In_ok-merge_narrow_by) → Factored c.args.column (narrow_view c.args.chosen.now) (narrow_view c.args.row.now) c.narrow_factors-p.result.0
    c.narrow_factors-p.result.1 → IsNarrow (length c.args.chosen.now.cells) c.merge_narrow_by.new.row
narrowed c f =
    let fp : SFits w16 c.narrow_factors-p.result.0 = search rules in
    let fq : SFits w16 c.narrow_factors-p.result.1 = search rules in
    let m = simp to_z-of_z at c.in_ok-merge_narrow_by.ensures in
    let tested = simp to_z-of_z at c.if-not-fits.ensures in
    let row = subst (λ (n : ℕ). IsNarrow n c.fits.new.row) c.requires.row.proper.long tested.narrow in
    let positive : pos 0 <ℤ c.narrow_factors-p.result.0 = rw f.first
    (factors_positive (cell_of (narrow_view c.args.chosen.now) c.args.column) (cell_of (narrow_view c.args.row.now) c.args.column) c.requires.positive).1 in
    narrow_merged_by (length c.args.chosen.now.cells) c.args.column c.args.chosen.now c.fits.new.row c.merge_narrow_by.new.row c.narrow_factors-p.result.0
    c.narrow_factors-p.result.1 c.requires.column positive c.requires.chosen row tested.within m.value m.bound

pub reduce_narrow-requires : goal.reduce_narrow-requires
reduce_narrow-requires c =
    let places = goal.at.reduce_narrow-requires c in
    narrow_itself (length c.args.chosen.now.cells) c.merge_narrow_by.new.row (narrowed places.In_ok-merge_narrow_by (ours places.After-narrow_factors-p))

pub returns-clause-value : goal.returns-clause-value
returns-clause-value c =
    let places = goal.at.returns-clause-value c in
    let fp : SFits w16 c.narrow_factors-p.result.0 = search rules in
    let fq : SFits w16 c.narrow_factors-p.result.1 = search rules in
    let m = simp to_z-of_z at c.in_ok-merge_narrow_by.ensures in
    let p = c.narrow_factors-p.result.0 in
    let q = c.narrow_factors-p.result.1 in
    let chosen = narrow_view c.args.chosen.now in
    c.in_ok-reduce_narrow.ensures.value ∙ ap reduced (m.value ∙ ap (λ (r : TableauRow). merged_by p q c.args.column chosen r) c.if-not-fits.ensures.view)
    ∙ merged_from c.args.column chosen (narrow_view c.args.row.now) p q (ours places.After-narrow_factors-p)

pub returns-clause-narrow : goal.returns-clause-narrow
returns-clause-narrow c =
    let places = goal.at.returns-clause-narrow c in
    narrow_reduced (length c.args.chosen.now.cells) c.merge_narrow_by.new.row c.reduce_narrow.new.row
    (narrowed places.In_ok-merge_narrow_by (ours places.After-narrow_factors-p)) c.in_ok-reduce_narrow.ensures.value c.in_ok-reduce_narrow.ensures.bound

pub returns-then-a-eq0-clause-value : goal.returns-then-a-eq0-clause-value
returns-then-a-eq0-clause-value c =
    let f1 : SFits w16 c.at-a.result = search rules in
    let zero = sym (to_z-of_z w16 c.at-a.result f1) ∙ ap (to_z w16) c.if-a-eq0.true in
    sym (merged-zero c.args.column (narrow_view c.args.chosen.now) (narrow_view c.args.row.now) (sym c.at-a.ensures ∙ zero))
