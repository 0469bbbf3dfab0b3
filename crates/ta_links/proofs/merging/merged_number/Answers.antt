use Rattle.ta_links.proofs.Common.{rules, to_z-of_z, SFits, w128, value_in}
use Rattle.ta_links.proofs.MergeSteps.{merged_told}
use Rattle.ta_links.proofs.merging.merged_number.Goals as goal

pub returns : goal.returns
returns c =
    let fp : SFits w128 c.args.merge.p = search rules in
    let fq : SFits w128 c.args.merge.q = search rules in
    let fn : SFits w128 c.number_behind-number_at.result = search rules in
    let fc : SFits w128 c.number_behind-chosen_at.result = search rules in
    let t = merged_told c.combined.result c.args.merge.p c.args.merge.q c.args.merge.column c.args.merge.turned
    (value_in c.args.links.now.cells.items c.args.merge.at) (value_in c.args.links.now.cells.items c.args.merge.row) c.args.place
    c.number_behind-number_at.result c.number_behind-chosen_at.result c.number_behind-number_at.ensures.value c.number_behind-chosen_at.ensures.value
    c.if-place-merge.false (simp to_z-of_z at c.combined.ensures) in
    record { value = t.value; fits = t.fits; within = t.within; refused = t.refused }
