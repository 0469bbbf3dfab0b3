use Rattle.ta_links.proofs.Common.{rules, to_z-of_z, SFits, w128}
use Rattle.ta_links.proofs.merging_rows.merged_head.Goals as goal

pub returns-clause-some : goal.returns-clause-some
returns-clause-some c =
    let fp = c.ranges.p in
    let fq = c.ranges.q in
    let fh : SFits w128 c.args.head.denominator = search rules in
    let fk : SFits w128 c.args.head.constant = search rules in
    let fc : SFits w128 c.args.chosen.denominator = search rules in
    let fl : SFits w128 c.args.chosen.constant = search rules in
    let f1 : SFits w128 c.in-Some.denominator = search rules in
    let f2 : SFits w128 c.in-Some-combined.constant = search rules in
    let f3 : SFits w128 c.in-Some-multiply.turned = search rules in
    let d = simp to_z-of_z at c.in-Some.ensures in
    let k = simp to_z-of_z at c.in-Some-combined.ensures in
    let t = simp to_z-of_z at c.in-Some-multiply.ensures in
    simp to_z-of_z (record {
      within = record { denominator = d.0; constant = k.0; turned = t.0 };
      denominator = d.1;
      constant = k.1;
      turned = t.1;
    })
