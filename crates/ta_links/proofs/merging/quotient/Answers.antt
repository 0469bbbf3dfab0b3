use Rattle.ta_links.proofs.Common.{int_div, to_z-of_z, quot_fits, SFits, w128}
use Rattle.ta_links.proofs.MergeSteps.{quotient_fits}
use Rattle.ta_links.proofs.merging.quotient.Goals as goal

pub returns-clause-fits : goal.returns-clause-fits
returns-clause-fits c =
    let fn = c.ranges.number in
    let fd = c.ranges.divisor in
    let fq : SFits w128 (int_div c.args.number c.args.divisor) = quot_fits w128 c.args.number c.args.divisor fn c.requires.divisor in
    simp to_z-of_z (quotient_fits c.args.number c.args.divisor c.requires.divisor c.requires.number)
