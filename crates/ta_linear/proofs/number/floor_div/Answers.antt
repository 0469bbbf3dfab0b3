use Rattle.ta_linear.proofs.Common.{arith, to_z-of_z, floor_high, floor_low}
use Rattle.ta_linear.proofs.Floor.{floor_fits}
use Rattle.ta_linear.proofs.number.floor_div.Goals as goal

pub returns-clause-low : goal.returns-clause-low
returns-clause-low c = grind (arith, to_z-of_z, floor_low, c.div_euclid.ensures)

pub returns-clause-high : goal.returns-clause-high
returns-clause-high c = grind (arith, to_z-of_z, floor_high, c.div_euclid.ensures)

pub returns-clause-fits : goal.returns-clause-fits
returns-clause-fits c = grind (arith, to_z-of_z, floor_fits, c.div_euclid.ensures)
