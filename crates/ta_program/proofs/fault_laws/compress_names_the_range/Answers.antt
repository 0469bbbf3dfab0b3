use Rattle.ta_program.proofs.RangeNamed.{range_named}
use Rattle.ta_program.proofs.fault_laws.compress_names_the_range.Goals as goal

pub returns : goal.returns
returns c = range_named c.meanings_are_unique.ensures.first_faults
