use Rattle.ta_maker.proofs.Naming.{name_A, name_B}
use Rattle.ta_maker.proofs.family.locations.Goals as goal

pub spelled-requires : goal.spelled-requires
spelled-requires c = name_A

pub spelled-requires-2 : goal.spelled-requires-2
spelled-requires-2 c = name_B
