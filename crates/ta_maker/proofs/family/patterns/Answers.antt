use Rattle.ta_maker.proofs.Naming.{name_lost}
use Rattle.ta_maker.proofs.family.patterns.Goals as goal

pub spelled-requires : goal.spelled-requires
spelled-requires c = name_lost
