use Rattle.ta_maker.proofs.Naming.{name_lost}
use Rattle.ta_maker.proofs.family.events.Goals as goal

pub spelled-requires : goal.spelled-requires
spelled-requires c = name_lost
