use Rattle.ta_maker.proofs.Naming.{name_n}
use Rattle.ta_maker.proofs.family.resilience_of.Goals as goal

pub spelled-requires : goal.spelled-requires
spelled-requires c = name_n
