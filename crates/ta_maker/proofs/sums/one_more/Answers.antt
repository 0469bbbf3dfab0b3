use Rattle.ta_maker.proofs.Naming.{name_n}
use Rattle.ta_maker.proofs.sums.one_more.Goals as goal

pub spelled-requires : goal.spelled-requires
spelled-requires c = name_n
