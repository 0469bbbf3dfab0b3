use Rattle.ta_maker.proofs.Naming.{name_family, name_n}
use Rattle.ta_maker.proofs.family.head.Goals as goal

pub numbered-requires : goal.numbered-requires
numbered-requires c = name_family c.args.k c.requires

pub spelled-requires : goal.spelled-requires
spelled-requires c = name_n
