use Rattle.ta_maker.proofs.Naming.{name_s, name_x}
use Rattle.ta_maker.proofs.family.sender.Goals as goal

pub numbered-requires : goal.numbered-requires
numbered-requires c = name_x c.args.index c.requires

pub rule_of-requires-clause-name : goal.rule_of-requires-clause-name
rule_of-requires-clause-name c = name_s c.args.index c.requires
