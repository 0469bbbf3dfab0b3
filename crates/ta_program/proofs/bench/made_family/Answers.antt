use Rattle.ta_program.proofs.Benching.{made_memory}
use Rattle.ta_program.proofs.bench.made_family.Goals as goal

pub maker_memory-requires : goal.maker_memory-requires
maker_memory-requires c = made_memory c.args.k c.in-Err.fault c.requires c.in-Err.ensures
