use Rattle.ta_compress.proofs.Drafting.{begun}
use Rattle.ta_compress.proofs.compressing.begin.Goals as goal

pub returns-clause-begun : goal.returns-clause-begun
returns-clause-begun c = begun c.args.file.now.automaton c.args.run.now _ c.in_ok-config.ensures.starts c.in_ok-config.ensures.is_of c.in-Ok.ensures
    c.in_ok-counts.ensures c.new.ensures.items
