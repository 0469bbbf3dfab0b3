use Rattle.ta_moment_tree.proofs.Vectors.{moment_got}
use Rattle.ta_moment_tree.proofs.moment.get_moment.Goals as goal

pub returns : goal.returns
returns c = moment_got c.get.result c.args.moments.now c.args.number c.get.ensures.lookup.1 c.get.ensures.lookup.3
