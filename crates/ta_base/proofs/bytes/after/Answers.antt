use Rattle.ta_base.proofs.Common.{Decides-eqb, strip_prefix_is}
use Rattle.ta_base.proofs.bytes.after.Goals as goal

pub returns : goal.returns
returns c = strip_prefix_is Decides-eqb c.args.bytes.now c.args.front.now c.strip_prefix.result c.strip_prefix.ensures.cases
