use Rattle.ta_syntax.proofs.Steps.{not_sign}
use Rattle.ta_syntax.proofs.reading.next_sign.Goals as goal

pub returns-in-None : goal.returns-in-None
returns-in-None c = not_sign c.args.tokens.now c.in_default.ensures c.in-None.ensures
