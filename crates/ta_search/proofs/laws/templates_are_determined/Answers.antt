use Rattle.ta_search.proofs.OneFault.{one_template}
use Rattle.ta_search.proofs.laws.templates_are_determined.Goals as goal

pub returns : goal.returns
returns c = one_template
