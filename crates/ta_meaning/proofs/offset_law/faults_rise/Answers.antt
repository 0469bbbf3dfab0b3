use Rattle.ta_meaning.proofs.TextInOrder.{faults-rise, faults-kinds, faults-tokens, first-least}
use Rattle.ta_meaning.proofs.offset_law.faults_rise.Goals as goal

pub returns-clause-rise : goal.returns-clause-rise
returns-clause-rise c = faults-rise

pub returns-clause-least : goal.returns-clause-least
returns-clause-least c = first-least

pub returns-clause-kinds : goal.returns-clause-kinds
returns-clause-kinds c = faults-kinds

pub returns-clause-tokens : goal.returns-clause-tokens
returns-clause-tokens c = faults-tokens
