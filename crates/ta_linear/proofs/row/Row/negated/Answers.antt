use Rattle.std.proofs.Common.{rules}
use Rattle.ta_linear.proofs.TermLemmas.{negative_stays}
use Rattle.ta_linear.proofs.row.Row.negated.Goals as goal

pub returns-in_err-negative-clause-overflow : goal.returns-in_err-negative-clause-overflow
returns-in_err-negative-clause-overflow c = λ is _. negative_stays c.args.self.now.form (c.in_err-negative.ensures.overflow (search rules))
