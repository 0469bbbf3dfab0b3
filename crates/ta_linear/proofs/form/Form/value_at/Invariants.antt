use Rattle.ta_linear.proofs.Common.{drop, length, point_of}
use Rattle.ta_linear.proofs.SumLemmas.{Summing}
use Rattle.ta_linear.proofs.form.Form.value_at.Given as goal

abbrev pub invariant-loop-variable : goal.invariant-loop-variable
invariant-loop-variable l =
    Summing (point_of l.values) (length l.values) l.self.constant l.self.terms l.sum (drop l.variable-index l.variable-items)
