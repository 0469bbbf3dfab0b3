use Rattle.ta_encode.proofs.Common.{◌≡◌, length, AreOfRules}
use Rattle.ta_encode.proofs.line.coefficients_of_rules.Given as goal

abbrev pub invariant-loop-rule : goal.invariant-loop-rule
invariant-loop-rule l = record {
  of_rules : AreOfRules l.automaton l.line.terms.now l.line.less_starts l.line.sense l.coefficients.items;
  count : length l.coefficients.items ≡ l.rule;
}
