use Rattle.ta_moment_tree.proofs.Common.{◌≡◌, drop, plus_form, SmallBy, form_of, vector_of}
use Rattle.ta_moments.specs.Forms.{sum_form}
use Rattle.ta_moment_tree.proofs.uses.less_one.Given as goal

abbrev pub invariant-loop-rule : goal.invariant-loop-rule
invariant-loop-rule l = record {
  rest : plus_form (form_of l.total) (sum_form (vector_of l.step) (drop l.rule-index l.rules)) ≡ sum_form (vector_of l.step) l.rules;
  small : SmallBy l.rule-index (form_of l.total);
}
