use Rattle.ta_moment_tree.proofs.Common.{◌≡◌, ◌+◌, ◌*◌, drop, slice_get, rule_change, plus_form, times_form, start_form, SmallBy, form_of, vector_of}
use Rattle.ta_moments.specs.Forms.{sum_form}
use Rattle.ta_moment_tree.proofs.at.place_form.Given as goal

abbrev pub invariant-loop-rule : goal.invariant-loop-rule
invariant-loop-rule l = record {
  rest : plus_form (form_of l.total)
      (sum_form (λ r. times_form (rule_change l.plan.task.automaton.now (slice_get l.plan.task.automaton.now.rules r) l.place) (vector_of l.vector r))
      (drop l.rule-index l.rule-items))
      ≡ plus_form (start_form l.plan.task.automaton.now l.plan.task.pattern.now l.place)
      (sum_form (λ r. times_form (rule_change l.plan.task.automaton.now (slice_get l.plan.task.automaton.now.rules r) l.place) (vector_of l.vector r))
      l.rule-items);
  small : SmallBy (17000000000 + l.rule-index * 51000000000) (form_of l.total);
}
