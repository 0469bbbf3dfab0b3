use Rattle.ta_moment_tree.proofs.Common.{◌≡◌, ◌+◌, ◌*◌, drop, number_form, plus_form, place_form, SmallBy, form_of, vector_of}
use Rattle.ta_moments.specs.Forms.{terms_form}
use Rattle.ta_moment_tree.proofs.at.form_at.Given as goal

abbrev pub invariant-loop-place : goal.invariant-loop-place
invariant-loop-place l = record {
  rest : plus_form (form_of l.total)
      (terms_form (place_form l.plan.task.automaton.now l.plan.task.pattern.now (vector_of l.vector)) (drop l.place-index l.terms))
      ≡ plus_form (number_form l.constant) (terms_form (place_form l.plan.task.automaton.now l.plan.task.pattern.now (vector_of l.vector)) l.terms);
  small : SmallBy (1000000000 + l.place-index * (17000000000 * 3100 * 1000000000)) (form_of l.total);
}
