use Rattle.ta_walk.proofs.Common.{◌≡◌, drop, option_copied, list_any, counts_positive, known_value, vector_of}
use Rattle.ta_walk.specs.Values.{values_of}
use Rattle.ta_walk.proofs.asked_next.is_needed.Given as goal

abbrev pub invariant-loop-rule : goal.invariant-loop-rule
invariant-loop-rule l =
    list_any (λ r. counts_positive (known_value (values_of (option_copied l.vertex)) (vector_of l.end r))) l.needing
    ≡ list_any (λ r. counts_positive (known_value (values_of (option_copied l.vertex)) (vector_of l.end r))) (drop l.rule-index l.needing)
