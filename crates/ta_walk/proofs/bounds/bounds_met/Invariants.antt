use Rattle.ta_walk.proofs.Common.{◌≡◌, drop, Some, list_all, is_known_natural, known_value, bound_forms}
use Rattle.ta_walk.specs.Values.{values_of}
use Rattle.ta_walk.proofs.bounds.bounds_met.Given as goal

abbrev pub invariant-loop-bound : goal.invariant-loop-bound
invariant-loop-bound l =
    list_all (λ f. is_known_natural (known_value (values_of (Some l.vertex)) f)) (bound_forms l.bounds)
    ≡ list_all (λ f. is_known_natural (known_value (values_of (Some l.vertex)) f)) (bound_forms (drop l.bound-index l.bounds))
