use Rattle.ta_walk.proofs.Common.{◌≡◌, drop, Some, list_all, is_known_natural, known_value, forms_of}
use Rattle.ta_walk.specs.Values.{values_of}
use Rattle.ta_walk.proofs.scaling.rows_met.Given as goal

abbrev pub invariant-loop-row : goal.invariant-loop-row
invariant-loop-row l =
    list_all (λ f. is_known_natural (known_value (values_of (Some l.vertex)) f)) (forms_of l.rows)
    ≡ list_all (λ f. is_known_natural (known_value (values_of (Some l.vertex)) f)) (forms_of (drop l.row-index l.rows))
