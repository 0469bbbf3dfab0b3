use Rattle.ta_walk.proofs.Common.{◌≡◌, drop, option_copied, list_all, known_value}
use Rattle.ta_moments.specs.Questions.{counts_natural}
use Rattle.ta_moment_tree.specs.Forms.{all_forms}
use Rattle.ta_walk.specs.Values.{values_of}
use Rattle.ta_walk.proofs.asked_next.all_natural.Given as goal

abbrev pub invariant-loop-row : goal.invariant-loop-row
invariant-loop-row l =
    list_all (λ f. counts_natural (known_value (values_of (option_copied l.vertex)) f)) (all_forms l.rows)
    ≡ list_all (λ f. counts_natural (known_value (values_of (option_copied l.vertex)) f)) (all_forms (drop l.row-index l.rows))
