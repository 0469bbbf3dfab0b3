-- Rows that are written after others.
use Rattle.std.specs.Prelude.{ℕ, pos, ◌≡◌, List, [], ◌∷◌, ◌++◌, map, slice_get}
use Rattle.ta_linear.specs.declared.row.Row.{Row}
use Rattle.ta_automaton.specs.declared.automaton.Automaton.{Automaton}
use Rattle.ta_automaton.specs.declared.pattern.Pattern.{Pattern}
use Rattle.ta_moments.specs.Forms.{UnknownForm, minus_form, negated_form, number_form, opposite_form, sum_form}
use Rattle.ta_moments.specs.Moments.{Vector, below, counters_at, guard_at, guards}
use Rattle.ta_moment_tree.specs.Forms.{forms_of}

-- rows of these forms stand after those that were there
pub record AddsForms (forms : List UnknownForm) (before after : List Row) : Type 0 where
  pub more : List Row
  pub is : after ≡ before ++ more
  pub are : forms_of more ≡ forms

-- the rows of a last use, from the vectors of the end, before the step, of the step and after it, for the rules that need the guard
abbrev pub last_rows : Automaton → Pattern → ℕ → Vector → Vector → Vector → Vector → ℕ → List ℕ → List UnknownForm
last_rows a p n end before step after g rules =
    counters_at a p before
    ++ (map before rules
    ++ (guard_at a p before (slice_get (guards a) g)
    ++ ((minus_form (sum_form step rules) (number_form (pos 1)) ∷ opposite_form (minus_form (sum_form step rules) (number_form (pos 1))) ∷ [])
    ++ (counters_at a p after
    ++ (below a p n after end
    ++ map negated_form (guard_at a p end (slice_get (guards a) g)))))))
