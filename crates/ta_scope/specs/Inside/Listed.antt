-- The steps from a location, as far as the rules have been listed.
use Rattle.std.specs.Prelude.{ℕ, ℤ, List, map, filter}
use Rattle.ta_automaton.specs.declared.automaton.Automaton.{Automaton}
use Rattle.std.specs.List.{range_with_len}
use Rattle.ta_scope.specs.Arranged.{count_at, is_step_from}

-- of the first n rules those that leave a location and have a count above 0, each with its count
abbrev pub steps_from : Automaton → List ℤ → ℕ → ℕ → List (ℕ × ℤ)
steps_from a counts l n = map (λ r. (r, count_at counts r)) (filter (is_step_from a counts l) (range_with_len 0 n))
