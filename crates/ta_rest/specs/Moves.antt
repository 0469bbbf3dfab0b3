-- A bound on the number of steps between locations in a run.
use Rattle.std.specs.Prelude.{ℕ, pos, ◌+◌, ◌-◌, ◌*ℤ◌, ◌≤ℤ◌, ◌==◌, Bool, false, not, if◌then◌else◌, List, [], ◌∷◌, length, slice_get, Option, Some, None}
use Rattle.ta_linear.specs.Values.{value_of}
use Rattle.ta_automaton.specs.declared.rule.Rule.{Rule}
use Rattle.ta_automaton.specs.declared.automaton.Automaton.{Automaton}
use Rattle.ta_automaton.specs.Runs.{Config, Run, number_at}
use Rattle.ta_scope.specs.LongerCycles.{LoopsAlone}

-- whether a rule leads from one location to another
abbrev pub is_move : Option Rule → Bool
is_move None = false
is_move (Some rule) = not (rule.from == rule.to)

-- how many of some steps are of such rules
unfoldable pub moves_count : Automaton → List ℕ → ℕ
moves_count a [] = 0
moves_count a (r ∷ rules) = (if is_move (slice_get a.rules r) then 1 else 0) + moves_count a rules

-- every run, of any length, has at most as many steps of rules other than self-loops as the number of processes times one less than the
-- number of locations
abbrev pub FewMoves : Automaton → Type 0
FewMoves a =
    (first : Config) (rules : List ℕ) (later : List Config) → Run a first rules later
    → pos (moves_count a rules) ≤ℤ (value_of (number_at first.parameters) a.processes *ℤ pos (length a.locations - 1))

-- this holds if every cycle of rules is a self-loop
abbrev pub MovesAreBounded : Type 0
MovesAreBounded = (a : Automaton) → LoopsAlone a → FewMoves a
