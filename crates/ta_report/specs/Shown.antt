-- The line that `replay` prints.
use Rattle.std.specs.Prelude.{ℕ, List, ◌++◌, codes, decimal}
use Rattle.ta_replay.specs.declared.run.Shown.{Shown}

-- the line of a pattern that a run shows
abbrev pub shown_line : List ℕ → Shown → List ℕ
shown_line name shown =
    codes "pattern " ++ (name ++ (codes ": shown, " ++ (decimal shown.steps ++ (codes " steps, " ++ (decimal shown.marks ++ codes " marks\n")))))
