-- How many nodes a search begins.
use Rattle.std.specs.Prelude.{ℕ, ◌+◌, ◌*◌, ◌-◌, ◌^◌, ◌≤◌, min}
use Rattle.ta_walk.specs.declared.work.TheConstants.{MOST_FORKS}

-- a count rose, by at least so many and at most so many; it stands still at the end of its type
pub record Rose (old new low high : ℕ) : Type 0 where
  pub least : min (old + low) (2 ^ 64 - 1) ≤ new
  pub most : new ≤ old + high

-- how many nodes a search in parallel begins at most within a budget, over all forks and both passes, dropped parts included
abbrev pub most_begun : ℕ → ℕ
most_begun budget = (MOST_FORKS + 2) * budget
