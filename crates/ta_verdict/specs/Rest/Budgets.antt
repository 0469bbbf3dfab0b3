-- What may be spent on a pattern whose runs are to come to rest.
use Rattle.std.specs.Prelude.{ℕ, Bool, true, false, List, []}
use Rattle.ta_verdict.specs.declared.budget.Budget.{Budget}

-- how many nodes of its tree are visited at most, which tree it is, and the silent places, which do not count for rest; a tree of schemas
-- has none
pub record RestBudget : Type 0 where
  pub nodes : ℕ
  pub lazy : Bool
  pub silent : List ℕ

abbrev pub resting : Budget → List ℕ → RestBudget
resting budget silent = record { nodes = budget.nodes; lazy = budget.lazy; silent = silent }

-- this many nodes of schemas
abbrev pub words_within : ℕ → RestBudget
words_within nodes = record { nodes = nodes; lazy = false; silent = [] }

-- this many nodes of moments, where these places are silent
abbrev pub moments_within : ℕ → List ℕ → RestBudget
moments_within nodes silent = record { nodes = nodes; lazy = true; silent = silent }
