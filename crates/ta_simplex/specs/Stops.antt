-- Where the least-index rule stops.
use Rattle.std.specs.Prelude.{ℕ, Option, Some, None}
use Rattle.ta_dense.specs.Tableau.{Tableau}
use Rattle.ta_simplex.specs.LeastIndex.{NoneLeaves, Stuck}

-- no variable leaves, or a row's leaves and none can enter
abbrev pub RuleStopsAt : Tableau → Option ℕ → Type 0
RuleStopsAt t None = NoneLeaves t
RuleStopsAt t (Some row) = Stuck t row
