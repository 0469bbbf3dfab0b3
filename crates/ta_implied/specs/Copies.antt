-- Rows with copies of others after them.
use Rattle.std.specs.Prelude.{◌≡◌, List, ◌++◌, flat_map}
use Rattle.ta_linear.specs.declared.row.Row.{Row}
use Rattle.ta_automaton.specs.declared.condition.Comparison.{Comparison}
use Rattle.ta_implied.specs.Implied.{AreCopies}

-- the rows of comparisons, in order
abbrev pub resilience_of : List Comparison → List Row
resilience_of comparisons = flat_map (λ (k : Comparison). k.rows) comparisons

-- copies of these rows stand after those
pub record AreCopied (some before after : List Row) : Type 0 where
  pub added : List Row
  pub whole : after ≡ before ++ added
  pub copies : AreCopies some added
