-- How many nodes the parts of a visit begin.
use Rattle.std.specs.Prelude.{ℕ, ◌+◌, ◌*◌, ◌-◌, ◌^◌, ◌≤◌, ◌≡◌, min}
use Rattle.ta_walk.specs.Ends.{node_count}
use Rattle.ta_walk.specs.declared.end.TreeEnd.{TreeEnd}
use Rattle.ta_walk.specs.declared.visiting.Stretch.{Stretch}
use Rattle.ta_walk.specs.declared.visiting.Stretch.TheVariants as stretch

-- a count rose by this many; it stands still at the end of its type
abbrev pub RoseBy : ℕ → ℕ → ℕ → Type 0
RoseBy old more new = new ≡ min (old + more) (2 ^ 64 - 1)

-- a stretch of a visit began the nodes that it visited
abbrev pub StretchCounted : {E : Type 0} → ℕ → ℕ → ℕ → Stretch E → Type 0
StretchCounted budget old new (stretch.Ended end) = (node_count end ≤ budget) × RoseBy old (node_count end) new
StretchCounted budget old new (stretch.Shared count leaves later) = RoseBy old count new

-- a part that may fork so often began at least the nodes of its end, and for each fork at most the budget more
pub record IsCounted {E : Type 0} (budget forks : ℕ) (end : TreeEnd E) (begun : ℕ) : Type 0 where
  pub within : node_count end ≤ budget
  pub least : node_count end ≤ begun
  pub most : begun ≤ node_count end + forks * budget
