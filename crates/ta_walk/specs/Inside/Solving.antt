-- What solving a node's system yields.
use Rattle.ta_encode.specs.Search.{Pending, Search}
use Rattle.ta_walk.specs.declared.node.Solved.{Solved}
use Rattle.ta_walk.specs.declared.node.Solved.TheVariants.{Inner, Whole, OutOfRange}
use Rattle.ta_walk.specs.Visit.{NodeAt, WholeAt, IsOutOfRangeAt}

-- the node that stands at a schema, the values of a whole node, or where a number leaves the range
abbrev pub SolvedAt : {E : Type 0} → Search E → Pending E → Solved → Type 0
SolvedAt s w (Inner node) = NodeAt s w node
SolvedAt s w (Whole numbers) = WholeAt s w numbers
SolvedAt s w (OutOfRange kind) = IsOutOfRangeAt s w kind

-- a fact that holds if the walk goes on
abbrev pub OnInner : Solved → Type 0 → Type 0
OnInner (Inner node) fact = fact
OnInner (Whole numbers) fact = Unit {0}
OnInner (OutOfRange kind) fact = Unit {0}
