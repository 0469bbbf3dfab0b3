-- The search that a tree of moments stands for.
use Rattle.std.specs.Prelude.{ℕ, List}
use Rattle.ta_encode.specs.Search.{Search}
use Rattle.ta_moments.specs.declared.fact.Fact.{Fact}
use Rattle.ta_moments.specs.Refutes.{Asking}
use Rattle.ta_moments.specs.Searched.{candidate_of, moment_search}
use Rattle.ta_moment_tree.specs.Makers.{moment_maker}
use Rattle.ta_moment_tree.specs.Kept.{IsKept, IsKeptAt}
use Rattle.ta_moment_tree.specs.declared.moment_tree.MomentTree.{MomentTree}
use Rattle.ta_moment_tree.specs.declared.kept.MomentKept.{MomentKept}

-- what may be asked in it
abbrev pub asking_of : MomentTree → Asking
asking_of t = record { rest = t.rest; silent = t.silent.now }

-- the search of its pattern's moments
abbrev pub search_of_moments : MomentTree → Search Fact
search_of_moments t = moment_search t.task.automaton.now t.task.pattern.now (asking_of t) (moment_maker t.task.automaton.now t.task.pattern.now (asking_of t))

-- a node of its pattern is kept, or nothing
abbrev pub IsKeptFor : MomentTree → MomentKept → Type 0
IsKeptFor t kept = IsKept t.task.automaton.now t.task.pattern.now t.silent.now kept

-- the node of a start with facts, the newest first, is kept
abbrev pub IsAt : MomentTree → ℕ → List Fact → MomentKept → Type 0
IsAt t start past kept = IsKeptAt t.task.automaton.now t.task.pattern.now t.silent.now (candidate_of start) past kept
