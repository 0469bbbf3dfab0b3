-- Nodes that are kept, with their marks.
use Rattle.std.specs.Prelude.{ℕ, ◌+◌, ◌≡◌, ◌≤◌, List, length, reverse, slice_get, take, Option, Some, None}
use Rattle.ta_automaton.specs.declared.automaton.Automaton.{Automaton}
use Rattle.ta_automaton.specs.declared.pattern.Pattern.{Pattern}
use Rattle.ta_encode.specs.Inside.Lines.{IsBehind}
use Rattle.ta_encode.specs.Marks.{SameRows}
use Rattle.ta_moments.specs.declared.fact.Fact.{Fact}
use Rattle.ta_moments.specs.Moments.{known}
use Rattle.ta_moments.specs.Searched.{candidate_of}
use Rattle.ta_moment_tree.specs.Cuts.{IsMark}
use Rattle.ta_moment_tree.specs.Nodes.{IsNode}
use Rattle.ta_moment_tree.specs.declared.encoding.MomentEncoding.{MomentEncoding}
use Rattle.ta_moment_tree.specs.declared.mark.NodeMark.{NodeMark}
use Rattle.ta_moment_tree.specs.declared.kept.MomentKept.{MomentKept}
use Rattle.ta_moment_tree.specs.declared.part.Part.{Part}

-- an encoding is the node of a candidate of this pattern with facts, the newest first
pub record NodeIs (a : Automaton) (p : Pattern) (silent : List ℕ) (candidate : Option ℕ) (past : List Fact) (node : MomentEncoding) : Type 0 where
  pub automaton : node.plan.task.automaton.now ≡ a
  pub pattern : node.plan.task.pattern.now ≡ p
  pub is : IsNode silent candidate past node

-- the marks of the nodes with the first 0, 1, .. of these facts, up to this many
pub record AreMarks (a : Automaton) (p : Pattern) (silent : List ℕ) (candidate : Option ℕ) (facts : List Fact) (count : ℕ) (marks : List NodeMark) : Type 0
  where
    pub marked : length marks ≡ count + 1
    pub each : (i : ℕ) (mark : NodeMark) → slice_get marks i ≡ Some mark → IsMark (known a p silent candidate (reverse (take i facts))) mark

-- a node, the marks of those above it, and a system that begins with its rows
pub record KeepsNode (a : Automaton) (p : Pattern) (silent : List ℕ) (kept : MomentKept) (node : MomentEncoding) : Type 0 where
  pub is : NodeIs a p silent (candidate_of kept.start) (reverse kept.facts.items) node
  pub marks : AreMarks a p silent (candidate_of kept.start) kept.facts.items (length kept.facts.items) kept.marks.items
  pub rows : IsBehind node.draft.rows.items kept.system.rows

-- the same if there is one
abbrev pub KeepsIfSome : Automaton → Pattern → List ℕ → MomentKept → Option MomentEncoding → Type 0
KeepsIfSome a p silent kept None = Unit {0}
KeepsIfSome a p silent kept (Some node) = KeepsNode a p silent kept node

-- of a pattern's nodes, with these silent places
abbrev pub IsKept : Automaton → Pattern → List ℕ → MomentKept → Type 0
IsKept a p silent kept = KeepsIfSome a p silent kept kept.node

-- the node of a candidate with facts, the newest first
pub record IsKeptAt (a : Automaton) (p : Pattern) (silent : List ℕ) (candidate : Option ℕ) (past : List Fact) (kept : MomentKept) : Type 0 where
  pub node : MomentEncoding
  pub is : kept.node ≡ Some node
  pub of : NodeIs a p silent candidate past node

-- what is already written of a node with these facts, in order: the node of the first of them, with its marks, and how many of its rows are
-- those of the system before
pub record IsPart (a : Automaton) (p : Pattern) (silent : List ℕ) (start : ℕ) (facts : List Fact) (part : Part) : Type 0 where
  pub within : part.from ≤ length facts
  pub is : NodeIs a p silent (candidate_of start) (reverse (take part.from facts)) part.node
  pub marks : AreMarks a p silent (candidate_of start) facts part.from part.marks.items
  pub same : SameRows part.system.rows part.same part.node.draft.rows.items
