-- A budget that is large enough for the schemas of a pattern is exhausted only if some node was split (integer branching).
use Rattle.std.specs.Prelude.{ℕ, ℤ, ◌<◌, ◌≤◌, ◌^◌, ◌≡◌, List, length, slice_get, Some}
use Rattle.ta_automaton.specs.Narrow.{IsNarrow}
use Rattle.ta_automaton.specs.declared.automaton.Automaton.{Automaton}
use Rattle.ta_automaton.specs.declared.file.File.{File}
use Rattle.ta_automaton.specs.declared.pattern.Pattern.{Pattern}
use Rattle.ta_base.specs.Masks.{In}
use Rattle.ta_cert.specs.declared.line.Node.{Node}
use Rattle.ta_cert.specs.declared.line.Node.TheVariants as node
use Rattle.ta_words.specs.declared.element.Element.{Element}
use Rattle.ta_words.specs.Words.{LegalUnder}
use Rattle.ta_encode.specs.PatternSearch.{pattern_search}
use Rattle.ta_encode.specs.Search.{Pending, Search}
use Rattle.ta_walk.specs.Ends.{IsSpent, IsVisited}
use Rattle.ta_walk.specs.Visit.{Visits}

-- there are at most this many pairs of a start set and a schema that is legal under pairs of rise guards: a list of at most this many items
-- has all of them
pub record HasAtMost (a : Automaton) (p : Pattern) (pairs : List (ℕ × ℕ)) (most : ℕ) : Type 0 where
  pub words : List (ℕ × List Element)
  pub short : length words ≤ most
  pub each : (start : ℕ) (past : List Element) → start < 2 ^ length a.fall → LegalUnder a p pairs start past → In (start, past) words

-- one of some nodes is a split
pub record HasSplit (nodes : List Node) : Type 0 where
  pub unknown : ℕ
  pub floor : ℤ
  pub is : In (node.Split unknown floor) nodes

-- this many nodes were visited, and one of them was split
pub record WasSplit {E : Type 0} (s : Search E) (count : ℕ) : Type 0 where
  pub nodes : List Node
  pub left : List (Pending E)
  pub visits : Visits s s.roots nodes left
  pub counted : length nodes ≡ count
  pub split : HasSplit nodes

-- a pattern of a narrow file has at most some number of such pairs; if there are no more than the budget, it is exhausted only if one of the
-- visited nodes was split; for without splits any two visited nodes differ in the start set or the schema
pub record SpentNeedsSplits : Type 0 where
  pub number : (file : File) (number : ℕ) (p : Pattern) → slice_get file.patterns number ≡ Some p → IsNarrow file.automaton → (pairs : List (ℕ × ℕ))
      → (most : ℕ) × HasAtMost file.automaton p pairs most
  pub split : (a : Automaton) (p : Pattern) (pairs : List (ℕ × ℕ)) (budget count : ℕ) → HasAtMost a p pairs budget
      → IsSpent (pattern_search a p pairs) budget count → WasSplit (pattern_search a p pairs) budget
  pub apart :
      (a : Automaton) (p : Pattern) (pairs : List (ℕ × ℕ)) (before later : ℕ) (v w : Pending Element) → before < later
      → IsVisited (pattern_search a p pairs) before v
      → (at : IsVisited (pattern_search a p pairs) later w) → ¬ HasSplit at.nodes → v.start ≡ w.start → v.past ≡ w.past → ⊥
