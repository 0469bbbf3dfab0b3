-- For every budget a search terminates, provided that each schema has a constraint system.
use Rattle.std.specs.Prelude.{ℕ, ◌≡◌, List, slice_get, Some, ◌≤◌, ◌∷◌}
use Rattle.std.specs.List.{AllByRecursion}
use Rattle.ta_linear.specs.declared.row.System.{System}
use Rattle.ta_automaton.specs.Narrow.{IsNarrow}
use Rattle.ta_automaton.specs.declared.automaton.Automaton.{Automaton}
use Rattle.ta_automaton.specs.declared.file.File.{File}
use Rattle.ta_automaton.specs.declared.pattern.Pattern.{Pattern}
use Rattle.ta_encode.specs.Code.{SystemAt}
use Rattle.ta_encode.specs.Lines.{BoundsWithin}
use Rattle.ta_encode.specs.Sample.{sample_search}
use Rattle.ta_encode.specs.Search.{Pending, Search, Comes, Answers}
use Rattle.ta_rest.specs.Claims.{search_for}
use Rattle.ta_rest.specs.declared.claim.Claim.{Claim}
use Rattle.ta_walk.specs.Ends.{Ending, IsWalkEnd, IsVisitEnding, IsUnbounded}
use Rattle.ta_walk.specs.Samples.{IsSampleEnd}
use Rattle.ta_walk.specs.declared.end.SampleEnd.{SampleEnd}
use Rattle.ta_walk.specs.declared.end.WalkEnd.{WalkEnd}

-- a search begins with schemas without bounds; a schema that is longer by an answer does not have fewer unknowns; and each schema to which
-- the search comes has a system, whatever bounds its unknowns have
pub record HasSystems {E : Type 0} (s : Search E) : Type 0 where
  pub unbounded : AllByRecursion IsUnbounded s.roots
  pub grow : (start : ℕ) (past : List E) (e : E) → Answers s start past e → s.unknowns start past ≤ s.unknowns start (e ∷ past)
  pub systems : (w : Pending E) → Comes s w.start w.past → BoundsWithin (s.unknowns w.start w.past) w.bounds → (system : System) × SystemAt s w system

-- within a budget a search ends in some way
abbrev pub HasEnding : {E : Type 0} → Search E → ℕ → Type 0
HasEnding {E} s budget = (e : Ending E) × IsVisitEnding s budget e

-- for every budget such a search terminates. (The logic is constructive, so this is stated as "not never": no test of the specs tells
-- whether a pivot stays in range.)
abbrev pub SearchesHaveEnds : Type 0 → Type 0
SearchesHaveEnds E = (s : Search E) → HasSystems s → (budget : ℕ) → ¬ HasEnding s budget → ⊥

-- for each claim, under any pairs of rise guards, the schemas of each pattern of a narrow file have systems, and so does the search for a sample
pub record WordsHaveSystems : Type 0 where
  pub patterns : (claim : Claim) (file : File) (number : ℕ) (p : Pattern) → slice_get file.patterns number ≡ Some p → IsNarrow file.automaton
      → (pairs : List (ℕ × ℕ)) → HasSystems (search_for claim file.automaton p pairs)
  pub samples : (a : Automaton) → HasSystems (sample_search a)

-- so for each claim, under any pairs of rise guards, the walk of each pattern terminates for every budget, and so does the search for a
-- sample
pub record WalksHaveEnds : Type 0 where
  pub walks : (claim : Claim) (file : File) (number : ℕ) (p : Pattern) → slice_get file.patterns number ≡ Some p → IsNarrow file.automaton
      → (pairs : List (ℕ × ℕ)) (budget : ℕ) → ¬ ((e : WalkEnd) × IsWalkEnd (search_for claim file.automaton p pairs) number budget e) → ⊥
  pub samples : (a : Automaton) (budget : ℕ) → ¬ ((e : SampleEnd) × IsSampleEnd a budget e) → ⊥
