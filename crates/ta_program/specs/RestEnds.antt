-- FILE of `rest` and `rest-check`: its cycles are self-loops, and each pattern is replaced by its ending.
use Rattle.std.specs.Prelude.{ℕ, ◌≡◌, ◌++◌, List, codes, decimal}
use Rattle.ta_base.specs.declared.limits.Limits.{Limits}
use Rattle.ta_automaton.specs.declared.file.File.{File}
use Rattle.ta_rest.specs.Faults.{EndingsOf}
use Rattle.ta_rest.specs.Moves.{FewMoves}
use Rattle.ta_rest.specs.declared.rest_file.RestFile.{RestFile}
use Rattle.ta_scope.specs.LongerCycles.{FirstLongerCycle, LoopsAlone}
use Rattle.ta_shelf.specs.Put.{Told}
use Rattle.ta_shelf.specs.Commands.{Meaning}
use Rattle.ta_shelf.specs.Lines.{file_line}
use Rattle.ta_shelf.specs.Sights.{in_files}
use Rattle.ta_shelf.specs.Stages.{after, finds}
use Rattle.ta_program.specs.declared.limits.TheConstants.{FILE_NUMBER}
use Rattle.ta_program.specs.Kinds.{IsFile, file_kind}

-- the endings of a file's patterns, and the mask of the patterns that got an event
pub record FileEndings : Type 0 where
  pub ending : File
  pub added : ℕ

abbrev pub ends_of : RestFile → FileEndings
ends_of rest = record { ending = rest.ending.file; added = rest.added }

-- every cycle of the file's rules is a self-loop, so a run has at most as many steps of other rules as the number of processes times one
-- less than the number of locations; and these are the endings of its patterns
pub record IsEnds (file : File) (ends : FileEndings) : Type 0 where
  pub loops : LoopsAlone file.automaton
  pub few : FewMoves file.automaton
  pub endings : EndingsOf file ends.ending ends.added

-- what is said of the first rule on a cycle of two or more locations
abbrev pub cycle_text : ℕ → List ℕ
cycle_text rule = codes "F14 longer cycle at rule " ++ decimal rule

-- a rule lies on a cycle of two or more locations, and this is the first such rule; the line says it, with the status for FILE
pub record CycleHinders (name : List ℕ) (file : File) (number : ℕ) (line : List ℕ) : Type 0 where
  pub numbered : number ≡ FILE_NUMBER
  pub rule : ℕ
  pub first : FirstLongerCycle file.automaton rule
  pub said : line ≡ file_line name (cycle_text rule)

-- the endings of FILE are computed, and then comes what is asked for them; the files with these names may be put
abbrev pub at_ends : List ℕ → List (List ℕ) → (File → FileEndings → Meaning) → File → Meaning
at_ends name puts rest file = finds (IsEnds file) (CycleHinders name file) puts (rest file)

-- FILE is read, and then its endings are computed
abbrev pub with_ends : Limits → List ℕ → List (List ℕ) → (File → FileEndings → Meaning) → Meaning
with_ends l name puts rest = after (file_kind l) name puts (at_ends name puts rest)

-- FILE means an automaton whose cycles of rules are self-loops
pub record LegalAtRest (l : Limits) (name : List ℕ) (told : Told) : Type 0 where
  pub file : File
  pub is_file : IsFile l (in_files told) name file
  pub loops : LoopsAlone file.automaton
