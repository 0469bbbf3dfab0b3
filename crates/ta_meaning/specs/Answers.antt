-- Each text within the limit of bytes is a legal file or has a first error, for every row of limits.
use Rattle.ta_base.specs.declared.limits.Limits.{Limits}
use Rattle.std.specs.Prelude.{ℕ, ◌≤◌, ◌≡◌, List, [], length}
use Rattle.ta_base.specs.declared.limits.TheConstants.{FILE_BYTES}
use Rattle.ta_syntax.specs.AnswerLaws.{Either}
use Rattle.ta_syntax.specs.PlainTrees.{plain_tree}
use Rattle.ta_syntax.specs.declared.tree.Tree.{Tree}
use Rattle.ta_syntax.specs.declared.fault.FileFault.{FileFault}
use Rattle.ta_automaton.specs.declared.file.File.{File}
use Rattle.ta_meaning.specs.Meaning.{MeansTree}
use Rattle.ta_meaning.specs.Faults.{meaning_faults}
use Rattle.ta_meaning.specs.FirstFault.{FirstFault}
use Rattle.ta_meaning.specs.Reading.{Legal}

-- a tree without errors of meaning means a file
abbrev pub FilesExist : Type 0
FilesExist = (l : Limits) (t : Tree) → meaning_faults l t ≡ [] → (file : File) × MeansTree (plain_tree t) file

-- a text is a legal file
abbrev pub HasFile : Limits → List ℕ → Type 0
HasFile l bytes = (file : File) × Legal l bytes file

-- a text has a first error
abbrev pub HasFault : Limits → List ℕ → Type 0
HasFault l bytes = (e : FileFault) × FirstFault l bytes e

-- a text of at most 4,194,304 bytes is a legal file, or has a first error
abbrev pub TextsHaveAnswers : Type 0
TextsHaveAnswers = (l : Limits) (bytes : List ℕ) → length bytes ≤ FILE_BYTES → Either (HasFile l bytes) (HasFault l bytes)
