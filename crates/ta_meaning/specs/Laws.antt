-- For every row of limits a text has at most one tree, one meaning and one first error.
use Rattle.ta_base.specs.declared.limits.Limits.{Limits}
use Rattle.std.specs.Prelude.{ℕ, ◌≡◌, List}
use Rattle.ta_syntax.specs.PlainTrees.{plain_tree}
use Rattle.ta_syntax.specs.Stated.{tree_stated}
use Rattle.ta_syntax.specs.TreeOf.{IsTreeOf}
use Rattle.ta_syntax.specs.declared.tree.Tree.{Tree}
use Rattle.ta_syntax.specs.declared.fault.FileFault.{FileFault}
use Rattle.ta_automaton.specs.declared.file.File.{File}
use Rattle.ta_meaning.specs.Meaning.{Means}
use Rattle.ta_meaning.specs.Faults.{meaning_faults}
use Rattle.ta_meaning.specs.FirstFault.{FirstFault}

-- Two trees have the same parts, and state the same offset for each token. They may differ only in where the lists of their sums are in
-- memory.
pub record SameTree (t u : Tree) : Type 0 where
  pub parts : plain_tree t ≡ plain_tree u
  pub offsets : tree_stated t ≡ tree_stated u

-- a text has at most one tree
abbrev pub TreesAreUnique : Type 0
TreesAreUnique = (l : Limits) (bytes : List ℕ) (t u : Tree) → IsTreeOf l bytes t → IsTreeOf l bytes u → SameTree t u

-- a text that has a tree has one list of errors of its meaning
abbrev pub FaultsAreUnique : Type 0
FaultsAreUnique = (l : Limits) (bytes : List ℕ) (t u : Tree) → IsTreeOf l bytes t → IsTreeOf l bytes u → meaning_faults l t ≡ meaning_faults l u

-- a text means at most one file
abbrev pub FilesAreUnique : Type 0
FilesAreUnique = (l : Limits) (bytes : List ℕ) (f g : File) → Means l bytes f → Means l bytes g → f ≡ g

-- a text has at most one first error
abbrev pub FirstFaultsAreUnique : Type 0
FirstFaultsAreUnique = (l : Limits) (bytes : List ℕ) (e d : FileFault) → FirstFault l bytes e → FirstFault l bytes d → e ≡ d
