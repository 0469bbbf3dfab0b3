-- The first error of an automaton file, in four stages: bytes, tokens, meaning, scope. `l` is the row of limits.
use Rattle.ta_base.specs.declared.limits.Limits.{Limits}
use Rattle.std.specs.Prelude.{ℕ, ◌≡◌, ◌⊎◌, List, [], ◌∷◌}
use Rattle.ta_syntax.specs.PlainTrees.{plain_tree}
use Rattle.ta_syntax.specs.TreeOf.{IsTreeOf}
use Rattle.ta_syntax.specs.Faults as syntax
use Rattle.ta_syntax.specs.declared.tree.Tree.{Tree}
use Rattle.ta_syntax.specs.declared.fault.FileFault.{FileFault}
use Rattle.ta_syntax.specs.declared.fault.FileFault.TheVariants as fault
use Rattle.ta_automaton.specs.declared.automaton.Automaton.{Automaton}
use Rattle.ta_automaton.specs.declared.file.File.{File}
use Rattle.ta_scope.specs.Faults as scope
use Rattle.ta_meaning.specs.Meaning.{MeansTree}
use Rattle.ta_meaning.specs.Faults.{meaning_faults}

-- the first byte at which no token begins, or the first token that is wrong or past a limit
abbrev pub OfText : Limits → List ℕ → FileFault → Type 0
OfText l bytes fault.Memory = ⊥
OfText l bytes e = syntax.FirstGrammarFault l bytes e

-- the text is a tree, and this is the first error of its meaning
pub record OfMeaning (l : Limits) (bytes : List ℕ) (e : FileFault) : Type 0 where
  pub tree : Tree
  pub is_tree : IsTreeOf l bytes tree
  pub later : List FileFault
  pub first : meaning_faults l tree ≡ e ∷ later

-- the first rule that puts an automaton out of scope
abbrev pub ScopeFault : Automaton → FileFault → Type 0
ScopeFault a (fault.CycleUpdates r) = scope.FirstRuleFault a r
ScopeFault a _ = ⊥

-- the text means a file whose automaton is out of scope
pub record OfScope (l : Limits) (bytes : List ℕ) (e : FileFault) : Type 0 where
  pub tree : Tree
  pub is_tree : IsTreeOf l bytes tree
  pub none_of_meaning : meaning_faults l tree ≡ []
  pub file : File
  pub means : MeansTree (plain_tree tree) file
  pub fault : ScopeFault file.automaton e

-- the first error of a text: a later stage counts only if the earlier ones find nothing
abbrev pub FirstFault : Limits → List ℕ → FileFault → Type 0
FirstFault l bytes e = OfText l bytes e ⊎ (OfMeaning l bytes e ⊎ OfScope l bytes e)
