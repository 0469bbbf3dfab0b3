-- The option `--pattern`: which patterns of FILE a report is about.
use Rattle.std.specs.Prelude.{ℕ, ◌≡◌, List, codes, slice_get, Option, None, Some}
use Rattle.std.specs.List.{AllByRecursion}
use Rattle.ta_base.specs.declared.limits.Limits.{Limits}
use Rattle.ta_automaton.specs.declared.automaton.Automaton.{Automaton}
use Rattle.ta_automaton.specs.declared.file.File.{File}
use Rattle.ta_automaton.specs.declared.pattern.Pattern.{Pattern}
use Rattle.ta_report.specs.declared.pick.Pick.{Pick}
use Rattle.ta_report.specs.declared.pick.Pick.TheVariants.{All, One}
use Rattle.ta_shelf.specs.Put.{Told}
use Rattle.ta_shelf.specs.Commands.{Meaning}
use Rattle.ta_shelf.specs.Lines.{file_line}
use Rattle.ta_shelf.specs.Sights.{in_files}
use Rattle.ta_shelf.specs.Stages.{finds}
use Rattle.ta_smt.specs.Named.{IsNamed}
use Rattle.ta_program.specs.declared.limits.TheConstants.{FILE_NUMBER}
use Rattle.ta_program.specs.Kinds.{IsFile}

-- the pattern that is picked has this number and this name
pub record PicksNamed (file : File) (name : List ℕ) (pick : Pick) : Type 0 where
  pub number : ℕ
  pub pattern : Pattern
  pub is : IsNamed file.patterns name number pattern
  pub one : pick ≡ One number

-- which patterns are picked: all, or the one with the name that is given
abbrev pub IsPick : File → Option (List ℕ) → Pick → Type 0
IsPick file None pick = pick ≡ All
IsPick file (Some name) pick = PicksNamed file name pick

-- no pattern of the file has the name; the line says so, with the status for FILE
pub record HasNoNamed (file_name : List ℕ) (file : File) (name : List ℕ) (number : ℕ) (line : List ℕ) : Type 0 where
  pub numbered : number ≡ FILE_NUMBER
  pub none : (k : ℕ) (pattern : Pattern) → ¬ IsNamed file.patterns name k pattern
  pub said : line ≡ file_line file_name (codes "F4 unknown name at offset 0")

abbrev pub PickHinders : List ℕ → File → Option (List ℕ) → ℕ → List ℕ → Type 0
PickHinders file_name file None number line = ⊥
PickHinders file_name file (Some name) number line = HasNoNamed file_name file name number line

-- the patterns of a file are picked, and then comes what is asked for them; the files with these names may be put
abbrev pub with_pick : List ℕ → Option (List ℕ) → List (List ℕ) → File → (Pick → Meaning) → Meaning
with_pick file_name pattern puts file rest = finds (IsPick file pattern) (PickHinders file_name file pattern) puts rest

-- FILE means an automaton, which has a pattern with the name that is given, if one is
pub record LegalPicked (l : Limits) (name : List ℕ) (pattern : Option (List ℕ)) (told : Told) : Type 0 where
  pub file : File
  pub is_file : IsFile l (in_files told) name file
  pub pick : Pick
  pub is_pick : IsPick file pattern pick

-- a pattern has the name that is given, if one is
abbrev pub HasName : Option (List ℕ) → Pattern → Type 0
HasName None p = Unit {0}
HasName (Some name) p = p.name ≡ name

-- a fact holds of each pattern of a file; if a name is given, the file has a pattern with this name, and the fact holds of that one
abbrev pub EachPicked : (Automaton → Pattern → Type 0) → Option (List ℕ) → File → Type 0
EachPicked Fact None file = AllByRecursion (Fact file.automaton) file.patterns
EachPicked Fact (Some name) file = (number : ℕ) × (p : Pattern) × (slice_get file.patterns number ≡ Some p) × (p.name ≡ name) × Fact file.automaton p
