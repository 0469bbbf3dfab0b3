-- The option `--silent` of `rest` and of `rest-check`.
use Rattle.std.specs.Prelude.{ℕ, ◌≡◌, ◌++◌, List, [], codes, decimal, Option, None, Some, Ok, Err, if◌then◌else◌}
use Rattle.ta_base.specs.declared.limits.Limits.{Limits}
use Rattle.ta_automaton.specs.declared.automaton.Automaton.{Automaton}
use Rattle.ta_automaton.specs.declared.file.File.{File}
use Rattle.ta_automaton.specs.declared.pattern.Pattern.{Pattern}
use Rattle.ta_rest.specs.Fair.{FairlySafe}
use Rattle.ta_automaton.specs.Runs.{Config}
use Rattle.ta_rest.specs.Quiet.{QuietRestOccurs, QuietRestSafe}
use Rattle.ta_rest.specs.Rest.{RestOccurs, RestSafe}
use Rattle.ta_scope.specs.LongerCycles.{LoopsAlone}
use Rattle.ta_shelf.specs.Put.{Told}
use Rattle.ta_shelf.specs.Commands.{Meaning}
use Rattle.ta_shelf.specs.Lines.{file_line}
use Rattle.ta_shelf.specs.Sights.{in_files}
use Rattle.ta_shelf.specs.Stages.{finds}
use Rattle.ta_moments.specs.Silent.{silent_in}
use Rattle.ta_moments.specs.declared.fault.SilentFault.{SilentFault}
use Rattle.ta_moments.specs.declared.fault.SilentFault.TheVariants as fault
use Rattle.ta_smt.specs.WordText.{are_names}
use Rattle.ta_program.specs.declared.limits.TheConstants.{FILE_NUMBER}
use Rattle.ta_program.specs.Kinds.{IsFile}

-- the names that are to be silent, if they are given: names with a comma between
abbrev pub names_of : Option (List ℕ) → Option (Option (List ℕ))
names_of None = Some None
names_of (Some names) = if are_names names then Some (Some names) else None

-- the places of the names that are given, in order; no guard subtracts one of them; without names there are none
abbrev pub AreSilent : Automaton → Option (List ℕ) → List ℕ → Type 0
AreSilent a None places = places ≡ []
AreSilent a (Some names) places = silent_in a names ≡ Ok places

-- why names may not be silent, in words; the last is never printed
abbrev pub silent_fault_text : SilentFault → List ℕ
silent_fault_text fault.Unknown = codes "F4 unknown name at offset 0"
silent_fault_text fault.WrongKind = codes "F5 wrong kind of name at offset 0"
silent_fault_text (fault.Subtracted guard) = codes "F15 silent name is subtracted in guard " ++ decimal guard
silent_fault_text fault.Memory = codes "out of memory"

-- names may not be silent in an automaton; the line says why, with the status for FILE
pub record SilentHinders (name : List ℕ) (a : Automaton) (names : List ℕ) (number : ℕ) (line : List ℕ) : Type 0 where
  pub numbered : number ≡ FILE_NUMBER
  pub fault : SilentFault
  pub found : silent_in a names ≡ Err fault
  pub said : line ≡ file_line name (silent_fault_text fault)

abbrev pub NamesHinder : List ℕ → Automaton → Option (List ℕ) → ℕ → List ℕ → Type 0
NamesHinder name a None number line = ⊥
NamesHinder name a (Some names) number line = SilentHinders name a names number line

-- the silent places of a file are computed, and then comes what is asked for them; the files with these names may be put
abbrev pub with_silent : List ℕ → Option (List ℕ) → List (List ℕ) → File → (List ℕ → Meaning) → Meaning
with_silent name names puts file rest = finds (AreSilent file.automaton names) (NamesHinder name file.automaton names) puts rest

-- FILE means an automaton whose cycles of rules are self-loops, and the names may be silent in it
pub record LegalSilently (l : Limits) (name : List ℕ) (names : Option (List ℕ)) (told : Told) : Type 0 where
  pub file : File
  pub is_file : IsFile l (in_files told) name file
  pub loops : LoopsAlone file.automaton
  pub places : List ℕ
  pub are_silent : AreSilent file.automaton names places

-- no run comes to rest where the last event of a pattern happens; with names, none comes to quiet rest there, where their places are silent
abbrev pub RestSafeBut : Option (List ℕ) → Automaton → Pattern → Type 0
RestSafeBut None a p = RestSafe a p
RestSafeBut (Some names) a p = (places : List ℕ) × (silent_in a names ≡ Ok places) × QuietRestSafe a places p

-- the pattern comes to rest in a run, where its last event happens; with names, it comes to quiet rest there, where their places are silent
abbrev pub RestOccursBut : Option (List ℕ) → Automaton → Pattern → Config → List ℕ → Type 0
RestOccursBut None a p first rules = RestOccurs a p first rules
RestOccursBut (Some names) a p first rules = (places : List ℕ) × (silent_in a names ≡ Ok places) × QuietRestOccurs a places p first rules

-- a pattern occurs for ever in no fair run; with names, in no run that is fair where their places are silent
abbrev pub FairlySafeBut : Option (List ℕ) → Automaton → Pattern → Type 0
FairlySafeBut None a p = FairlySafe a [] p
FairlySafeBut (Some names) a p = (places : List ℕ) × (silent_in a names ≡ Ok places) × FairlySafe a places p
