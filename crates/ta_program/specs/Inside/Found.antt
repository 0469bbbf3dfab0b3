-- Refusals while FILE is read further: of a schema, of endings, of silent names.
use Rattle.std.specs.Prelude.{ℕ, ◌≡◌, List, Option}
use Rattle.ta_shelf.specs.declared.answer.Refusal.{Refusal}
use Rattle.ta_shelf.specs.declared.answer.Refusal.TheVariants.{Refused, ReadFailed, PutFailed, Memory}
use Rattle.ta_shelf.specs.Lines.{file_line, phrase_text}
use Rattle.ta_smt.specs.declared.fault.WordFault.{WordFault}
use Rattle.ta_automaton.specs.declared.automaton.Automaton.{Automaton}
use Rattle.ta_automaton.specs.declared.file.File.{File}
use Rattle.ta_shelf.specs.Reading.{SaysOfFile}
use Rattle.ta_moments.specs.declared.fault.SilentFault.{SilentFault}
use Rattle.ta_moments.specs.declared.fault.SilentFault.TheVariants as fault
use Rattle.ta_base.specs.LimitRows.{narrow}
use Rattle.ta_program.specs.Kinds.{file_limit}
use Rattle.ta_program.specs.SilentNames.{NamesHinder, silent_fault_text}
use Rattle.ta_program.specs.PatternOption.{PickHinders}
use Rattle.ta_program.specs.Export.{WordHinders}
use Rattle.ta_program.specs.RestEnds.{CycleHinders}

-- the schema is refused, or memory ran out
abbrev pub WordRefused : (WordFault → Type 0) → List ℕ → Refusal → Type 0
WordRefused Of name (Refused number who why) = WordHinders Of name number (file_line who.now (phrase_text why))
WordRefused Of name (ReadFailed who) = ⊥
WordRefused Of name (PutFailed who) = ⊥
WordRefused Of name Memory = Unit {0}

-- a rule lies on a longer cycle, or memory ran out
abbrev pub EndsRefused : List ℕ → File → Refusal → Type 0
EndsRefused name file (Refused number who why) = CycleHinders name file number (file_line who.now (phrase_text why))
EndsRefused name file (ReadFailed who) = ⊥
EndsRefused name file (PutFailed who) = ⊥
EndsRefused name file Memory = Unit {0}

-- names may not be silent in an automaton, or memory ran out
abbrev pub SilentRefused : List ℕ → Automaton → Option (List ℕ) → Refusal → Type 0
SilentRefused name a names (Refused number who why) = NamesHinder name a names number (file_line who.now (phrase_text why))
SilentRefused name a names (ReadFailed who) = ⊥
SilentRefused name a names (PutFailed who) = ⊥
SilentRefused name a names Memory = Unit {0}

-- a file has no pattern with the name that is given
abbrev pub PickRefused : List ℕ → File → Option (List ℕ) → Refusal → Type 0
PickRefused name file pattern (Refused number who why) = PickHinders name file pattern number (file_line who.now (phrase_text why))
PickRefused name file pattern (ReadFailed who) = ⊥
PickRefused name file pattern (PutFailed who) = ⊥
PickRefused name file pattern Memory = ⊥

-- a refusal names this error, or says that memory ran out
abbrev pub TellsSilent : List ℕ → SilentFault → Refusal → Type 0
TellsSilent name fault.Memory refusal = refusal ≡ Memory
TellsSilent name f refusal = SaysOfFile (file_limit narrow) name (silent_fault_text f) refusal
