-- The automata of the family are legal, and their pattern occurs in no run.
use Rattle.std.specs.Prelude.{ℕ, ◌≡◌, ◌≤◌, length}
use Rattle.std.specs.List.{AllByRecursion}
use Rattle.ta_automaton.specs.declared.file.File.{File}
use Rattle.ta_automaton.specs.Runs as runs
use Rattle.ta_base.specs.LimitRows.{narrow}
use Rattle.ta_maker.specs.Family.{family}
use Rattle.ta_maker.specs.Made.{IsFamilyNumber}
use Rattle.ta_meaning.specs.FirstFault.{FirstFault}
use Rattle.ta_meaning.specs.Meaning.{Means}
use Rattle.ta_syntax.specs.declared.fault.FileFault.{FileFault}
use Rattle.ta_syntax.specs.Grammar.{file_kinds}
use Rattle.ta_syntax.specs.Printed.{printed}

-- the text of the automaton with this number is within the narrow limits and has no error, and the file that it means has one pattern, which
-- occurs in no run
pub record IsFlawless (k : ℕ) : Type 0 where
  pub short : length (printed (file_kinds (family k))) ≤ narrow.bytes
  pub no_fault : (e : FileFault) → ¬ FirstFault narrow (printed (file_kinds (family k))) e
  pub one : (file : File) → Means narrow (printed (file_kinds (family k))) file → length file.patterns ≡ 1
  pub safe : (file : File) → Means narrow (printed (file_kinds (family k))) file → AllByRecursion (runs.Safe file.automaton) file.patterns

-- this holds of each automaton of the family
abbrev pub FamilyIsFlawless : Type 0
FamilyIsFlawless = (k : ℕ) → IsFamilyNumber k → IsFlawless k
