-- What reading an automaton file within limits `l` answers.
use Rattle.ta_base.specs.declared.limits.Limits.{Limits}
use Rattle.std.specs.Prelude.{ℕ, ◌≡◌, ◌⊎◌, List, Result, Ok, Err}
use Rattle.ta_syntax.specs.declared.fault.FileFault.{FileFault}
use Rattle.ta_syntax.specs.declared.fault.FileFault.TheVariants as fault
use Rattle.ta_scope.specs.declared.fault.ScopeFault.{ScopeFault}
use Rattle.ta_scope.specs.declared.fault.ScopeFault.TheVariants as scope_fault
use Rattle.ta_scope.specs.declared.scoped.ScopedFile.{ScopedFile}
use Rattle.ta_automaton.specs.declared.file.File.{File}
use Rattle.ta_meaning.specs.Meaning.{Means}
use Rattle.ta_meaning.specs.FirstFault.{FirstFault}

-- the bytes are an automaton file without errors, which means this file
pub record Legal (l : Limits) (bytes : List ℕ) (file : File) : Type 0 where
  pub means : Means l bytes file
  pub no_fault : (e : FileFault) → ¬ FirstFault l bytes e

-- a legal file, whose type keeps that it is in scope; or the first error, or out of memory
abbrev pub Reads : Limits → List ℕ → Result ScopedFile FileFault → Type 0
Reads l bytes (Ok scoped) = Legal l bytes scoped.file
Reads l bytes (Err e) = (e ≡ fault.Memory) ⊎ FirstFault l bytes e

-- an error of scope as an error of the file
abbrev pub file_fault : ScopeFault → FileFault
file_fault (scope_fault.CycleUpdates r) = fault.CycleUpdates r
file_fault scope_fault.Memory = fault.Memory
