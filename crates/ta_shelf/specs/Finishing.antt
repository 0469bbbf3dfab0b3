-- What finishing an answer yields: its files, its text and the exit status.
use Rattle.std.specs.Prelude.{ℕ, ◌≡◌, Result, Ok, Err}
use Rattle.ta_shelf.specs.declared.answer.Answer.{Answer}
use Rattle.ta_shelf.specs.declared.putting.Halt.{Halt}
use Rattle.ta_shelf.specs.Ends.{SinkState, State, Tells}
use Rattle.ta_shelf.specs.Lines.{halt_line, halt_number}
use Rattle.ta_shelf.specs.OutputCalls.{Changed}
use Rattle.ta_shelf.specs.Putting.{Settled, SettledCause}

-- what is printed about how files and a text were put, with its status
abbrev pub TellsEnd : ℕ → Result (Unit {0}) Halt → ℕ → SinkState → SinkState → Type 0
TellsEnd answered (Ok u) number err err' = (number ≡ answered) × (err' ≡ err)
TellsEnd answered (Err halt) number err err' = (number ≡ halt_number halt) × Tells (halt_line halt) err err'

-- the files and the text of an answer were put, or not, and the status and standard error say which
pub record FinishedBy (answer : Answer) (number : ℕ) (before after : State) : Type 0 where
  pub result : Result (Unit {0}) Halt
  pub settled : Changed (Settled answer.puts answer.text result before.shelf.files after.shelf.files before.out after.out) before.shelf.calls after.shelf.calls
  pub cause : SettledCause result before.shelf.faults after.shelf.faults
  pub told : TellsEnd answer.number result number before.err after.err
