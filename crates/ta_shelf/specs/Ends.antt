-- How any command ends: with an answer, a refusal, a failed call or out of memory.
use Rattle.std.specs.Prelude.{ℕ, ◌≡◌, ◌≢◌, ◌≤◌, ◌⊎◌, List, [], ◌++◌, codes, Contains, map, Option}
use Rattle.ta_shelf.specs.Calls.{Call, Event, Put, puts, reads}
use Rattle.ta_shelf.specs.Counts.{Faulted, Stalled}
use Rattle.ta_shelf.specs.Put.{Told}
use Rattle.ta_shelf.specs.Sink.{with_text}
use Rattle.ta_shelf.specs.WriteWhole.{AddsPrefix}
use Rattle.ta_shelf.specs.declared.answer.Answer.{Answer}
use Rattle.ta_shelf.specs.Commands.{AnswerHolds, Decides, Exact, Meaning}
use Rattle.ta_shelf.specs.Lines.{file_line, long_certificate, memory_line, output_line}
use Rattle.ta_shelf.specs.declared.answer.Put as answer
use Rattle.ta_shelf.specs.OutputCalls.{Acts, AreStaging, PutWhole, StopsPublishing}
use Rattle.ta_shelf.specs.Puts.{KeptBut, Stand, StopAt, put_text}
use Rattle.ta_shelf.specs.Sights.{View, seen}

-- a shelf's files, the calls on it so far, and its count of failures
pub record ShelfState : Type 0 where
  pub files : Option Told
  pub calls : List Event
  pub faults : ℕ

-- what was written to a sink so far, and its counts of failures and of stalls
pub record SinkState : Type 0 where
  pub written : Option (List ℕ)
  pub faults : ℕ
  pub stalls : ℕ

-- the shelf, the output and standard error
pub record State : Type 0 where
  pub shelf : ShelfState
  pub out : SinkState
  pub err : SinkState

-- the state of these
abbrev pub state : Option Told → List Event → ℕ → Option (List ℕ) → ℕ → ℕ → Option (List ℕ) → ℕ → ℕ → State
state files calls faults written out_faults out_stalls told err_faults err_stalls = record {
  shelf = record { files = files; calls = calls; faults = faults };
  out = record { written = written; faults = out_faults; stalls = out_stalls };
  err = record { written = told; faults = err_faults; stalls = err_stalls };
}

-- a call on a sink failed, or took nothing
abbrev pub SinkFaltered : SinkState → SinkState → Type 0
SinkFaltered before after = Faulted before.faults after.faults ⊎ Stalled before.stalls after.stalls

-- no call on a sink failed or took nothing
abbrev pub Calm : SinkState → SinkState → Type 0
Calm before after = (after.faults ≡ before.faults) × (after.stalls ≡ before.stalls)

-- a prefix of a line was added, and the whole line if the sink neither failed nor stalled
pub record Tells (line : List ℕ) (before after : SinkState) : Type 0 where
  pub begun : AddsPrefix line before.written after.written
  pub whole : (after.written ≡ with_text before.written line) ⊎ SinkFaltered before after

-- no file was put in its place: each is unchanged
pub record Unstaged (names : List (List ℕ)) (before after : Option Told) (made : List Put) : Type 0 where
  pub kept : after ≡ before
  pub staging : AreStaging names made

-- a text was written whole, and then files were put in their places, up to that with this name
pub record Unpublished (names : List (List ℕ)) (puts : List answer.Put) (name text : List ℕ) (before after : Option Told) (out out' : SinkState)
    (made : List Put) : Type 0 where
  pub stopped : StopAt name puts before after
  pub refused : StopsPublishing names made
  pub written : out'.written ≡ with_text out.written text
  pub calm : Calm out out'

-- an answer that holds: its text was written whole, and its files were put
pub record IsAnswered (m : Meaning) (view : View) (number : ℕ) (before after : State) (made : List Put) : Type 0 where
  pub answer : Answer
  pub holds : AnswerHolds m view answer
  pub numbered : number ≡ answer.number
  pub stand : Stand answer.puts before.shelf.files after.shelf.files
  pub whole : PutWhole (map put_text answer.puts) made
  pub no_fault : after.shelf.faults ≡ before.shelf.faults
  pub written : after.out.written ≡ with_text before.out.written answer.text
  pub calm : Calm before.out after.out
  pub silent : after.err ≡ before.err

-- nothing was staged; or the line says that a certificate for a file with one of these names is too long, and what was staged of it is
-- discarded
abbrev pub LetGo : List (List ℕ) → List ℕ → List Put → Type 0
LetGo names line made = (made ≡ []) ⊎ (AreStaging names made × (name : List ℕ) × Contains names name × (line ≡ file_line name long_certificate))

-- a refusal, whose reason the line says
pub record IsHindered (m : Meaning) (view : View) (number : ℕ) (before after : State) (made : List Put) : Type 0 where
  pub three : 3 ≤ number
  pub four : number ≤ 4
  pub line : List ℕ
  pub holds : m.refuses view number line
  pub kept : after.shelf.files ≡ before.shelf.files
  pub let_go : LetGo m.puts line made
  pub no_fault : after.shelf.faults ≡ before.shelf.faults
  pub nothing : after.out ≡ before.out
  pub told : Tells line before.err after.err

-- reading the file with this name failed
pub record NotRead (m : Meaning) (view : View) (number : ℕ) (before after : State) (made : List Put) : Type 0 where
  pub six : number ≡ 6
  pub name : List ℕ
  pub read : m.reads view name
  pub kept : after.shelf.files ≡ before.shelf.files
  pub none : made ≡ []
  pub faulted : Faulted before.shelf.faults after.shelf.faults
  pub nothing : after.out ≡ before.out
  pub told : Tells (file_line name (codes "read failed")) before.err after.err

-- beginning the file with this name failed, and nothing else was done; or adding to it failed, and then memory ran out or it grew too long.
-- Nothing was written, and each file is unchanged
pub record NotBegun (m : Meaning) (number : ℕ) (before after : State) (made : List Put) : Type 0 where
  pub six : number ≡ 6
  pub name : List ℕ
  pub among : Contains m.puts name
  pub kept : after.shelf.files ≡ before.shelf.files
  pub staging : AreStaging m.puts made
  pub faulted : Faulted before.shelf.faults after.shelf.faults
  pub nothing : after.out ≡ before.out
  pub told : Tells (file_line name (codes "write failed")) before.err after.err

-- staging the file with this name failed, and the text was written all the same; or putting it in its place failed, after the text was
-- written
pub record NotPut (m : Meaning) (view : View) (number : ℕ) (before after : State) (made : List Put) : Type 0 where
  pub six : number ≡ 6
  pub answer : Answer
  pub holds : AnswerHolds m view answer
  pub name : List ℕ
  pub among : Contains m.puts name
  pub halted : (Unstaged m.puts before.shelf.files after.shelf.files made × Tells answer.text before.out after.out)
      ⊎ Unpublished m.puts answer.puts name answer.text before.shelf.files after.shelf.files before.out after.out made
  pub faulted : Faulted before.shelf.faults after.shelf.faults
  pub told : Tells (file_line name (codes "write failed")) before.err after.err

-- an answer that holds: writing its text failed, and every file is unchanged
pub record NotWritten (m : Meaning) (view : View) (number : ℕ) (before after : State) (made : List Put) : Type 0 where
  pub six : number ≡ 6
  pub answer : Answer
  pub holds : AnswerHolds m view answer
  pub unstaged : Unstaged m.puts before.shelf.files after.shelf.files made
  pub no_fault : after.shelf.faults ≡ before.shelf.faults
  pub begun : AddsPrefix answer.text before.out.written after.out.written
  pub failed : SinkFaltered before.out after.out
  pub told : Tells output_line before.err after.err

-- an answer that holds, whose text was written whole, and whose files were put in their places up to that with this name
pub record PutsStop (m : Meaning) (view : View) (before after : State) (made : List Put) : Type 0 where
  pub answer : Answer
  pub holds : AnswerHolds m view answer
  pub name : List ℕ
  pub stopped : Unpublished m.puts answer.puts name answer.text before.shelf.files after.shelf.files before.out after.out made

-- memory ran out, before the answer or when a file was put; no call failed
pub record OutOfMemory (m : Meaning) (view : View) (number : ℕ) (before after : State) (made : List Put) : Type 0 where
  pub seven : number ≡ 7
  pub stopped : (Unstaged m.puts before.shelf.files after.shelf.files made × (after.out ≡ before.out)) ⊎ PutsStop m view before after made
  pub no_fault : after.shelf.faults ≡ before.shelf.faults
  pub told : Tells memory_line before.err after.err

-- one of these ends
pub data End (m : Meaning) (view : View) (number : ℕ) (before after : State) (made : List Put) : Type 0 where
  Done : IsAnswered m view number before after made → End m view number before after made
  Stopped : IsHindered m view number before after made → End m view number before after made
  Unread : NotRead m view number before after made → End m view number before after made
  Unbegun : NotBegun m number before after made → End m view number before after made
  Unput : NotPut m view number before after made → End m view number before after made
  Unwritten : NotWritten m view number before after made → End m view number before after made
  NoMemory : OutOfMemory m view number before after made → End m view number before after made

-- how a command ends, given what is seen in its calls and in the files: the files of its outputs are begun and discarded, then it reads, or
-- is refused without reading, and then its files are put
pub record Ends (m : Meaning) (number : ℕ) (before after : State) : Type 0 where
  pub tried : List Put
  pub read : List Call
  pub made : List Put
  pub grown : after.shelf.calls ≡ before.shelf.calls ++ (puts tried ++ (reads read ++ puts made))
  pub tries : AreStaging m.puts tried
  pub opened : m.opens read ⊎ (read ≡ [])
  pub end : End m (seen before.shelf.files read) number before after made

-- nothing is written with status 3, 4 and 5, and nothing or a whole text with 7; no call failed with 0 to 5 and 7; and with 6 the shelf or
-- the output failed or the output stalled
pub record Quiet (number : ℕ) (before after : State) : Type 0 where
  pub nothing_written : 3 ≤ number → number ≤ 5 → after.out.written ≡ before.out.written
  pub memory : number ≡ 7 → (after.out.written ≡ before.out.written) ⊎ ((text : List ℕ) × (after.out.written ≡ with_text before.out.written text))
  pub shelf_kept : number ≢ 6 → after.shelf.faults ≡ before.shelf.faults
  pub out_calm : number ≢ 6 → Calm before.out after.out
  pub failed : number ≡ 6 → Faulted before.shelf.faults after.shelf.faults ⊎ SinkFaltered before.out after.out

-- with status 6 the line says that the output failed, or which file could not be read or put
abbrev pub FailureTold : Meaning → State → State → Type 0
FailureTold m before after =
    (SinkFaltered before.out after.out × Tells output_line before.err after.err)
    ⊎ (Faulted before.shelf.faults after.shelf.faults
    × (Acts m.puts (λ read made. (made ≡ []) × (name : List ℕ) × m.reads (seen before.shelf.files read) name
    × Tells (file_line name (codes "read failed")) before.err after.err) before.shelf.calls after.shelf.calls
    ⊎ ((name : List ℕ) × Contains m.puts name × Tells (file_line name (codes "write failed")) before.err after.err)))

-- standard error: nothing with 0, 1 and 2; with 3 and 4 why the command was refused; with 6 what failed; and with 7 that memory ran out
pub record Telling (m : Meaning) (number : ℕ) (before after : State) : Type 0 where
  pub silent : number ≤ 2 → after.err ≡ before.err
  pub hindered : 3 ≤ number → number ≤ 4 → Acts m.puts
      (λ read made. (line : List ℕ) × LetGo m.puts line made × m.refuses (seen before.shelf.files read) number line × Tells line before.err after.err)
      before.shelf.calls after.shelf.calls
  pub failed : number ≡ 6 → FailureTold m before after
  pub memory : number ≡ 7 → Tells memory_line before.err after.err

-- if the status is not that of an answer, every file is unchanged, unless a publishing was refused
abbrev pub Spares : List (List ℕ) → ℕ → ShelfState → ShelfState → Type 0
Spares names number before after = 3 ≤ number → (after.files ≡ before.files) ⊎ Acts names (λ read made. StopsPublishing names made) before.calls after.calls

-- how a command ends, with what holds of every end: nothing else is written or printed, no other file changes, a file that changes is put
-- whole, and known files determine the status
pub record Performs (m : Meaning) (number : ℕ) (before after : State) : Type 0 where
  pub ends : Ends m number before after
  pub quiet : Quiet number before after
  pub telling : Telling m number before after
  pub kept : KeptBut m.puts before.shelf.files after.shelf.files
  pub spared : Spares m.puts number before.shelf after.shelf
  pub exact : Decides m → Exact m before.shelf.files number
