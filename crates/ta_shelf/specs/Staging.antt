-- A command's output that is staged while its bytes are made, before its text is written.
use Rattle.std.specs.Prelude.{ℕ, ◌+◌, ◌<◌, ◌≤◌, ◌≡◌, List, [], ◌∷◌, Contains, length, Option, Some, None, Result, Ok, Err}
use Rattle.std.specs.Option.{IfSome}
use Rattle.ta_base.specs.declared.limits.TheConstants.{CERTIFICATE_BYTES}
use Rattle.ta_shelf.specs.Calls.{Event, Grew, Put}
use Rattle.ta_shelf.specs.Counts.{Faulted}
use Rattle.ta_shelf.specs.Stage.{Stages}
use Rattle.ta_shelf.specs.declared.answer.Answer.{Answer}
use Rattle.ta_shelf.specs.declared.answer.Content.TheVariants.{Bytes}
use Rattle.ta_shelf.specs.declared.answer.Put as answer
use Rattle.ta_shelf.specs.declared.answer.Refusal.{Refusal}
use Rattle.ta_shelf.specs.declared.answer.Refusal.TheVariants.{Refused, ReadFailed, PutFailed, Memory}
use Rattle.ta_shelf.specs.declared.staged_answer.StagedAnswer.{StagedAnswer}
use Rattle.ta_shelf.specs.declared.staged_answer.StagedOutput.{StagedOutput}
use Rattle.ta_shelf.specs.declared.staged_answer.StagedOutput.TheVariants.{Unasked, Staged, Lost}
use Rattle.ta_shelf.specs.declared.staged_file.StagedFile.{StagedFile}
use Rattle.ta_shelf.specs.Commands.{Meaning, Says}
use Rattle.ta_shelf.specs.Ends.{LetGo, ShelfState}
use Rattle.ta_shelf.specs.Lines.{file_line, phrase_text}
use Rattle.ta_shelf.specs.Reading.{SaysLong}
use Rattle.ta_shelf.specs.OutputCalls.{AreStaging, Changed}

-- where a staged file was begun: its name, and the shelf before
pub record Begun : Type 0 where
  pub name : List ℕ
  pub before : ShelfState

-- such calls staged the file: it holds exactly these bytes, unless the shelf failed at it, or they are more than it may have
abbrev pub IsStagedBy : {T : Type 0} → (T → List ℕ) → (T → List ℕ) → List ℕ → Option T → Option ℕ → List ℕ → List Put → Type 0
IsStagedBy named bytes name None room text made = AreStaging (name ∷ []) made
IsStagedBy named bytes name (Some stage) None text made = (named stage ≡ name) × AreStaging (name ∷ []) made
IsStagedBy named bytes name (Some stage) (Some room) text made = (named stage ≡ name) × (bytes stage ≡ text) × Stages name text made

-- with these bytes, so many more are within the limit of a certificate; or none, since these are more
abbrev pub LeavesRoom : Option ℕ → List ℕ → Type 0
LeavesRoom None text = CERTIFICATE_BYTES < length text
LeavesRoom (Some room) text = length text + room ≡ CERTIFICATE_BYTES

-- nothing takes the bytes only if the shelf failed; otherwise its count of failures is unchanged
abbrev pub LostByFault : {T : Type 0} → Option T → ℕ → ℕ → Type 0
LostByFault None before after = Faulted before after
LostByFault (Some stage) before after = after ≡ before

-- a file was begun, and these bytes were handed over for it since; every file is unchanged
pub record StagedSoFar {T : Type 0} (named bytes : T → List ℕ) (begun : Begun) (file : StagedFile T) (shelf : ShelfState) (text : List ℕ) : Type 0 where
  pub log : Changed (IsStagedBy named bytes begun.name file.stage file.room text) begun.before.calls shelf.calls
  pub room : LeavesRoom file.room text
  pub cause : LostByFault file.stage begun.before.faults shelf.faults
  pub kept : shelf.files ≡ begun.before.files

-- a file was begun, and some bytes were handed over for it until memory ran out; every file is unchanged
pub record StagedInPart {T : Type 0} (name_of : T → List ℕ) (begun : Begun) (file : StagedFile T) (shelf : ShelfState) : Type 0 where
  pub log : Changed (AreStaging (begun.name ∷ [])) begun.before.calls shelf.calls
  pub named : IfSome file.stage (λ stage. name_of stage ≡ begun.name)
  pub cause : LostByFault file.stage begun.before.faults shelf.faults
  pub kept : shelf.files ≡ begun.before.files

-- the bytes were handed over, or memory ran out
abbrev pub StagedOr : {T A E : Type 0} → (T → List ℕ) → (T → List ℕ) → Begun → Result A E → StagedFile T → ShelfState → List ℕ → Type 0
StagedOr named bytes begun (Ok a) file shelf text = StagedSoFar named bytes begun file shelf text
StagedOr named bytes begun (Err e) file shelf text = StagedInPart named begun file shelf

-- what is put of a staged output; of one that was lost, the bytes that it was to hold
abbrev pub output_puts : {T : Type 0} → (T → List ℕ) → StagedOutput T → List ℕ → List answer.Put
output_puts bytes Unasked lost = []
output_puts bytes (Staged name stage) lost = record { name = name.now; content = Bytes (bytes stage) } ∷ []
output_puts bytes (Lost name) lost = record { name = name.now; content = Bytes lost } ∷ []

-- the answer that puts a staged output
abbrev pub answer_seen : {T : Type 0} → (T → List ℕ) → List ℕ → StagedAnswer T → Answer
answer_seen bytes lost answer = record { number = answer.number; text = answer.text; puts = output_puts bytes answer.output lost }

-- the answer, or why there is none. An output that failed says nothing of the files that were read
abbrev pub result_seen : {T : Type 0} → (T → List ℕ) → List ℕ → Result (StagedAnswer T) Refusal → Result Answer Refusal
result_seen bytes lost (Ok answer) = Ok (answer_seen bytes lost answer)
result_seen bytes lost (Err (Refused number name why)) = Err (Refused number name why)
result_seen bytes lost (Err (ReadFailed name)) = Err (ReadFailed name)
result_seen bytes lost (Err (PutFailed name)) = Err Memory
result_seen bytes lost (Err Memory) = Err Memory

-- such calls staged an output whole; or the shelf failed at it
abbrev pub OutputStaged : {T : Type 0} → (T → List ℕ) → (T → List ℕ) → StagedOutput T → ℕ → ℕ → List Put → Type 0
OutputStaged named bytes Unasked faults faults' made = (made ≡ []) × (faults' ≡ faults)
OutputStaged named bytes (Staged name stage) faults faults' made = (named stage ≡ name.now) × Stages name.now (bytes stage) made × (faults' ≡ faults)
OutputStaged named bytes (Lost name) faults faults' made = AreStaging (name.now ∷ []) made × Faulted faults faults'

-- such calls staged the output of an answer; without an answer, what was staged is discarded. A failed output ends a command without an
-- answer only after it was begun
abbrev pub StagedBy : {T : Type 0} → List (List ℕ) → (T → List ℕ) → (T → List ℕ) → Result (StagedAnswer T) Refusal → ℕ → ℕ → List Put → Type 0
StagedBy outs named bytes (Ok answer) faults faults' made = OutputStaged named bytes answer.output faults faults' made
StagedBy outs named bytes (Err (Refused number name why)) faults faults' made = LetGo outs (file_line name.now (phrase_text why)) made × (faults' ≡ faults)
StagedBy outs named bytes (Err (ReadFailed name)) faults faults' made = (made ≡ []) × Faulted faults faults'
StagedBy outs named bytes (Err (PutFailed name)) faults faults' made = Contains outs name.now × AreStaging outs made × Faulted faults faults'
StagedBy outs named bytes (Err Memory) faults faults' made = AreStaging outs made × (faults' ≡ faults)

-- the answer writes this text with this status and puts these bytes in the file with this name; or they are more than a certificate may
-- have, and the refusal says so; or the shelf failed as well
abbrev pub SettlesFile : {T : Type 0} → (T → List ℕ) → ℕ → List ℕ → List ℕ → List ℕ → Result (StagedAnswer T) Refusal → Type 0
SettlesFile bytes number text name written (Ok answer) =
    (answer.number ≡ number) × (answer.text ≡ text) × (output_puts bytes answer.output written ≡ record { name = name; content = Bytes written } ∷ [])
    × (length written ≤ CERTIFICATE_BYTES)
SettlesFile bytes number text name written (Err (Refused n who why)) = SaysLong name (Refused n who why) × (CERTIFICATE_BYTES < length written)
SettlesFile bytes number text name written (Err (ReadFailed who)) = ⊥
SettlesFile bytes number text name written (Err (PutFailed who)) = Unit {0}
SettlesFile bytes number text name written (Err Memory) = ⊥

-- the calls before an answer is decided: those that read, and then those that stage its output; and what the answer is, given what is seen
pub record SaysAndStages {T : Type 0} (m : Meaning) (named bytes : T → List ℕ) (result : Result (StagedAnswer T) Refusal) (before after : ShelfState) : Type 0
  where
    pub lost : List ℕ
    pub middle : List Event
    pub says : Grew (Says m before.files (result_seen bytes lost result)) before.calls middle
    pub staged : Changed (StagedBy m.puts named bytes result before.faults after.faults) middle after.calls

-- the output of a name that a stage took, if there is one
abbrev pub IsOutputOf : {T : Type 0} → List ℕ → Option T → StagedOutput T → Type 0
IsOutputOf name None Unasked = ⊥
IsOutputOf name None (Staged who stage) = ⊥
IsOutputOf name None (Lost who) = who.now ≡ name
IsOutputOf name (Some took) Unasked = ⊥
IsOutputOf name (Some took) (Staged who stage) = (who.now ≡ name) × (stage ≡ took)
IsOutputOf name (Some took) (Lost who) = ⊥

-- the refusal says that memory ran out, or that an output failed
abbrev pub HasNoAnswer : Refusal → Type 0
HasNoAnswer (Refused number name why) = ⊥
HasNoAnswer (ReadFailed name) = ⊥
HasNoAnswer (PutFailed name) = Unit {0}
HasNoAnswer Memory = Unit {0}

-- what takes an output is for its name
abbrev pub OutputNamed : {T : Type 0} → (T → List ℕ) → StagedOutput T → Type 0
OutputNamed named Unasked = Unit {0}
OutputNamed named (Staged name stage) = named stage ≡ name.now
OutputNamed named (Lost name) = Unit {0}
