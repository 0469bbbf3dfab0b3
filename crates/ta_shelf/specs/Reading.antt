-- What reading a command's file answers.
use Rattle.std.specs.Prelude.{ℕ, ◌≡◌, ◌⊎◌, List, Option, Result, Ok, Err}
use Rattle.ta_shelf.specs.Calls.{Call, EndsWith, ReadsOn, Spells}
use Rattle.ta_shelf.specs.Counts.{Faulted}
use Rattle.ta_shelf.specs.Put.{Told}
use Rattle.ta_shelf.specs.declared.fault.ShelfFault.{ShelfFault}
use Rattle.ta_shelf.specs.declared.fault.ShelfFault.TheVariants as shelf
use Rattle.ta_shelf.specs.declared.answer.Refusal.{Refusal}
use Rattle.ta_shelf.specs.declared.answer.Refusal.TheVariants.{Refused, ReadFailed, PutFailed, Memory}
use Rattle.ta_shelf.specs.declared.file_reading.Limit.{Limit}
use Rattle.ta_shelf.specs.Lines.{file_line, long_certificate, longer_than, missing, phrase_text}
use Rattle.ta_shelf.specs.Sights.{Absent, HasBytes, HasMore, View, seen}

-- a file is missing, or it is too long and begins with these bytes, as many as it may have; and the words say so
abbrev pub IsUnreadable : View → List ℕ → ℕ → (List ℕ → Type 0) → List ℕ → Type 0
IsUnreadable view name limit Such words = (view name Absent × (words ≡ missing)) ⊎ (HasMore view name limit Such × (words ≡ longer_than limit))

-- the refusal says these words about the file with this name, with the status of its limit
abbrev pub SaysOfFile : Limit → List ℕ → List ℕ → Refusal → Type 0
SaysOfFile limit name words (Refused number who why) = (number ≡ limit.number) × (who.now ≡ name) × (phrase_text why ≡ words)
SaysOfFile limit name words _ = ⊥

-- the refusal says that the certificate for the file with this name is too long
abbrev pub SaysLong : List ℕ → Refusal → Type 0
SaysLong name (Refused number who why) = (number ≡ 4) × (file_line who.now (phrase_text why) ≡ file_line name long_certificate)
SaysLong name (ReadFailed who) = ⊥
SaysLong name (PutFailed who) = ⊥
SaysLong name Memory = ⊥

-- the refusal says why a read of the file with this name was refused
abbrev pub UnreadBy : Limit → List ℕ → ShelfFault → Refusal → Type 0
UnreadBy limit name shelf.Missing refusal = SaysOfFile limit name missing refusal
UnreadBy limit name shelf.Failed (ReadFailed who) = who.now ≡ name
UnreadBy limit name shelf.Failed _ = ⊥
UnreadBy limit name shelf.Memory refusal = refusal ≡ Memory

-- the calls of one reading of the file with this name, to its end or up to one of them
abbrev pub IsReading : List ℕ → List Call → Type 0
IsReading name calls = ReadsOn name 0 calls ⊎ ((read : List ℕ) × (last : Result (List ℕ) ShelfFault) × EndsWith name calls read last)

-- the bytes of a file; or it is refused; or reading it failed
abbrev pub Gives : View → List ℕ → Limit → List Call → Result (List ℕ) Refusal → Type 0
Gives view name limit calls (Ok bytes) = HasBytes view name limit.bytes bytes × Spells name calls bytes
Gives view name limit calls (Err (Refused n who why)) = (n ≡ limit.number) × (who.now ≡ name)
    × IsUnreadable view name limit.bytes (λ bytes. Unit {0}) (phrase_text why)
Gives view name limit calls (Err (ReadFailed who)) = who.now ≡ name
Gives view name limit calls (Err (PutFailed who)) = ⊥
Gives view name limit calls (Err Memory) = Unit {0}

-- the calls of a reading, and what it gives of what is seen in them and in the files
pub record ReadsFile (files : Option Told) (name : List ℕ) (limit : Limit) (result : Result (List ℕ) Refusal) (calls : List Call) : Type 0 where
  pub reading : IsReading name calls
  pub gives : Gives (seen files calls) name limit calls result

-- reading failed only if the shelf counts a failure; after any other answer its count is unchanged
abbrev pub ReadCause : {T : Type 0} → Result T Refusal → ℕ → ℕ → Type 0
ReadCause (Ok answer) before after = after ≡ before
ReadCause (Err (Refused number name why)) before after = after ≡ before
ReadCause (Err (ReadFailed name)) before after = Faulted before after
ReadCause (Err (PutFailed name)) before after = ⊥
ReadCause (Err Memory) before after = after ≡ before
