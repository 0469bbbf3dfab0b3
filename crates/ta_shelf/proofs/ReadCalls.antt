-- what the calls of a reading give is seen in them and in the files
use Rattle.ta_shelf.proofs.Common.{IfSome, WholeFault, Memory}
use Rattle.ta_shelf.proofs.ShellCommon.{◌≡◌, ◌∷◌, ◌∙◌, refl, ap, Event, Reads, Puts, reads, List, [], ℕ, Option, None, Some, Result, Ok, Err, sym, subst, inl}
use Rattle.ta_shelf.proofs.ShellCommon.{inr, append-nil, Call, ReadsBy, Spells, bytes_given, Told, BeginsWith, GivesFirst, ReadsWhole, Missing, TooLong}
use Rattle.ta_shelf.proofs.ShellCommon.{Refusal, Refused, ReadFailed, PutFailed, Gives, IsReading, IsUnreadable, SaysOfFile, Absent, Begins, HasMore, Part}
use Rattle.ta_shelf.proofs.ShellCommon.{View, Whole, seen, where_told, Memory as NoMemory}
use Rattle.ta_shelf.specs.declared.fault.WholeFault.TheVariants.{Failed}
use Rattle.ta_shelf.specs.declared.file_reading.Limit.{Limit}

-- the calls that read, of a log
abbrev reads_in : List Event → List Call
reads_in [] = []
reads_in (Reads call ∷ events) = call ∷ reads_in events
reads_in (Puts put ∷ events) = reads_in events

reads_in_reads : (calls : List Call) → reads_in (reads calls) ≡ calls
reads_in_reads [] = refl
reads_in_reads (call ∷ calls) = ap (λ (cs : List Call). call ∷ cs) (reads_in_reads calls)

-- a log of calls that read tells which they are
pub reads_same : (first second : List Call) → reads first ≡ reads second → first ≡ second
reads_same first second same = sym (reads_in_reads first) ∙ ap reads_in same ∙ reads_in_reads second

-- all calls are part of them
pub all_of : (Such : List Call → Type 0) (calls : List Call) → Such calls → Part Such calls
all_of Such calls such = record { before = []; those = calls; after = []; all = sym (append-nil calls); such = such }

-- the calls are of one reading, whatever it answers
pub is_reading : (name : List ℕ) (limit : ℕ) (answer : Result (List ℕ) WholeFault) (calls : List Call) → ReadsBy name limit answer calls → IsReading name calls
is_reading name limit (Ok bytes) calls h = inr (bytes, Ok [], h)
is_reading name limit (Err Missing) calls h = inr (h.read, _, h.ends)
is_reading name limit (Err Failed) calls h = inr (h.read, _, h.ends)
is_reading name limit (Err TooLong) calls h = inl h.0
is_reading name limit (Err Memory) calls h = elim h [ inl order ↦ inl order | inr stops ↦ inr (stops.read, _, stops.ends) ]

pub sees_whole : (files : Option Told) (name : List ℕ) (limit : ℕ) (bytes : List ℕ) (calls : List Call) → Spells name calls bytes
    → IfSome files (λ m. ReadsWhole (m name) limit (Ok bytes)) → seen files calls name (Whole bytes)
sees_whole None name limit bytes calls spells told = (all_of _ calls spells, tt)
sees_whole (Some m) name limit bytes calls spells told = (all_of _ calls spells, told)

pub sees_absent : (files : Option Told) (name : List ℕ) (limit : ℕ) (calls : List Call) → ReadsBy name limit (Err Missing) calls
    → IfSome files (λ m. ReadsWhole (m name) limit (Err Missing)) → seen files calls name Absent
sees_absent None name limit calls stops told = (all_of _ calls stops, tt)
sees_absent (Some m) name limit calls stops told = (all_of _ calls stops, told)

-- the file is told to begin with what the calls gave
begins_there : (files : Option Told) (name : List ℕ) (calls : List Call) → IfSome files (λ m. BeginsWith (m name) (bytes_given calls))
    → where_told files name (Begins (bytes_given calls))
begins_there None name calls told = tt
begins_there (Some m) name calls told = told

pub sees_more : (files : Option Told) (name : List ℕ) (limit : ℕ) (calls : List Call) → ReadsBy name limit (Err TooLong) calls
    → IfSome files (λ m. GivesFirst (m name) (Err TooLong) calls) → HasMore (seen files calls) name limit (λ bytes. Unit {0})
sees_more files name limit calls longer told = record {
  bytes = bytes_given calls;
  seen = (all_of _ calls ([], record { in_order = longer.0; given = append-nil (bytes_given calls) }), begins_there files name calls told);
  more = longer.1;
  such = tt;
}

-- a refusal that says why a file is no use
pub gives_refusal : (view : View) (name : List ℕ) (limit : Limit) (calls : List Call) (words : List ℕ) (refusal : Refusal) → SaysOfFile limit name words refusal
    → IsUnreadable view name limit.bytes (λ bytes. Unit {0}) words → Gives view name limit calls (Err refusal)
gives_refusal view name limit calls words (Refused number who why) says unreadable =
    (says.0, says.1, subst (IsUnreadable view name limit.bytes (λ bytes. Unit {0})) (sym says.2) unreadable)
gives_refusal view name limit calls words (ReadFailed who) says unreadable = absurd says
gives_refusal view name limit calls words (PutFailed who) says unreadable = absurd says
gives_refusal view name limit calls words NoMemory says unreadable = absurd says
