-- What writing files to a shelf answers.
use Rattle.std.specs.Prelude.{ℕ, ◌≡◌, ◌⊎◌, ◌∷◌, [], Contains, List, map, Option, Result, Ok, Err}
use Rattle.ta_shelf.specs.Calls.{Put}
use Rattle.ta_shelf.specs.Counts.{Faulted}
use Rattle.std.specs.List.{concat}
use Rattle.ta_shelf.specs.Put.{Told, WhereTold}
use Rattle.ta_shelf.specs.Sink.{with_text}
use Rattle.ta_shelf.specs.Stage.{Stages, added, published}
use Rattle.ta_shelf.specs.WriteWhole.{AddsPrefix}
use Rattle.ta_shelf.specs.declared.entry.Step.{Step}
use Rattle.ta_shelf.specs.declared.fault.PutFault.{PutFault}
use Rattle.ta_shelf.specs.declared.answer.Put as answer
use Rattle.ta_shelf.specs.declared.answer.Refusal.{Refusal}
use Rattle.ta_shelf.specs.declared.answer.Refusal.TheVariants.{Refused, ReadFailed, PutFailed, Memory}
use Rattle.ta_shelf.specs.declared.putting.Halt.{Halt}
use Rattle.ta_shelf.specs.declared.putting.Halt.TheVariants as halt
use Rattle.ta_shelf.specs.Ends.{Calm, SinkFaltered, SinkState, Tells, Unpublished, Unstaged}
use Rattle.ta_shelf.specs.OutputCalls.{AreStaging, PutWhole}
use Rattle.ta_shelf.specs.Puts.{HoldsEither, HoldsText, Stand, names_put, put_text}

-- the refusal is about one of these names, whose file cannot be begun
abbrev pub BeginRefuses : List (List ℕ) → Result (Unit {0}) Refusal → Type 0
BeginRefuses names (Ok u) = Unit {0}
BeginRefuses names (Err (Refused number name why)) = ⊥
BeginRefuses names (Err (ReadFailed name)) = ⊥
BeginRefuses names (Err (PutFailed name)) = Contains names name.now
BeginRefuses names (Err Memory) = Unit {0}

-- beginning a file failed only if the shelf counts a failure; otherwise its count is unchanged
abbrev pub BeginCause : Result (Unit {0}) Refusal → ℕ → ℕ → Type 0
BeginCause (Ok u) before after = after ≡ before
BeginCause (Err (Refused number name why)) before after = ⊥
BeginCause (Err (ReadFailed name)) before after = ⊥
BeginCause (Err (PutFailed name)) before after = Faulted before after
BeginCause (Err Memory) before after = after ≡ before

-- a staged file has these bytes; after a refusal no file is staged
abbrev pub StagesOr : {S : Type 0} → Result S PutFault → List ℕ → List ℕ → List Put → Type 0
StagesOr (Ok stage) name bytes calls = Stages name bytes calls
StagesOr (Err fault) name bytes calls = AreStaging (name ∷ []) calls

-- these bytes were added in pieces, one after the other; after a refusal no file is staged
abbrev pub AddsOr : Result (Unit {0}) PutFault → List ℕ → List ℕ → List Put → Type 0
AddsOr (Ok u) name bytes calls = (pieces : List (List ℕ)) × (bytes ≡ concat pieces) × (calls ≡ added name pieces)
AddsOr (Err fault) name bytes calls = AreStaging (name ∷ []) calls

-- a text was written whole, or the output failed
abbrev pub WritesText : Result (Unit {0}) Halt → List ℕ → SinkState → SinkState → Type 0
WritesText (Ok u) text out out' = (out'.written ≡ with_text out.written text) × Calm out out'
WritesText (Err halt.Unwritten) text out out' = AddsPrefix text out.written out'.written × SinkFaltered out out'
WritesText (Err (halt.Unput name)) text out out' = ⊥
WritesText (Err halt.Memory) text out out' = ⊥

-- the file with this name holds these bytes; after a refusal these, or what it held before
pub record PublishRefused (name bytes : List ℕ) (files files' : Option Told) (made : List Put) : Type 0 where
  pub why : PutFault
  pub call : made ≡ record { name = name; step = Step.Publish; bytes = []; answer = Err why } ∷ []
  pub held : WhereTold (HoldsEither name bytes) files files'

abbrev pub PublishesOne : Result (Unit {0}) Halt → List ℕ → List ℕ → Option Told → Option Told → List Put → Type 0
PublishesOne (Ok u) name bytes files files' made = WhereTold (HoldsText name bytes) files files' × (made ≡ published name ∷ [])
PublishesOne (Err halt.Unwritten) name bytes files files' made = ⊥
PublishesOne (Err (halt.Unput who)) name bytes files files' made = (who.now ≡ name) × PublishRefused name bytes files files' made
PublishesOne (Err halt.Memory) name bytes files files' made = PublishRefused name bytes files files' made

-- files are put, and a text was written whole, or not, by such calls
abbrev pub Settled : List answer.Put → List ℕ → Result (Unit {0}) Halt → Option Told → Option Told → SinkState → SinkState → List Put → Type 0
Settled puts text (Ok u) files files' out out' made = Stand puts files files' × PutWhole (map put_text puts) made × (out'.written ≡ with_text out.written text)
    × Calm out out'
Settled puts text (Err halt.Unwritten) files files' out out' made = Unstaged (names_put puts) files files' made × AddsPrefix text out.written out'.written
    × SinkFaltered out out'
Settled puts text (Err (halt.Unput name)) files files' out out' made =
    Contains (names_put puts) name.now
    × ((Unstaged (names_put puts) files files' made × Tells text out out')
    ⊎ Unpublished (names_put puts) puts name.now text files files' out out' made)
Settled puts text (Err halt.Memory) files files' out out' made =
    (Unstaged (names_put puts) files files' made × (out' ≡ out))
    ⊎ ((name : List ℕ) × Unpublished (names_put puts) puts name text files files' out out' made)

-- putting a file failed only if the shelf counts a failure; otherwise its count is unchanged
abbrev pub SettledCause : Result (Unit {0}) Halt → ℕ → ℕ → Type 0
SettledCause (Ok u) before after = after ≡ before
SettledCause (Err halt.Unwritten) before after = after ≡ before
SettledCause (Err (halt.Unput name)) before after = Faulted before after
SettledCause (Err halt.Memory) before after = after ≡ before
