-- What a shelf answers when a staged file is begun, added to and published: a file is replaced atomically.
use Rattle.std.specs.Prelude.{ℕ, ◌≤◌, ◌≡◌, ◌⊎◌, List, [], ◌∷◌, ◌++◌, length, take, Some, Result, Ok, Err}
use Rattle.std.specs.List.{concat}
use Rattle.ta_shelf.specs.Calls.{Put}
use Rattle.ta_shelf.specs.declared.entry.Step.{Step}
use Rattle.ta_shelf.specs.Put.{Told}
use Rattle.ta_shelf.specs.declared.fault.PutFault.{PutFault}

-- whether a call was refused, and why, without its other answer
abbrev pub answer_of : {A : Type 0} → Result A PutFault → Result (Unit {0}) PutFault
answer_of (Ok a) = Ok tt
answer_of (Err fault) = Err fault

-- this many of the first of these bytes were added
pub record AddsFirst (bytes before after : List ℕ) : Type 0 where
  pub count : ℕ
  pub within : count ≤ length bytes
  pub added : after ≡ before ++ take count bytes

-- all of these bytes were added; after a refusal some of the first of them
abbrev pub AddsTo : Result (Unit {0}) PutFault → List ℕ → List ℕ → List ℕ → Type 0
AddsTo (Ok u) bytes before after = after ≡ before ++ bytes
AddsTo (Err fault) bytes before after = AddsFirst bytes before after

-- the file with this name holds exactly these bytes; after a refusal these or what it held before
abbrev pub Publishes : Result (Unit {0}) PutFault → List ℕ → List ℕ → Told → Told → Type 0
Publishes (Ok u) name bytes before after = after name ≡ Some bytes
Publishes (Err fault) name bytes before after = (after name ≡ before name) ⊎ (after name ≡ Some bytes)

-- the call that begins a staged file for a name
abbrev pub begun : List ℕ → Put
begun name = record { name = name; step = Step.Begin; bytes = []; answer = Ok tt }

-- the calls that add these pieces to it, one after the other, and take all of each piece
abbrev pub added : List ℕ → List (List ℕ) → List Put
added name [] = []
added name (piece ∷ pieces) = record { name = name; step = Step.Add; bytes = piece; answer = Ok tt } ∷ added name pieces

-- the call that puts it in the place of its name
abbrev pub published : List ℕ → Put
published name = record { name = name; step = Step.Publish; bytes = []; answer = Ok tt }

-- the calls that stage a file for a name, which holds exactly these bytes: it is begun, and pieces that are these bytes, one after the
-- other, are added
pub record Stages (name bytes : List ℕ) (calls : List Put) : Type 0 where
  pub pieces : List (List ℕ)
  pub text : bytes ≡ concat pieces
  pub all : calls ≡ begun name ∷ added name pieces
