-- A run of the program, as its statements see it.
use Rattle.std.specs.Prelude.{ℕ, List, Option}
use Rattle.ta_shelf.specs.Calls.{Event, Grew, Put}
use Rattle.ta_shelf.specs.OutputCalls.{Acts}
use Rattle.ta_shelf.specs.Put.{Told}
use Rattle.ta_shelf.specs.Sights.{View, seen}

-- what the shelf tells of its files, the calls on it so far, and what was written to the output
pub record World : Type 0 where
  pub files : Option Told
  pub calls : List Event
  pub written : Option (List ℕ)

-- a run of the program: its status, its words, and what there was before it and after it
pub record Ended : Type 0 where
  pub status : ℕ
  pub words : List (List ℕ)
  pub before : World
  pub after : World

-- all that the run did on the shelf was to read, and what it saw there is such
abbrev pub Saw : Ended → (View → Type 0) → Type 0
Saw r Such = Grew (λ read. Such (seen r.before.files read)) r.before.calls r.after.calls

-- it began files with these names, discarded them, and read; what it saw is such. Of the calls that changed files after that it says nothing
abbrev pub Did : Ended → List (List ℕ) → (View → Type 0) → Type 0
Did r names Such = Acts names (λ read made. Such (seen r.before.files read)) r.before.calls r.after.calls

-- the same, and such are what it saw and the calls that changed files after it had read
abbrev pub Made : Ended → List (List ℕ) → (View → List Put → Type 0) → Type 0
Made r names Such = Acts names (λ read made. Such (seen r.before.files read) made) r.before.calls r.after.calls
