-- The files that an answer writes.
use Rattle.std.specs.Prelude.{ℕ, ◌≡◌, ◌⊎◌, List, [], ◌∷◌, ◌++◌, Contains, map, Option, None, Some, option_map}
use Rattle.ta_shelf.specs.Put.{OthersStay, Told, WhereTold}
use Rattle.ta_shelf.specs.declared.answer.Content.{Content}
use Rattle.ta_shelf.specs.declared.answer.Content.TheVariants.{Pieces, Bytes}
use Rattle.ta_shelf.specs.declared.answer.Outputs.{Outputs}
use Rattle.ta_shelf.specs.declared.answer.Put.{Put}
use Rattle.std.specs.List.{concat}

-- the bytes of a content: its texts, one after the other, or its bytes
abbrev pub content_bytes : Content → List ℕ
content_bytes (Pieces texts) = concat texts
content_bytes (Bytes bytes) = bytes

-- what is put
abbrev pub put_bytes : Put → List ℕ
put_bytes put = content_bytes put.content

-- a file to be put: its name, and its text
pub record PutText : Type 0 where
  pub name : List ℕ
  pub text : List ℕ

abbrev pub put_text : Put → PutText
put_text put = record { name = put.name; text = put_bytes put }

-- the file with this name holds this text, and every other file is unchanged
pub record HoldsText (name text : List ℕ) (before after : Told) : Type 0 where
  pub held : after name ≡ Some text
  pub others : OthersStay name before after

-- a file holds what is put, and every other file is unchanged
abbrev pub HoldsPut : Put → Told → Told → Type 0
HoldsPut put before after = HoldsText put.name (put_bytes put) before after

-- each file is put; those after the first were put in their places before it
abbrev pub Stand : List Put → Option Told → Option Told → Type 0
Stand [] before after = after ≡ before
Stand (put ∷ puts) before after = (middle : Option Told) × Stand puts before middle × WhereTold (HoldsPut put) middle after

-- the file with this name holds what it held before, or the whole of this text, and every other file is unchanged
pub record HoldsEither (name text : List ℕ) (before after : Told) : Type 0 where
  pub either : (after name ≡ before name) ⊎ (after name ≡ Some text)
  pub others : OthersStay name before after

-- the files after that with this name are put; that file holds what it held before, or what was to be put; every other file is unchanged
abbrev pub StopAt : List ℕ → List Put → Option Told → Option Told → Type 0
StopAt name [] before after = ⊥
StopAt name (put ∷ puts) before after =
    StopAt name puts before after
    ⊎ ((middle : Option Told) × Stand puts before middle × (put.name ≡ name) × WhereTold (HoldsEither put.name (put_bytes put)) middle after)

-- the files that are put are among those of these names
abbrev pub PutsWithin : List (List ℕ) → List Put → Type 0
PutsWithin names [] = Unit {0}
PutsWithin names (put ∷ puts) = Contains names put.name × PutsWithin names puts

-- every file except those of these names is unchanged; if the list is empty, all are
abbrev pub KeptBut : List (List ℕ) → Option Told → Option Told → Type 0
KeptBut [] before after = after ≡ before
KeptBut (name ∷ names) before after =
    WhereTold (λ files files'. (other : List ℕ) → ¬ Contains (name ∷ names) other → files' other ≡ files other) before after

-- the name, if one is given
abbrev pub may_put : Option (List ℕ) → List (List ℕ)
may_put None = []
may_put (Some name) = name ∷ []

-- the names of a command's outputs
abbrev pub output_names : Outputs → List (List ℕ)
output_names outputs = may_put (option_map (λ w. w.now) outputs.first) ++ may_put (option_map (λ w. w.now) outputs.second)

-- the names of files that are put
abbrev pub names_put : List Put → List (List ℕ)
names_put puts = map (λ p. p.name) puts
