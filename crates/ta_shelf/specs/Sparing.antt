-- What a command's outputs are compared with, so that no file is destroyed that was read or written.
use Rattle.std.specs.Prelude.{ℕ, ◌≡◌, ◌⊎◌, Bool, false, true, List, [], ◌∷◌, ◌++◌, Contains, Option, Result, Ok, Err}
use Rattle.std.specs.List.{AllByRecursion}
use Rattle.ta_shelf.specs.Calls.{Call}
use Rattle.ta_shelf.specs.Compare.{asks_nothing}
use Rattle.ta_shelf.specs.Place.{asks_place}
use Rattle.ta_shelf.specs.Put.{Told}
use Rattle.ta_shelf.specs.declared.fault.ShelfFault.{ShelfFault}
use Rattle.ta_shelf.specs.declared.answer.Refusal.{Refusal}
use Rattle.ta_shelf.specs.declared.answer.Refusal.TheVariants.{Refused, ReadFailed, PutFailed, Memory}
use Rattle.ta_shelf.specs.Commands.{Meaning}
use Rattle.ta_shelf.specs.Lines.{file_line, holds_read, holds_written, phrase_text}
use Rattle.ta_shelf.specs.Reading.{IsReading}
use Rattle.ta_shelf.specs.Sights.{Leads, Unlike, View, Whole, seen}
use Rattle.ta_shelf.specs.Stages.{FileMeans, Hinders, Kind, Then, after}

-- the calls of one comparison of the file with this name, to their end or up to one of them
abbrev pub IsComparing : List ℕ → List Call → Type 0
IsComparing name calls = IsReading name calls ⊎ (calls ≡ asks_nothing name ∷ [])

-- calls that compare files with these names, at most once each, one after the other
abbrev pub AreComparing : List (List ℕ) → List Call → Type 0
AreComparing [] calls = calls ≡ []
AreComparing (name ∷ names) calls =
    (first second : List Call) × (calls ≡ first ++ second) × ((first ≡ []) ⊎ IsComparing name first) × AreComparing names second

-- calls that ask whether the second of two outputs leads to the same place as the first, at most once; a command has two at most
abbrev pub AreAsking : List (List ℕ) → List Call → Type 0
AreAsking [] calls = calls ≡ []
AreAsking (name ∷ []) calls = calls ≡ []
AreAsking (name ∷ other ∷ more) calls = (calls ≡ []) ⊎ ((answer : Result Bool ShelfFault) × (calls ≡ asks_place other name answer ∷ []))

-- calls that compare outputs with bytes, and then ask where they lead
abbrev pub AreSparing : List (List ℕ) → List Call → Type 0
AreSparing names calls = (first second : List Call) × (calls ≡ first ++ second) × AreComparing names first × AreAsking names second

-- no file of these names holds just these bytes
abbrev pub AreUnlike : View → List (List ℕ) → List ℕ → Type 0
AreUnlike view names bytes = AllByRecursion (λ name. view name (Unlike bytes)) names

-- the file of one of these names holds just these bytes, those before it don't, and the line says so of it in these words
abbrev pub HoldsFirst : View → List (List ℕ) → List ℕ → List ℕ → List ℕ → Type 0
HoldsFirst view [] bytes words line = ⊥
HoldsFirst view (name ∷ names) bytes words line =
    (view name (Whole bytes) × (line ≡ file_line name words)) ⊎ (view name (Unlike bytes) × HoldsFirst view names bytes words line)

-- what the outputs of these names are to be before anything is put in their places: none holds these bytes; or one does, and the refusal says
-- so of the first in these words, with 4; or one failed to be read
abbrev pub SparesBy : View → List (List ℕ) → List ℕ → List ℕ → Result (Unit {0}) Refusal → Type 0
SparesBy view names bytes words (Ok u) = AreUnlike view names bytes
SparesBy view names bytes words (Err (Refused number name why)) = (number ≡ 4) × HoldsFirst view names bytes words (file_line name.now (phrase_text why))
SparesBy view names bytes words (Err (ReadFailed name)) = Contains names name.now
SparesBy view names bytes words (Err (PutFailed name)) = ⊥
SparesBy view names bytes words (Err Memory) = Unit {0}

-- a comparison, by the calls that it makes, and by these and the files
pub record Compares (files : Option Told) (names : List (List ℕ)) (bytes words : List ℕ) (result : Result (Unit {0}) Refusal) (calls : List Call) : Type 0 where
  pub comparing : AreComparing names calls
  pub spares : SparesBy (seen files calls) names bytes words result

-- these names lead to different places
abbrev pub AreApart : View → List (List ℕ) → Type 0
AreApart view [] = Unit {0}
AreApart view (name ∷ names) = AllByRecursion (λ other. view other (Leads name false)) names × AreApart view names

-- the second of two outputs leads to the same place as the first, and the line says of it that it holds what was written
abbrev pub MeetsFirst : View → List (List ℕ) → List ℕ → Type 0
MeetsFirst view [] line = ⊥
MeetsFirst view (name ∷ []) line = ⊥
MeetsFirst view (name ∷ other ∷ more) line = view other (Leads name true) × (line ≡ file_line other holds_written)

-- what comes of asking: outputs lead to different places; or they do not, and the refusal says so with 4; or it could not be told
abbrev pub PartsBy : View → List (List ℕ) → Result (Unit {0}) Refusal → Type 0
PartsBy view names (Ok u) = AreApart view names
PartsBy view names (Err (Refused number name why)) = (number ≡ 4) × MeetsFirst view names (file_line name.now (phrase_text why))
PartsBy view names (Err (ReadFailed name)) = Contains names name.now
PartsBy view names (Err (PutFailed name)) = ⊥
PartsBy view names (Err Memory) = Unit {0}

-- the same, by the calls that are made, and by these and the files
pub record Parts (files : Option Told) (names : List (List ℕ)) (result : Result (Unit {0}) Refusal) (calls : List Call) : Type 0 where
  pub asking : AreAsking names calls
  pub parts : PartsBy (seen files calls) names result

-- an output would destroy something, and the line says so of it: the first that holds just these bytes; or, if none does, the second,
-- which leads to the place of the first
abbrev pub Destroys : View → List (List ℕ) → List ℕ → List ℕ → Type 0
Destroys view names bytes line = HoldsFirst view names bytes holds_read line ⊎ (AreUnlike view names bytes × MeetsFirst view names line)

-- no output destroys what was read or written; or one would, and the refusal says so with 4; or one failed to be read
abbrev pub ProtectsBy : View → List (List ℕ) → List ℕ → Result (Unit {0}) Refusal → Type 0
ProtectsBy view names bytes (Ok u) = AreUnlike view names bytes × AreApart view names
ProtectsBy view names bytes (Err (Refused number name why)) = (number ≡ 4) × Destroys view names bytes (file_line name.now (phrase_text why))
ProtectsBy view names bytes (Err (ReadFailed name)) = Contains names name.now
ProtectsBy view names bytes (Err (PutFailed name)) = ⊥
ProtectsBy view names bytes (Err Memory) = Unit {0}

-- the same, by the calls that are made, and by these and the files
pub record Protects (files : Option Told) (names : List (List ℕ)) (bytes : List ℕ) (result : Result (Unit {0}) Refusal) (calls : List Call) : Type 0 where
  pub sparing : AreSparing names calls
  pub protects : ProtectsBy (seen files calls) names bytes result

-- a name has bytes, no output holds just these, and outputs lead to different places
pub record Differ (view : View) (name : List ℕ) (outs : List (List ℕ)) : Type 0 where
  pub bytes : List ℕ
  pub held : view name (Whole bytes)
  pub unlike : AreUnlike view outs bytes
  pub apart : AreApart view outs

-- a name has bytes, and an output would destroy these, or what is written to another output: with 4 the line says so
pub record HoldsRead (view : View) (name : List ℕ) (outs : List (List ℕ)) (number : ℕ) (line : List ℕ) : Type 0 where
  pub numbered : number ≡ 4
  pub bytes : List ℕ
  pub held : view name (Whole bytes)
  pub first : Destroys view outs bytes line

-- outputs are compared with the file of a name, and then comes the rest
abbrev pub sparing : List ℕ → List (List ℕ) → Meaning → Meaning
sparing name outs rest = record {
  answers = λ view answer. Differ view name outs × rest.answers view answer;
  refuses = λ view number line. HoldsRead view name outs number line ⊎ (Differ view name outs × rest.refuses view number line);
  reads = λ view other. Contains outs other ⊎ (Differ view name outs × rest.reads view other);
  opens = λ calls. AreSparing outs calls ⊎ ((first second : List Call) × (calls ≡ first ++ second) × AreSparing outs first × rest.opens second);
  puts = outs;
}

-- a file is read, the outputs are compared with it, and then comes what its value asks for
abbrev pub spared : {A F : Type 0} → Kind A F → List ℕ → List (List ℕ) → (A → Meaning) → Meaning
spared {A} {F} kind name outs rest = after kind name outs (λ value. sparing name outs (rest value))

-- what reading a file of a kind and comparing outputs with it gives, of what is seen
abbrev pub SparedYields : {A F T : Type 0} → Kind A F → (T → A) → View → List ℕ → List (List ℕ) → Result T Refusal → Type 0
SparedYields {A} {F} {T} kind value view name outs (Ok given) = FileMeans kind view name (value given) × Differ view name outs
SparedYields {A} {F} {T} kind value view name outs (Err (Refused number who why)) =
    Hinders kind view name number (file_line who.now (phrase_text why))
    ⊎ ((means : A) × FileMeans kind view name means × HoldsRead view name outs number (file_line who.now (phrase_text why)))
SparedYields {A} {F} {T} kind value view name outs (Err (ReadFailed who)) = (who.now ≡ name)
    ⊎ ((means : A) × FileMeans kind view name means × Contains outs who.now)
SparedYields {A} {F} {T} kind value view name outs (Err (PutFailed who)) = ⊥
SparedYields {A} {F} {T} kind value view name outs (Err Memory) = Unit {0}

-- the calls of it, and what it gives of what is seen in them and in the files
pub record SparedStage {A F T : Type 0} (kind : Kind A F) (value : T → A) (files : Option Told) (name : List ℕ) (outs : List (List ℕ))
    (result : Result T Refusal) (calls : List Call) : Type 0 where
  pub opened : IsReading name calls ⊎ Then kind name (λ means. AreSparing outs) calls
  pub yields : SparedYields kind value (seen files calls) name outs result
