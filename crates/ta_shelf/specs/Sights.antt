-- What is seen of files: what the calls of a run returned, and the files themselves where their contents are known.
use Rattle.std.specs.Prelude.{ℕ, ◌≡◌, ◌≢◌, ◌<◌, ◌≤◌, Bool, Decides, List, [], ◌∷◌, ◌++◌, length, take, Option, None, Some, Ok}
use Rattle.ta_shelf.specs.Calls.{Call, ReadsFirst, Spells, Stops}
use Rattle.ta_shelf.specs.Compare.{TellsOther}
use Rattle.ta_shelf.specs.Place.{asks_place}
use Rattle.ta_shelf.specs.Put.{Told}
use Rattle.ta_shelf.specs.ReadPiece.{BeginsWith}
use Rattle.ta_shelf.specs.declared.fault.ShelfFault.TheVariants.{Missing}

-- what is seen of a name: all bytes of its file, or that it has none, or the first bytes of its file, or that it does not hold exactly
-- these bytes; or whether it leads to the same place as this name
pub data Sight : Type 0 where
  Whole : List ℕ → Sight
  Absent : Sight
  Begins : List ℕ → Sight
  Unlike : List ℕ → Sight
  Leads : List ℕ → Bool → Sight

-- what is seen of each name
abbrev pub View : Type 1
View = List ℕ → Sight → Type 0

-- in known files
abbrev pub in_files : Told → View
in_files told name (Whole bytes) = told name ≡ Some bytes
in_files told name Absent = told name ≡ None
in_files told name (Begins bytes) = BeginsWith (told name) bytes
in_files told name (Unlike bytes) = told name ≢ Some bytes
in_files told name (Leads other same) = Decides same (name ≡ other)

-- the same, if the files are known
abbrev pub where_told : Option Told → View
where_told None name sight = Unit {0}
where_told (Some told) name sight = in_files told name sight

-- some of the calls, consecutive ones, have a property
pub record Part (Such : List Call → Type 0) (calls : List Call) : Type 0 where
  pub before : List Call
  pub those : List Call
  pub after : List Call
  pub all : calls ≡ before ++ (those ++ after)
  pub such : Such those

-- in what the calls of a run returned
abbrev pub in_calls : List Call → View
in_calls calls name (Whole bytes) = Part (λ those. Spells name those bytes) calls
in_calls calls name Absent = Part (λ those. Stops name those Missing) calls
in_calls calls name (Begins bytes) = Part (λ those. (more : List ℕ) × ReadsFirst name those (bytes ++ more)) calls
in_calls calls name (Unlike bytes) = Part (TellsOther name bytes) calls
in_calls calls name (Leads other same) = Part (λ those. those ≡ asks_place name other (Ok same) ∷ []) calls

-- in what the calls of a run returned, and in the files, if they are known
abbrev pub seen : Option Told → List Call → View
seen files calls name sight = in_calls calls name sight × where_told files name sight

-- the file with this name has these bytes, at most as many as a limit allows
pub record HasBytes (view : View) (name : List ℕ) (limit : ℕ) (bytes : List ℕ) : Type 0 where
  pub seen : view name (Whole bytes)
  pub within : length bytes ≤ limit

-- the file with this name has more bytes than a limit, and its first bytes, up to the limit, have a property
pub record HasMore (view : View) (name : List ℕ) (limit : ℕ) (Such : List ℕ → Type 0) : Type 0 where
  pub bytes : List ℕ
  pub seen : view name (Begins bytes)
  pub more : limit < length bytes
  pub such : Such (take limit bytes)
