-- What comparing a file with given bytes answers.
use Rattle.std.specs.Prelude.{ℕ, ◌≡◌, ◌≢◌, ◌⊎◌, Bool, true, false, List, [], ◌∷◌, ◌++◌, Option, Some, Result, Ok, Err}
use Rattle.ta_shelf.specs.Calls.{Call, ReadsFirst, Spells, Stops}
use Rattle.ta_shelf.specs.Counts.{Faulted}
use Rattle.ta_shelf.specs.declared.fault.ShelfFault.{ShelfFault}
use Rattle.ta_shelf.specs.declared.fault.ShelfFault.TheVariants.{Missing, Failed, Memory}

-- the call by which a log records that a name is not that of a file whose bytes can be read again (a pipe, say): it asks for no bytes
abbrev pub asks_nothing : List ℕ → Call
asks_nothing name = record { name = name; at = 0; asked = 0; gave = Ok [] }

-- a file holds exactly these bytes, or it does not; nothing is said if a call was refused for another reason than a missing file
abbrev pub HoldsSo : Option (List ℕ) → List ℕ → Result Bool ShelfFault → Type 0
HoldsSo file bytes (Ok true) = file ≡ Some bytes
HoldsSo file bytes (Ok false) = file ≢ Some bytes
HoldsSo file bytes (Err Missing) = ⊥
HoldsSo file bytes (Err Failed) = Unit {0}
HoldsSo file bytes (Err Memory) = Unit {0}

-- calls that show that a file does not hold these bytes: it is absent, or it was read whole and differs, or its first bytes differ, or its
-- bytes cannot be read again
abbrev pub TellsOther : List ℕ → List ℕ → List Call → Type 0
TellsOther name bytes calls =
    (Stops name calls Missing ⊎ (calls ≡ record { name = name; at = 0; asked = 0; gave = Ok [] } ∷ []))
    ⊎ ((read : List ℕ) × ((Spells name calls read × (bytes ≢ read)) ⊎ (ReadsFirst name calls read × ((rest : List ℕ) → bytes ≢ read ++ rest))))

-- the calls of a comparison that answers this
abbrev pub ComparesBy : List ℕ → List ℕ → Result Bool ShelfFault → List Call → Type 0
ComparesBy name bytes (Ok true) calls = Spells name calls bytes
ComparesBy name bytes (Ok false) calls = TellsOther name bytes calls
ComparesBy name bytes (Err Missing) calls = ⊥
ComparesBy name bytes (Err Failed) calls = Stops name calls Failed
ComparesBy name bytes (Err Memory) calls = Stops name calls Memory

-- Failed only if the shelf counts a failure; after any other answer the count is unchanged
abbrev pub CompareFailsOnlyFaulted : Result Bool ShelfFault → ℕ → ℕ → Type 0
CompareFailsOnlyFaulted (Ok same) before after = after ≡ before
CompareFailsOnlyFaulted (Err Missing) before after = ⊥
CompareFailsOnlyFaulted (Err Failed) before after = Faulted before after
CompareFailsOnlyFaulted (Err Memory) before after = after ≡ before
