-- Those of a file's patterns that are meant: all, or one.
use Rattle.std.specs.Prelude.{ℕ, ◌==◌, List, [], ◌∷◌, slice_get, Option, None, Some, if◌then◌else◌}
use Rattle.ta_report.specs.declared.pick.Pick.{Pick}
use Rattle.ta_report.specs.declared.pick.Pick.TheVariants.{All, One}

-- an item, if there is one, as a list
abbrev pub listed : {A : Type 0} → Option A → List A
listed None = []
listed (Some x) = x ∷ []

-- all items of a list, or the one with the number, if there is one
abbrev pub picked : {A : Type 0} → Pick → List A → List A
picked All xs = xs
picked (One k) xs = listed (slice_get xs k)

-- the number of the first of them
abbrev pub first_picked : Pick → ℕ
first_picked All = 0
first_picked (One k) = k

-- in a list with an entry for each picked item, the entry for the item with this number
abbrev pub entry_of : {A : Type 0} → Pick → List A → ℕ → Option A
entry_of All entries number = slice_get entries number
entry_of (One k) entries number = if number == k then slice_get entries 0 else None
