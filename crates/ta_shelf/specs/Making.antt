-- What takes the bytes of a staged file on the disk.
use Rattle.std.specs.Prelude.{ℕ, ◌≡◌, List, Option}
use Rattle.std.specs.Io.KnownBytes.{Appends}
use Rattle.ta_shelf.specs.Calls.{bytes_put}
use Rattle.ta_shelf.specs.declared.disk_stage.Making.{Making}
use Rattle.ta_shelf.specs.declared.disk_stage.Making.TheVariants.{Beside, Within}
use Rattle.ta_shelf.specs.declared.system.access.Access.{Access}

-- the bytes that it took so far
abbrev pub bytes_made : {F : Type 0} → Making F → List ℕ
bytes_made (Beside opened target taken) = bytes_put taken.calls
bytes_made (Within held) = held.bytes

-- a file that takes them was made where none had its name
abbrev pub IsNewFile : {F : Type 0} → Making F → Type 0
IsNewFile (Beside opened target taken) = opened.access ≡ Access.New
IsNewFile (Within held) = Unit {0}

-- if a file takes them, these bytes were given to it
abbrev pub FileTakes : {F : Type 0} → (F → Option (List ℕ)) → Making F → Making F → List ℕ → Type 0
FileTakes contents (Beside opened target taken) (Beside opened' target' taken') bytes = Appends (contents opened.file) (contents opened'.file) bytes
FileTakes contents (Within held) (Within held') bytes = Unit {0}
FileTakes contents _ _ bytes = ⊥
