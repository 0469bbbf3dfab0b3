-- a whole file of which a piece was refused
use Rattle.ta_shelf.proofs.Common.{◌≡◌, ℕ, List, Option, Some, None, Err, refl, inr, IfSome, Call, EndsWith, ShelfFault, WholeFault, Memory}
use Rattle.ta_shelf.specs.Calls.{ReadsBy}
use Rattle.ta_shelf.specs.ReadPiece.{GivesFirst}
use Rattle.ta_shelf.specs.ReadWhole.{ReadsWhole, FailsOnlyFaulted}
use Rattle.ta_shelf.specs.Shelf.{ReadsAt, FailsOnlyFaulted as PieceFailsOnlyFaulted}
use Rattle.ta_shelf.specs.declared.fault.ShelfFault.TheVariants.{Missing as MissingThere, Failed as FailedThere, Memory as NoMemory}
use Rattle.ta_shelf.specs.declared.fault.WholeFault.TheVariants.{Missing, Failed}

-- the refusal of the whole file
abbrev pub of_piece : ShelfFault → WholeFault
of_piece MissingThere = Missing
of_piece FailedThere = Failed
of_piece NoMemory = Memory

pub refused_is : (fault : ShelfFault) (found : WholeFault) → (fault ≡ MissingThere → found ≡ Missing) → (fault ≡ FailedThere → found ≡ Failed)
    → (fault ≡ NoMemory → found ≡ Memory) → found ≡ of_piece fault
refused_is MissingThere found missing failed memory = missing refl
refused_is FailedThere found missing failed memory = failed refl
refused_is NoMemory found missing failed memory = memory refl

pub refused_bytes : (files : Option (List ℕ → Option (List ℕ))) (name : List ℕ) (at : ℕ) (buffer : List ℕ) (limit : ℕ) (fault : ShelfFault)
    → IfSome files (λ m. ReadsAt (m name) at buffer (Err fault)) → IfSome files (λ m. ReadsWhole (m name) limit (Err (of_piece fault)))
refused_bytes None name at buffer limit fault reads = tt
refused_bytes (Some files) name at buffer limit MissingThere reads = reads
refused_bytes (Some files) name at buffer limit FailedThere reads = tt
refused_bytes (Some files) name at buffer limit NoMemory reads = tt

pub refused_calls : (name : List ℕ) (limit : ℕ) (calls : List Call) (read : List ℕ) (fault : ShelfFault) → EndsWith name calls read (Err fault)
    → ReadsBy name limit (Err (of_piece fault)) calls
refused_calls name limit calls read MissingThere ends = record { read = read; ends = ends }
refused_calls name limit calls read FailedThere ends = record { read = read; ends = ends }
refused_calls name limit calls read NoMemory ends = inr (record { read = read; ends = ends })

pub refused_begun : (files : Option (List ℕ → Option (List ℕ))) (name : List ℕ) (calls : List Call) (fault : ShelfFault)
    → IfSome files (λ m. GivesFirst (m name) (Err (of_piece fault)) calls)
refused_begun None name calls fault = tt
refused_begun (Some files) name calls MissingThere = tt
refused_begun (Some files) name calls FailedThere = tt
refused_begun (Some files) name calls NoMemory = tt

pub refused_cause : (fault : ShelfFault) (before after : ℕ) → PieceFailsOnlyFaulted (Err fault) before after
    → FailsOnlyFaulted (Err (of_piece fault)) before after
refused_cause MissingThere before after cause = cause
refused_cause FailedThere before after cause = cause
refused_cause NoMemory before after cause = cause
