-- The one line on standard error, and its exit status.
use Rattle.std.specs.Prelude.{ℕ, List, [], ◌∷◌, ◌++◌, codes, decimal}
use Rattle.ta_base.specs.declared.limits.TheConstants.{CERTIFICATE_BYTES}
use Rattle.ta_shelf.specs.declared.phrase.Phrase.{Phrase}
use Rattle.ta_shelf.specs.declared.phrase.Phrase.TheVariants.{Plain, One, Two}
use Rattle.ta_shelf.specs.declared.phrase.Piece.{Piece}
use Rattle.ta_shelf.specs.declared.phrase.Piece.TheVariants.{Words, Number}
use Rattle.ta_shelf.specs.declared.answer.Refusal.{Refusal}
use Rattle.ta_shelf.specs.declared.answer.Refusal.TheVariants.{Refused, ReadFailed, PutFailed, Memory}
use Rattle.ta_shelf.specs.declared.putting.Halt.{Halt}
use Rattle.ta_shelf.specs.declared.putting.Halt.TheVariants as halt

-- a phrase in words
abbrev pub phrase_text : Phrase → List ℕ
phrase_text (Plain words) = words.now
phrase_text (One head number tail) = head.now ++ (decimal number ++ tail.now)
phrase_text (Two head first middle second tail) = head.now ++ (decimal first ++ (middle.now ++ (decimal second ++ tail.now)))

-- pieces, one after the other
abbrev pub piece_text : Piece → List ℕ
piece_text (Words words) = words.now
piece_text (Number number) = decimal number

abbrev pub pieces_text : List Piece → List ℕ
pieces_text [] = []
pieces_text (p ∷ ps) = piece_text p ++ pieces_text ps

-- the line about a file
abbrev pub file_line : List ℕ → List ℕ → List ℕ
file_line name words = codes "tav: " ++ (name ++ (codes ": " ++ (words ++ codes "\n")))

abbrev pub missing : List ℕ
missing = codes "missing"

abbrev pub longer_than : ℕ → List ℕ
longer_than limit = codes "longer than " ++ (decimal limit ++ codes " bytes")

abbrev pub long_certificate : List ℕ
long_certificate = codes "certificate longer than " ++ (decimal CERTIFICATE_BYTES ++ codes " bytes")

-- an output is refused, so that it is not destroyed
abbrev pub holds_read : List ℕ
holds_read = codes "holds what was read"

abbrev pub holds_written : List ℕ
holds_written = codes "holds what was written"

abbrev pub output_line : List ℕ
output_line = codes "tav: output failed\n"

abbrev pub memory_line : List ℕ
memory_line = codes "tav: out of memory\n"

-- the line of a refusal
abbrev pub refusal_line : Refusal → List ℕ
refusal_line (Refused number name why) = file_line name.now (phrase_text why)
refusal_line (ReadFailed name) = file_line name.now (codes "read failed")
refusal_line (PutFailed name) = file_line name.now (codes "write failed")
refusal_line Memory = memory_line

-- its exit status
abbrev pub refusal_number : Refusal → ℕ
refusal_number (Refused number name why) = number
refusal_number (ReadFailed name) = 6
refusal_number (PutFailed name) = 6
refusal_number Memory = 7

-- the line that says why files or a text were not put
abbrev pub halt_line : Halt → List ℕ
halt_line halt.Unwritten = output_line
halt_line (halt.Unput name) = file_line name.now (codes "write failed")
halt_line halt.Memory = memory_line

-- its exit status
abbrev pub halt_number : Halt → ℕ
halt_number halt.Unwritten = 6
halt_number (halt.Unput name) = 6
halt_number halt.Memory = 7
