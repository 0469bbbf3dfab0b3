-- What `export` and `admit` are asked for: a schema of a pattern, by names and numbers.
use Rattle.std.specs.Prelude.{ℕ, List, Option, None, Some, if◌then◌else◌, option_and_then, option_map}
use Rattle.ta_smt.specs.Named.{Spelling}
use Rattle.ta_smt.specs.WordText.{elements_of, is_name, number_up_to}
use Rattle.ta_program.specs.Values.{file_name_of}
use Rattle.ta_program.specs.Words.{Taken, plain_of}

-- the name of a pattern, which is not a keyword
abbrev pub pattern_of : List ℕ → Option (List ℕ)
pattern_of text = if is_name text then Some text else None

-- PATTERN START WORD, START from 0 to 63
abbrev pub spelling_of : List ℕ → List ℕ → List ℕ → Option Spelling
spelling_of pattern start word =
    option_and_then (λ name. option_and_then (λ mask. option_map (λ elements. record { name = name; start = mask; elements = elements }) (elements_of word))
    (number_up_to 63 start)) (pattern_of pattern)

-- FILE, and a schema
pub record WordAsked : Type 0 where
  pub file : List ℕ
  pub word : Spelling

-- FILE PATTERN START WORD
abbrev pub asked_of : Taken → Option WordAsked
asked_of taken =
    option_and_then (λ file. option_map (λ word. record { file = file; word = word }) (spelling_of (plain_of taken 1) (plain_of taken 2) (plain_of taken 3)))
    (file_name_of (plain_of taken 0))
