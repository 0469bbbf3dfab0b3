-- The words of a command line: plain words and options, taken from left to right.
use Rattle.std.specs.Prelude.{ℕ, ◌+◌, ◌==◌, ◌||◌, nat_lt, Bool, true, false, List, [], ◌∷◌, ◌++◌, codes, length, get_or, slice_set, is_some, Option, None, Some}
use Rattle.std.specs.Prelude.{if◌then◌else◌, option_and_then}
use Rattle.std.specs.Str.{bytes_eq}

-- an option of a command: its word, and whether a value belongs to it
pub record OptionForm : Type 0 where
  pub word : List ℕ
  pub valued : Bool

-- the form of a command's words: how many plain words there are, at most five, and the options, at most eight
pub record Form : Type 0 where
  pub plain : ℕ
  pub options : List OptionForm

-- an option that has a value, and one that has none
abbrev pub valued : List ℕ → OptionForm
valued word = record { word = word; valued = true }

abbrev pub flag : List ℕ → OptionForm
flag word = record { word = word; valued = false }

-- begins with `-` and is longer than that
abbrev pub is_dashed : List ℕ → Bool
is_dashed [] = false
is_dashed (c ∷ []) = false
is_dashed (c ∷ d ∷ cs) = c == 45

-- the state of reading the words: the plain words so far, the values of the form's options (an option without a value has an empty one),
-- whether `--` occurred, and the number of the option whose value is the next word
pub record Taken : Type 0 where
  pub plain : List (List ℕ)
  pub values : List (Option (List ℕ))
  pub ended : Bool
  pub awaits : Option ℕ

-- before the first word
abbrev pub nothing : Taken
nothing = record { plain = []; values = None ∷ None ∷ None ∷ None ∷ None ∷ None ∷ None ∷ None ∷ []; ended = false; awaits = None }

-- one more plain word, if the form has one more
abbrev pub with_plain : ℕ → Taken → List ℕ → Option Taken
with_plain plain taken word = if nat_lt (length taken.plain) plain then Some (record taken { plain = taken.plain ++ (word ∷ []) }) else None

-- the plain word with this number
abbrev pub plain_of : Taken → ℕ → List ℕ
plain_of taken number = get_or taken.plain number []

-- the value of the option with this number
abbrev pub option_value : Taken → ℕ → Option (List ℕ)
option_value taken number = get_or taken.values number None

-- whether the option with this number was given
abbrev pub is_given : Taken → ℕ → Bool
is_given taken number = is_some (option_value taken number)

-- the value of the option, if it was not given before
abbrev pub with_value : Taken → ℕ → List ℕ → Option Taken
with_value taken number value =
    if is_given taken number then None else Some (record taken { values = slice_set taken.values number (Some value); awaits = None })

-- the rest of a word that begins with a text
abbrev pub behind : List ℕ → List ℕ → Option (List ℕ)
behind [] word = Some word
behind (c ∷ cs) [] = None
behind (c ∷ cs) (d ∷ ds) = if c == d then behind cs ds else None

-- the value of the option with this number if the word has it, otherwise the alternative
abbrev pub otherwise : Option (List ℕ) → ℕ → Taken → Option Taken → Option Taken
otherwise None number taken other = other
otherwise (Some value) number taken other = with_value taken number value

-- one more word that may be one of these options, numbered from this number: `--option` alone, after which the value comes if the option
-- has one, or `--option=V`. Any other word that begins with a dash is refused
abbrev pub with_word : List OptionForm → ℕ → ℕ → Taken → List ℕ → Option Taken
with_word [] number plain taken word = if is_dashed word then None else with_plain plain taken word
with_word (o ∷ os) number plain taken word =
    if bytes_eq word o.word then (if o.valued then Some (record taken { awaits = Some number }) else with_value taken number [])
    else otherwise (if o.valued then option_and_then (behind (codes "=")) (behind o.word word) else None) number taken
    (with_word os (number + 1) plain taken word)

-- one more word, given the option whose value it is, if any; after `--` all words are plain
abbrev pub take_by : Option ℕ → Form → Taken → List ℕ → Option Taken
take_by (Some number) form taken word = if is_dashed word then None else with_value taken number word
take_by None form taken word = if taken.ended then with_plain form.plain taken word
    else (if bytes_eq word (codes "--") then Some (record taken { ended = true }) else with_word form.options 0 form.plain taken word)

-- all words, from left to right
abbrev pub take_all : Form → Taken → List (List ℕ) → Option Taken
take_all form taken [] = Some taken
take_all form taken (word ∷ words) = option_and_then (λ more. take_all form more words) (take_by taken.awaits form taken word)

-- no value and no plain word is missing
abbrev pub whole : ℕ → Taken → Option Taken
whole plain taken = if is_some taken.awaits || nat_lt (length taken.plain) plain then None else Some taken

-- what the words of a form give
abbrev pub taken_by : Form → List (List ℕ) → Option Taken
taken_by form words = option_and_then (whole form.plain) (take_all form nothing words)

-- what the words of a form ask for
abbrev pub asked_by : {W : Type 0} → Form → (Taken → Option W) → List (List ℕ) → Option W
asked_by form read words = option_and_then read (taken_by form words)

-- what a command line asks for after the command's name, if its words are those of this command
abbrev pub behind_name : {W : Type 0} → List ℕ → (List (List ℕ) → Option W) → List (List ℕ) → Option W
behind_name name read [] = None
behind_name name read (word ∷ words) = if bytes_eq word name then read words else None
