-- The texts that name a schema: its pattern's name, its start set and its elements.
use Rattle.std.specs.Prelude.{ℕ, zero, suc, ◌&&◌, ◌==◌, Bool, false, List, [], ◌∷◌, codes, decimal, not, Option, None, Some, if◌then◌else◌, option_and_then}
use Rattle.std.specs.Prelude.{option_map}
use Rattle.std.specs.List.{list_all, list_any, slice_split}
use Rattle.std.specs.Option.{unwrap_or}
use Rattle.std.specs.Str.{bytes_eq}
use Rattle.ta_base.specs.Bytes.{is_letter, is_word}
use Rattle.ta_words.specs.declared.element.Element.{Element}
use Rattle.ta_words.specs.declared.element.Element.TheVariants.{Event, Rise, Fall}

-- the keywords, which are not names
abbrev pub keywords : List (List ℕ)
keywords =
    codes "automaton" ∷ codes "parameters" ∷ codes "shared" ∷ codes "locations" ∷ codes "initial" ∷ codes "processes" ∷ codes "resilience" ∷ codes "rule"
    ∷ codes "when" ∷ codes "do" ∷ codes "pattern" ∷ codes "start" ∷ codes "empty" ∷ codes "event" ∷ codes "after" ∷ []

-- a letter or `_` stands first
abbrev pub begins_by_letter : List ℕ → Bool
begins_by_letter [] = false
begins_by_letter (b ∷ bs) = is_letter b

-- a letter or `_`, then letters, digits and `_`, and no keyword
abbrev pub is_name : List ℕ → Bool
is_name text = begins_by_letter text && list_all is_word text && not (list_any (bytes_eq text) keywords)

-- names with a comma between
abbrev pub are_names : List ℕ → Bool
are_names text = list_all is_name (slice_split (λ c. c == 44) text)

-- the number up to a limit that is written so
unfoldable pub number_up_to : ℕ → List ℕ → Option ℕ
number_up_to zero text = if bytes_eq text (decimal zero) then Some zero else None
number_up_to (suc limit) text = if bytes_eq text (decimal (suc limit)) then Some (suc limit) else number_up_to limit text

-- an event, a rise guard, or a set of fall guards, by its letter: `e`, `r`, `f`
abbrev pub element_by : ℕ → ℕ → Option Element
element_by letter number = if letter == 101 then Some (Event number) else
    (if letter == 114 then Some (Rise number) else (if letter == 102 then Some (Fall number) else None))

-- `eN`, `rN` or `fN`, with N from 0 to 255
abbrev pub element_of : List ℕ → Option Element
element_of [] = None
element_of (letter ∷ digits) = option_and_then (element_by letter) (number_up_to 255 digits)

-- an element for each text
abbrev pub each_element : List (List ℕ) → Option (List Element)
each_element [] = Some []
each_element (text ∷ texts) = option_and_then (λ element. option_map (λ elements. element ∷ elements) (each_element texts)) (element_of text)

-- `-` for no elements, or elements with a comma between
abbrev pub elements_of : List ℕ → Option (List Element)
elements_of text = if bytes_eq text (codes "-") then Some [] else each_element (slice_split (λ c. c == 44) text)

-- the elements of a text, where it is one of elements
abbrev pub elements_in : List ℕ → List Element
elements_in text = unwrap_or (elements_of text) []
