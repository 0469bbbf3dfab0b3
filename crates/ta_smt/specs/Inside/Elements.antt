-- Elements while they are read.
use Rattle.std.specs.Prelude.{ℕ, List, [], ◌∷◌, Option, None, Some}
use Rattle.ta_words.specs.declared.element.Element.{Element}
use Rattle.ta_smt.specs.WordText.{element_of}

-- one more element, if there is one
abbrev pub with_element : Option Element → List Element → List Element
with_element None elements = elements
with_element (Some element) elements = element ∷ elements

-- the elements of those texts that name one
abbrev pub those_elements : List (List ℕ) → List Element
those_elements [] = []
those_elements (text ∷ texts) = with_element (element_of text) (those_elements texts)
