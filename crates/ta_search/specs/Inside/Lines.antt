-- What the parts of the reader of templates answer.
use Rattle.std.specs.Prelude.{ℕ, ◌+◌, ◌<◌, ◌≤◌, ◌≡◌, ◌⊎◌, ◌++◌, List, [], ◌∷◌, length, true, false, Some}
use Rattle.ta_base.specs.declared.limits.TheConstants.{LARGEST_VALUE, MOST_HOLES, MOST_VECTORS}
use Rattle.ta_smt.specs.WordText.{is_name}
use Rattle.ta_search.specs.declared.template.Hole.{Hole}
use Rattle.ta_search.specs.declared.fault.TemplateFault.{TemplateFault}
use Rattle.ta_search.specs.declared.fault.TemplateFault.TheVariants as fault
use Rattle.ta_search.specs.Holes.{IsSpelledHole, HoleInRange, AreTooMany, vector_count, is_among, unknown_place, hole_line}

-- bytes that are a name of a hole
pub record IsHoleName (bytes : List ℕ) : Type 0 where
  pub name : is_name bytes ≡ true
  pub short : length bytes ≤ 64

-- a line that declares a hole of this name, with these numbers
pub record Declares (line name : List ℕ) (low high : ℕ) : Type 0 where
  pub h : Hole
  pub spelled : IsSpelledHole h
  pub text : line ≡ hole_line h
  pub name_is : name ≡ h.name
  pub low_is : low ≡ h.low
  pub high_is : high ≡ h.high

-- a line that declares a hole which may come after these
pub record AddsHole (hs : List Hole) (line : List ℕ) (h : Hole) : Type 0 where
  pub spelled : IsSpelledHole h
  pub text : line ≡ hole_line h
  pub fresh : is_among hs h.name ≡ false
  pub range : HoleInRange h
  pub few : length (hs ++ (h ∷ [])) ≤ MOST_HOLES
  pub vectors : vector_count (hs ++ (h ∷ [])) ≤ MOST_VECTORS

-- a line of a hole that may not come after these
abbrev pub HoleRefused : List Hole → Hole → TemplateFault → ℕ → Type 0
HoleRefused hs h (fault.Repeated k) number = (k ≡ number) × (is_among hs h.name ≡ true)
HoleRefused hs h (fault.Range k) number = (k ≡ number) × (is_among hs h.name ≡ false) × ((h.high < h.low) ⊎ (LARGEST_VALUE < h.high))
HoleRefused hs h (fault.TooMany k) number =
    (k ≡ number) × (is_among hs h.name ≡ false) × HoleInRange h × AreTooMany (hs ++ (h ∷ []))
HoleRefused hs h _ number = ⊥

-- why a line may not come after these holes; "out of memory" is always allowed
abbrev pub LineRefused : List Hole → List ℕ → ℕ → TemplateFault → Type 0
LineRefused hs line number (fault.Line k) = (k ≡ number) × ((h : Hole) → IsSpelledHole h → line ≡ hole_line h → ⊥)
LineRefused hs line number fault.Memory = Unit {0}
LineRefused hs line number e = (h : Hole) × IsSpelledHole h × (line ≡ hole_line h) × HoleRefused hs h e number

-- why a body is refused that begins at this offset, after these holes; "out of memory" is always allowed
abbrev pub BodyRefused : List Hole → ℕ → List ℕ → TemplateFault → Type 0
BodyRefused hs offset body (fault.UnknownHole k) = (place : ℕ) × (unknown_place hs body ≡ Some place) × (k ≡ offset + place)
BodyRefused hs offset body fault.Memory = Unit {0}
BodyRefused hs offset body _ = ⊥
