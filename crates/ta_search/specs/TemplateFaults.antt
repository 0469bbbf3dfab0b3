-- The first error of a text that is not a template.
use Rattle.std.specs.Prelude.{ℕ, ◌+◌, ◌<◌, ◌≡◌, ◌≢◌, ◌⊎◌, ◌++◌, List, [], ◌∷◌, length, codes, false, true, Some}
use Rattle.ta_base.specs.declared.limits.TheConstants.{LARGEST_VALUE}
use Rattle.ta_base.specs.Bytes.{Avoids}
use Rattle.ta_search.specs.declared.template.Hole.{Hole}
use Rattle.ta_search.specs.declared.fault.TemplateFault.{TemplateFault}
use Rattle.ta_search.specs.declared.fault.TemplateFault.TheVariants as fault
use Rattle.ta_search.specs.Holes.{IsSpelledHole, HoleInRange, AreHoles, AreTooMany, is_among, unknown_place, hole_line, hole_lines, head_text}

-- the text begins with the lines of these holes, which are legal; the rest begins with the line with this number
pub record BeginsWithHoles (bytes : List ℕ) (hs : List Hole) (rest : List ℕ) (number : ℕ) : Type 0 where
  pub holes : AreHoles hs
  pub text : bytes ≡ hole_lines hs ++ rest
  pub place : number ≡ length hs + 1

-- the first line is neither that of a hole nor `begin`
pub record IsOtherLine (rest : List ℕ) : Type 0 where
  pub line : List ℕ
  pub behind : List ℕ
  pub next : rest ≡ line ++ (10 ∷ behind)
  pub no_feed : Avoids 10 line
  pub no_hole : (h : Hole) → IsSpelledHole h → line ≡ hole_line h → ⊥
  pub no_begin : line ≢ codes "begin"

-- S1: the line has another form, or the text ends before its line feed
pub record IsMisformedTemplate (bytes : List ℕ) (number : ℕ) : Type 0 where
  pub hs : List Hole
  pub rest : List ℕ
  pub begins : BeginsWithHoles bytes hs rest number
  pub fault : Avoids 10 rest ⊎ IsOtherLine rest

-- the line is that of a hole, after these holes
pub record HasHole (bytes : List ℕ) (number : ℕ) (hs : List Hole) (h : Hole) : Type 0 where
  pub behind : List ℕ
  pub begins : BeginsWithHoles bytes hs (hole_line h ++ (10 ∷ behind)) number
  pub spelled : IsSpelledHole h

-- S2: the line's name was declared before
pub record IsRepeated (bytes : List ℕ) (number : ℕ) : Type 0 where
  pub hs : List Hole
  pub h : Hole
  pub has : HasHole bytes number hs h
  pub before : is_among hs h.name ≡ true

-- S3: its lower number is above its upper one, or the upper one is above 1,000,000,000
pub record IsOutOfRange (bytes : List ℕ) (number : ℕ) : Type 0 where
  pub hs : List Hole
  pub h : Hole
  pub has : HasHole bytes number hs h
  pub fresh : is_among hs h.name ≡ false
  pub range : (h.high < h.low) ⊎ (LARGEST_VALUE < h.high)

-- S4: it is a fifth hole, or makes more than 10,000 choices
pub record IsOneTooMany (bytes : List ℕ) (number : ℕ) : Type 0 where
  pub hs : List Hole
  pub h : Hole
  pub has : HasHole bytes number hs h
  pub fresh : is_among hs h.name ≡ false
  pub range : HoleInRange h
  pub many : AreTooMany (hs ++ (h ∷ []))

-- S5: the first `$` of the body that no hole's name follows is at this offset of the text
pub record IsUnknownHole (bytes : List ℕ) (offset : ℕ) : Type 0 where
  pub hs : List Hole
  pub body : List ℕ
  pub place : ℕ
  pub holes : AreHoles hs
  pub text : bytes ≡ head_text hs ++ body
  pub first : unknown_place hs body ≡ Some place
  pub at : offset ≡ length (head_text hs) + place

-- why a text is not a template; "out of memory" is always allowed
abbrev pub FaultOf : List ℕ → TemplateFault → Type 0
FaultOf bytes (fault.Line number) = IsMisformedTemplate bytes number
FaultOf bytes (fault.Repeated number) = IsRepeated bytes number
FaultOf bytes (fault.Range number) = IsOutOfRange bytes number
FaultOf bytes (fault.TooMany number) = IsOneTooMany bytes number
FaultOf bytes (fault.UnknownHole offset) = IsUnknownHole bytes offset
FaultOf bytes fault.Memory = Unit {0}

-- an error of the text, which is not out of memory
abbrev pub FirstTemplateFault : List ℕ → TemplateFault → Type 0
FirstTemplateFault bytes fault.Memory = ⊥
FirstTemplateFault bytes e = FaultOf bytes e
