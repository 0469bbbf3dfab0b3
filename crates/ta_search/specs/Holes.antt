-- Holes for coefficients, and the lines that declare them.
use Rattle.std.specs.Prelude.{ℕ, suc, ◌-◌, ◌*◌, ◌^◌, ◌<◌, ◌≤◌, ◌==◌, ◌≡◌, ◌⊎◌, ◌&&◌, ◌++◌, Bool, true, not, List, [], ◌∷◌, length, map, take, codes, decimal}
use Rattle.std.specs.Prelude.{Option, None, Some, if◌then◌else◌, option_map}
use Rattle.std.specs.List.{list_any, prefix_len, AllByRecursion, AllByRecursion-prop}
use Rattle.std.specs.Str.{bytes_eq}
use Rattle.std.proofs.Props.{props}
use Rattle.ta_base.specs.declared.limits.TheConstants.{LARGEST_VALUE, MOST_HOLES, MOST_VECTORS}
use Rattle.ta_base.specs.Bytes.{is_word}
use Rattle.ta_base.specs.Lists.{Distinct, Distinct-prop}
use Rattle.ta_replay.specs.RunText.{lines_text}
use Rattle.ta_smt.specs.WordText.{is_name}
use Rattle.ta_search.specs.declared.template.Hole.{Hole}

-- the names of holes
abbrev pub hole_names : List Hole → List (List ℕ)
hole_names hs = map (λ h. h.name) hs

-- a name of the grammar of at most 64 bytes, and two numbers of at most 10 digits
pub record IsSpelledHole (h : Hole) : Type 0 where
  pub name : is_name h.name ≡ true
  pub short : length h.name ≤ 64
  pub low_digits : h.low < 10 ^ 10
  pub high_digits : h.high < 10 ^ 10

-- there is some value, and none above 1,000,000,000
pub record HoleInRange (h : Hole) : Type 0 where
  pub some : h.low ≤ h.high
  pub small : h.high ≤ LARGEST_VALUE

-- how many values a hole has
abbrev pub value_count : Hole → ℕ
value_count h = suc h.high - h.low

-- the number of vectors: choices of a value for each hole
abbrev pub vector_count : List Hole → ℕ
vector_count [] = 1
vector_count (h ∷ hs) = value_count h * vector_count hs

-- at most four holes, each spelled so and in range, with distinct names and at most 10,000 choices
pub record AreHoles (hs : List Hole) : Type 0 where
  pub spelled : AllByRecursion IsSpelledHole hs
  pub ranges : AllByRecursion HoleInRange hs
  pub distinct : Distinct (hole_names hs)
  pub few : length hs ≤ MOST_HOLES
  pub vectors : vector_count hs ≤ MOST_VECTORS

-- there is a fifth hole, or there are more than 10,000 choices
abbrev pub AreTooMany : List Hole → Type 0
AreTooMany hs = (MOST_HOLES < length hs) ⊎ (MOST_VECTORS < vector_count hs)

-- the letters, digits and `_` with which the bytes begin
abbrev pub word_at : List ℕ → List ℕ
word_at bs = take (prefix_len is_word bs) bs

-- whether a word is the name of one of these holes
abbrev pub is_among : List Hole → List ℕ → Bool
is_among hs word = list_any (λ h. bytes_eq word h.name) hs

-- the place of the first `$` of a body that no name of a hole follows
abbrev pub unknown_place : List Hole → List ℕ → Option ℕ
unknown_place hs [] = None
unknown_place hs (b ∷ bs) = if b == 36 && not (is_among hs (word_at bs)) then Some 0 else option_map suc (unknown_place hs bs)

-- the line of a hole, without its line feed
abbrev pub hole_line : Hole → List ℕ
hole_line h = codes "hole " ++ (h.name ++ (32 ∷ (decimal h.low ++ (32 ∷ decimal h.high))))

-- the lines of holes
abbrev pub hole_lines : List Hole → List ℕ
hole_lines hs = lines_text (map hole_line hs)

-- the lines of holes, and the line `begin`
abbrev pub head_text : List Hole → List ℕ
head_text hs = hole_lines hs ++ (codes "begin" ++ (10 ∷ []))

spelled-prop : (h : Hole) → IsProp (IsSpelledHole h)
spelled-prop h = hlevel props

range-prop : (h : Hole) → IsProp (HoleInRange h)
range-prop h = hlevel props

-- a proof that holes are legal is unique
pub AreHoles-prop : (hs : List Hole) → IsProp (AreHoles hs)
AreHoles-prop hs = hlevel (
  props,
  AllByRecursion-prop IsSpelledHole spelled-prop hs,
  AllByRecursion-prop HoleInRange range-prop hs,
  Distinct-prop
      (hole_names hs),
)

-- a proof that each `$` of a body is before a name of a hole is unique
pub unknown-prop : (hs : List Hole) (body : List ℕ) → IsProp (unknown_place hs body ≡ None)
unknown-prop hs body = hlevel props
