-- The forms of lines.
use Rattle.ta_replay.proofs.Common.{ℕ, ℤ, ◌≡◌, List, ◌∷◌, ◌++◌, refl, sym, subst, ◌∙◌, signed_decimal, append_cancel_left, Avoids, IsWord, SplitAt, word_avoids}
use Rattle.ta_replay.proofs.Common.{first_byte, not_parted, IsValued}
use Rattle.ta_replay.specs.Reading.{IsNumber}
use Rattle.ta_replay.proofs.Decimals.{number_same}

-- a line of this word is what stands behind it
pub behind_word : (word rest line : List ℕ) (name : List ℕ) (value : ℤ) → line ≡ word ++ rest → IsValued word line name value → rest ≡ name
    ++ (32 ∷ signed_decimal value)
behind_word word rest line name value e is = append_cancel_left word rest (name ++ (32 ∷ signed_decimal value)) (sym e ∙ is.text)

-- nothing with a value stands where no space does
pub no_space : (word rest line : List ℕ) → line ≡ word ++ rest → Avoids 32 rest → (name : List ℕ) (value : ℤ) → IsValued word line name value → ⊥
no_space word rest line e none name value is = not_parted 32 name (signed_decimal value) rest none (behind_word word rest line name value e is)

-- the name and the digits of a value's line
pub at_space : (word rest line front digits name : List ℕ) (value : ℤ) → line ≡ word ++ rest → SplitAt 32 rest front digits → IsValued word line name value
    → (front ≡ name) × (digits ≡ signed_decimal value)
at_space word rest line front digits name value e parted is =
    first_byte 32 front name digits (signed_decimal value) parted.first (word_avoids 32 name refl is.spelled)
    (sym parted.split ∙ behind_word word rest line name value e is)

-- what stands before the space is no name
pub no_word : (word rest line front digits : List ℕ) → line ≡ word ++ rest → SplitAt 32 rest front digits → (IsWord front → ⊥) → (name : List ℕ) (value : ℤ)
    → IsValued word line name value → ⊥
no_word word rest line front digits e parted other name value is = other
    (subst IsWord (sym (at_space word rest line front digits name value e parted is).0) is.spelled)

-- what stands behind the space is no number
pub no_number : (word rest line front digits : List ℕ) → line ≡ word ++ rest → SplitAt 32 rest front digits → ((value : ℤ) → IsNumber digits value → ⊥)
    → (name : List ℕ) (value : ℤ) → IsValued word line name value → ⊥
no_number word rest line front digits e parted other name value is = other value record
    { number = is.number; text = (at_space word rest line front digits name value e parted is).1 }

-- a line gives one name and one number
pub valued_same : (word line m n : List ℕ) (v w : ℤ) → IsValued word line m v → IsValued word line n w → (m ≡ n) × (v ≡ w)
valued_same word line m n v w is are =
    let rest = append_cancel_left word (m ++ (32 ∷ signed_decimal v)) (n ++ (32 ∷ signed_decimal w)) (sym is.text ∙ are.text) in
    let parts = first_byte 32 m n (signed_decimal v) (signed_decimal w) (word_avoids 32 m refl is.spelled) (word_avoids 32 n refl are.spelled) rest in
    (parts.0, number_same v w is.number are.number parts.1)
