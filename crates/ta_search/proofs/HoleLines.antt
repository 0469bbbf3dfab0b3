-- The lines of holes: their parts, and that a line is that of one hole.
use Rattle.ta_search.proofs.Common.{ℕ, ◌<◌, ◌^◌, ◌≡◌, ◌&&◌, ◌++◌, true, not, List, [], ◌∷◌, drop, codes, decimal, refl, sym, ap, subst, ◌∙◌, arith, lit<}
use Rattle.ta_search.proofs.Common.{list_all, list_any, IsUtf8, bytes_eq, false≢true, and_parts, append_cancel_left, is_letter, is_word, SplitAt, Avoids}
use Rattle.ta_search.proofs.Common.{IsWord, words_ascii, word_avoids, word_tells, avoids-append, first_byte, heads, not_parted, Hole, IsSpelledHole, hole_line}
use Rattle.ta_search.proofs.Common.{Declares, IsHoleName}
use Rattle.std.proofs.lemmas.Fmt.{decimal_injective}
use Rattle.std.proofs.lemmas.Str.{IsUtf8-from_ascii}
use Rattle.ta_base.specs.Decimals.{IsDecimal, NoDecimal}
use Rattle.ta_base.proofs.DecimalDigits.{short_avoids}
use Rattle.ta_smt.specs.WordText.{is_name, keywords}

-- a name is a word
pub name_word : (bytes : List ℕ) → is_name bytes ≡ true → IsWord bytes
name_word [] e = absurd (false≢true e)
name_word (b ∷ bs) e =
    let front = and_parts (is_letter b && list_all is_word (b ∷ bs)) (not (list_any (bytes_eq (b ∷ bs)) keywords)) e in
    let parts = and_parts (is_letter b) (list_all is_word (b ∷ bs)) front.0 in
    (word_tells (b ∷ bs) true (omega arith) parts.0 (sym parts.1)).0 refl

-- and so they are UTF-8
pub name_utf8 : (bytes : List ℕ) → is_name bytes ≡ true → IsUtf8 bytes
name_utf8 bytes e = IsUtf8-from_ascii bytes (words_ascii bytes (name_word bytes e).each)

-- a line of a hole has no line feed
pub line_avoids : (h : Hole) → IsSpelledHole h → Avoids 10 (hole_line h)
line_avoids h is =
    let word : Avoids 10 (codes "hole ") = (λ e. cc, (λ e. cc, (λ e. cc, (λ e. cc, (λ e. cc, tt))))) in
    let name = word_avoids 10 h.name refl (name_word h.name is.name) in
    let low = short_avoids 10 h.low (omega arith) is.low_digits in
    let high = short_avoids 10 h.high (omega arith) is.high_digits in
    avoids-append 10 (codes "hole ") (h.name ++ (32 ∷ decimal h.low ++ (32 ∷ decimal h.high))) word
    (avoids-append 10 h.name (32 ∷ decimal h.low ++ (32 ∷ decimal h.high)) name
    ((λ e. cc), avoids-append 10 (decimal h.low) (32 ∷ decimal h.high) low ((λ e. cc), high)))

-- it isn't the line `begin`
pub no_begin : (h : Hole) → hole_line h ≡ codes "begin" → ⊥
no_begin h e = let first : ◌≡◌ {A = ℕ} 104 98 = heads 104 98 (drop 1 (hole_line h)) (drop 1 (codes "begin")) e in omega arith

-- what stands behind the word of a line
pub behind_word : (line rest : List ℕ) (h : Hole) → line ≡ codes "hole " ++ rest → line ≡ hole_line h → rest ≡ h.name
    ++ (32 ∷ decimal h.low ++ (32 ∷ decimal h.high))
behind_word line rest h e is = append_cancel_left (codes "hole ") rest (h.name ++ (32 ∷ decimal h.low ++ (32 ∷ decimal h.high))) (sym e ∙ is)

-- what stands before the first space, and behind it
pub at_name : (line rest name numbers : List ℕ) (h : Hole) → line ≡ codes "hole " ++ rest → SplitAt 32 rest name numbers → IsSpelledHole h → line ≡ hole_line h
    → (name ≡ h.name) × (numbers ≡ decimal h.low ++ (32 ∷ decimal h.high))
at_name line rest name numbers h e parted spelled is =
    first_byte 32 name h.name numbers (decimal h.low ++ (32 ∷ decimal h.high)) parted.first (word_avoids 32 h.name refl (name_word h.name spelled.name))
    (sym parted.split ∙ behind_word line rest h e is)

-- the two numbers
pub at_numbers : (numbers low high : List ℕ) (h : Hole) → SplitAt 32 numbers low high → IsSpelledHole h → numbers ≡ decimal h.low ++ (32 ∷ decimal h.high)
    → (low ≡ decimal h.low) × (high ≡ decimal h.high)
at_numbers numbers low high h parted spelled is =
    first_byte 32 low (decimal h.low) high (decimal h.high) parted.first (short_avoids 32 h.low (omega arith) spelled.low_digits) (sym parted.split ∙ is)

-- a line without a space behind its word is that of no hole
pub no_name : (line rest : List ℕ) → line ≡ codes "hole " ++ rest → Avoids 32 rest → (h : Hole) → IsSpelledHole h → line ≡ hole_line h → ⊥
no_name line rest e none h spelled is = not_parted 32 h.name (decimal h.low ++ (32 ∷ decimal h.high)) rest none (behind_word line rest h e is)

-- nor is one without a space behind its name
pub no_low : (line rest name numbers : List ℕ) → line ≡ codes "hole " ++ rest → SplitAt 32 rest name numbers → Avoids 32 numbers → (h : Hole) → IsSpelledHole h
    → line ≡ hole_line h → ⊥
no_low line rest name numbers e parted none h spelled is = not_parted 32 (decimal h.low) (decimal h.high) numbers none
    (at_name line rest name numbers h e parted spelled is).1

-- nor one with another name
pub no_hole_name : (line rest name numbers : List ℕ) → line ≡ codes "hole " ++ rest → SplitAt 32 rest name numbers → (IsHoleName name → ⊥) → (h : Hole)
    → IsSpelledHole h → line ≡ hole_line h → ⊥
no_hole_name line rest name numbers e parted none h spelled is = none
    (subst IsHoleName (sym (at_name line rest name numbers h e parted spelled is).0) (record { name = spelled.name; short = spelled.short }))

-- nor one with other numbers
pub no_lowest : (line rest name numbers low high : List ℕ) → line ≡ codes "hole " ++ rest → SplitAt 32 rest name numbers → SplitAt 32 numbers low high
    → NoDecimal (10 ^ 10) low → (h : Hole) → IsSpelledHole h → line ≡ hole_line h → ⊥
no_lowest line rest name numbers low high e parted cut none h spelled is =
    none h.low (record {
      text = (at_numbers numbers low high h cut spelled (at_name line rest name numbers h e parted spelled is).1).0;
      below =
          spelled.low_digits;
    })

pub no_highest : (line rest name numbers low high : List ℕ) → line ≡ codes "hole " ++ rest → SplitAt 32 rest name numbers → SplitAt 32 numbers low high
    → NoDecimal (10 ^ 10) high → (h : Hole) → IsSpelledHole h → line ≡ hole_line h → ⊥
no_highest line rest name numbers low high e parted cut none h spelled is =
    none h.high (record {
      text = (at_numbers numbers low high h cut spelled (at_name line rest name numbers h e parted spelled is).1).1;
      below =
          spelled.high_digits;
    })

-- a hole by its parts
abbrev pub hole_of : List ℕ → ℕ → ℕ → Hole
hole_of name low high = record { name = name; low = low; high = high }

-- a line that is read
pub declares : (line rest name numbers low high : List ℕ) (m n : ℕ) → line ≡ codes "hole " ++ rest → SplitAt 32 rest name numbers → SplitAt 32 numbers low high
    → IsHoleName name → IsDecimal (10 ^ 10) low m → IsDecimal (10 ^ 10) high n → Declares line name m n
declares line rest name numbers low high m n e parted cut named lowest highest = record {
  h = hole_of name m n;
  spelled = record { name = named.name; short = named.short; low_digits = lowest.below; high_digits = highest.below };
  text = e ∙ ap (λ xs. codes "hole " ++ xs)
      (parted.split ∙ ap (λ xs. name ++ (32 ∷ xs)) (cut.split ∙ ap (λ xs. xs ++ (32 ∷ high)) lowest.text ∙ ap (λ xs. decimal m ++ (32 ∷ xs)) highest.text));
  name_is = refl;
  low_is = refl;
  high_is = refl;
}

pub same_hole : (h g : Hole) → h.name ≡ g.name → h.low ≡ g.low → h.high ≡ g.high → h ≡ g
same_hole h g name low high = ap (λ n. hole_of n h.low h.high) name ∙ ap (λ n. hole_of g.name n h.high) low ∙ ap (hole_of g.name g.low) high

-- a line is that of one hole
pub one_hole : (h g : Hole) → IsSpelledHole h → IsSpelledHole g → hole_line h ≡ hole_line g → h ≡ g
one_hole h g is are e =
    let rest = behind_word (hole_line h) (h.name ++ (32 ∷ decimal h.low ++ (32 ∷ decimal h.high))) g refl e in
    let names = first_byte 32 h.name g.name (decimal h.low ++ (32 ∷ decimal h.high)) (decimal g.low ++ (32 ∷ decimal g.high))
    (word_avoids 32 h.name refl (name_word h.name is.name)) (word_avoids 32 g.name refl (name_word g.name are.name)) rest in
    let numbers = first_byte 32 (decimal h.low) (decimal g.low) (decimal h.high) (decimal g.high) (short_avoids 32 h.low (omega arith) is.low_digits)
    (short_avoids 32 g.low (omega arith) are.low_digits) names.1 in
    let large : 10 ^ 10 < 2 ^ 64 = lit< tt in
    let a = is.low_digits in
    let b = are.low_digits in
    let c = is.high_digits in
    let d = are.high_digits in
    same_hole h g names.0 (decimal_injective h.low g.low (omega arith) (omega arith) numbers.0)
    (decimal_injective h.high g.high (omega arith) (omega arith) numbers.1)

-- what a line declares, by the parts that are read
pub declared_is : (line rest name numbers low high taken : List ℕ) (v w : ℕ) → line ≡ codes "hole " ++ rest → SplitAt 32 rest name numbers
    → SplitAt 32 numbers low high → (taken ≡ name) × IsHoleName name → IsDecimal (10 ^ 10) low v → IsDecimal (10 ^ 10) high w → Declares line taken v w
declared_is line rest name numbers low high taken v w e parted cut named lowest highest =
    subst (λ n. Declares line n v w) (sym named.0) (declares line rest name numbers low high v w e parted cut named.1 lowest highest)
