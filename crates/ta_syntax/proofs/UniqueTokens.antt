-- A text has its tokens in one way, or one first refused byte.
use Rattle.ta_syntax.proofs.Common.{◌≡◌, ℕ, Option, Some, None, bytes_eq, Bool, true, false, cond, List, [], ◌∷◌, ◌++◌, length, inl, inr, ⊎_elim, refl, sym, ap}
use Rattle.ta_syntax.proofs.Common.{subst, ◌∙◌, arith, ◌+◌, IsTrue, ◌==◌, ◌⊎◌, IfSome, is_ascii_digit, AllByRecursion, find, nat_tests, letter_no_digit, unlike}
use Rattle.ta_syntax.proofs.Common.{is_white, is_lone, mark_bytes, kind_bytes, IsDigits, IsNameText, IsKind, IsKind-prop, is_letter, is_word, BeginsByLetter}
use Rattle.ta_syntax.proofs.Common.{lengthens, IsLongest, IsSpace, IsGap, IsLastGap, ScansTo, AreTokens, begins_mark, IsRefusedHere, IsRefused, NoToken, Kind}
use Rattle.ta_syntax.proofs.Common.{Mark, KEYWORDS, Token, MatchOption, append_cancel_left, Fails}
use Rattle.std.proofs.lemmas.Slice.Eq.{bytes_eq-Decides}
use Rattle.ta_base.proofs.Each.{longest_unique}
use Rattle.std.proofs.lemmas.List.Elements.{recursion_from_All}
use Rattle.std.proofs.lemmas.List.Sums.{AllPass-from_list_all}
use Rattle.ta_base.proofs.DecimalDigits.{digit_no_letter}
use Rattle.ta_syntax.specs.declared.tokens.Kind.TheVariants as kind
use Rattle.ta_syntax.specs.declared.tokens.Mark.TheVariants as mark

-- ---- which sign stands first
abbrev next_is : ℕ → List ℕ → Bool
next_is n [] = false
next_is n (c ∷ cs) = c == n

abbrev sign_of : List ℕ → Mark
sign_of [] = mark.Semicolon
sign_of (b ∷ bs) =
    cond (b == 59) mark.Semicolon (cond (b == 44) mark.Comma
    (cond (b == 58) mark.Colon (cond (b == 123) mark.OpenBrace
    (cond (b == 125) mark.CloseBrace (cond (b == 40) mark.Open (cond (b == 41) mark.Close (cond (b == 42) mark.Star
    (cond (b == 43) (cond (next_is 61 bs) mark.PlusEquals mark.Plus)
    (cond (b == 45) (cond (next_is 62 bs) mark.Arrow mark.Minus)
    (cond (b == 60) (cond (next_is 61 bs) mark.AtMost mark.Less)
    (cond (b == 62) (cond (next_is 61 bs) mark.AtLeast mark.More)
    mark.Equal)))))))))))

-- the keyword that a word is
abbrev pub keyword_of : List ℕ → Option Mark
keyword_of w = find (λ m. bytes_eq (mark_bytes m) w) KEYWORDS

-- a keyword
pub record IsWordMark (m : Mark) : Type 0 where
  pub each : AllByRecursion (λ b. IsTrue (is_word b)) (mark_bytes m)
  pub first : BeginsByLetter (mark_bytes m)
  pub longest : (b : ℕ) → lengthens (kind.Fixed m) b ≡ is_word b
  pub known : keyword_of (mark_bytes m) ≡ Some m

abbrev pub StartsSign : List ℕ → Type 0
StartsSign [] = ⊥
StartsSign (b ∷ bs) = (is_letter b ≡ false) × (is_ascii_digit b ≡ false) × (is_white b ≡ false) × (b ≡ 35 → ⊥)

-- a sign
pub record IsSignMark (m : Mark) : Type 0 where
  pub first : StartsSign (mark_bytes m)
  pub known : (bs : List ℕ) → IsLongest (kind.Fixed m) bs → sign_of (mark_bytes m ++ bs) ≡ m
  pub begins : (bs : List ℕ) → begins_mark (mark_bytes m ++ bs) ≡ true

lone_begins : (b : ℕ) (bs : List ℕ) → is_lone b ≡ true → begins_mark (b ∷ bs) ≡ true
lone_begins b [] e = e
lone_begins b (c ∷ bs) e = rw e refl

no_next : (n : ℕ) (m : Mark) (bs : List ℕ) → ((b : ℕ) → lengthens (kind.Fixed m) b ≡ (b == n)) → IsLongest (kind.Fixed m) bs → next_is n bs ≡ false
no_next n m [] same h = refl
no_next n m (b ∷ bs) same h = sym (same b) ∙ h

pub mark_is : (m : Mark) → IsWordMark m ⊎ IsSignMark m
mark_is mark.Plus = inr (record {
  first = (refl, refl, refl, λ e. omega arith);
  known = λ bs h. let e = no_next 61 mark.Plus bs (λ b. refl) h in rw e refl;
  begins = λ bs. lone_begins 43 bs
      refl;
})
mark_is mark.Minus = inr (record {
  first = (refl, refl, refl, λ e. omega arith);
  known = λ bs h. let e = no_next 62 mark.Minus bs (λ b. refl) h in rw e refl;
  begins = λ bs. lone_begins 45
      bs refl;
})
mark_is mark.Less = inr (record {
  first = (refl, refl, refl, λ e. omega arith);
  known = λ bs h. let e = no_next 61 mark.Less bs (λ b. refl) h in rw e refl;
  begins = λ bs. lone_begins 60 bs
      refl;
})
mark_is mark.More = inr (record {
  first = (refl, refl, refl, λ e. omega arith);
  known = λ bs h. let e = no_next 61 mark.More bs (λ b. refl) h in rw e refl;
  begins = λ bs. lone_begins 62 bs
      refl;
})
mark_is mark.Semicolon = inr (record { first = (refl, refl, refl, λ e. omega arith); known = λ bs h. refl; begins = λ bs. lone_begins 59 bs refl })
mark_is mark.Comma = inr (record { first = (refl, refl, refl, λ e. omega arith); known = λ bs h. refl; begins = λ bs. lone_begins 44 bs refl })
mark_is mark.Colon = inr (record { first = (refl, refl, refl, λ e. omega arith); known = λ bs h. refl; begins = λ bs. lone_begins 58 bs refl })
mark_is mark.OpenBrace = inr (record { first = (refl, refl, refl, λ e. omega arith); known = λ bs h. refl; begins = λ bs. lone_begins 123 bs refl })
mark_is mark.CloseBrace = inr (record { first = (refl, refl, refl, λ e. omega arith); known = λ bs h. refl; begins = λ bs. lone_begins 125 bs refl })
mark_is mark.Open = inr (record { first = (refl, refl, refl, λ e. omega arith); known = λ bs h. refl; begins = λ bs. lone_begins 40 bs refl })
mark_is mark.Close = inr (record { first = (refl, refl, refl, λ e. omega arith); known = λ bs h. refl; begins = λ bs. lone_begins 41 bs refl })
mark_is mark.Star = inr (record { first = (refl, refl, refl, λ e. omega arith); known = λ bs h. refl; begins = λ bs. lone_begins 42 bs refl })
mark_is mark.PlusEquals = inr (record { first = (refl, refl, refl, λ e. omega arith); known = λ bs h. refl; begins = λ bs. lone_begins 43 (61 ∷ bs) refl })
mark_is mark.Arrow = inr (record { first = (refl, refl, refl, λ e. omega arith); known = λ bs h. refl; begins = λ bs. lone_begins 45 (62 ∷ bs) refl })
mark_is mark.AtMost = inr (record { first = (refl, refl, refl, λ e. omega arith); known = λ bs h. refl; begins = λ bs. lone_begins 60 (61 ∷ bs) refl })
mark_is mark.Equal = inr (record { first = (refl, refl, refl, λ e. omega arith); known = λ bs h. refl; begins = λ bs. refl })
mark_is mark.AtLeast = inr (record { first = (refl, refl, refl, λ e. omega arith); known = λ bs h. refl; begins = λ bs. lone_begins 62 (61 ∷ bs) refl })
mark_is m = inl (record {
  each = recursion_from_All (λ b. IsTrue (is_word b)) (mark_bytes m) (AllPass-from_list_all is_word (mark_bytes m) refl);
  first = refl;
  longest = λ b. refl;
  known = refl;
})

-- a sign has no letter in front
sign_no_letter : (n : List ℕ) → StartsSign n → BeginsByLetter n → ⊥
sign_no_letter [] s l = l
sign_no_letter (b ∷ n) s l = let e : is_letter b ≡ false = s.0 in let f : is_letter b ≡ true = l in cc

-- a mark that is spelled as a word is a keyword
pub of_word : (m : Mark) (word : List ℕ) → mark_bytes m ≡ word → BeginsByLetter word → IsWordMark m
of_word m word e first = ⊎_elim (λ (w : IsWordMark m). w)
    (λ (s : IsSignMark m). absurd (sign_no_letter (mark_bytes m) s.first (subst BeginsByLetter (sym e) first))) (mark_is m)

-- what is found among marks is spelled as the word
found : (word : List ℕ) (ms : List Mark) → IfSome (find (λ m. bytes_eq (mark_bytes m) word) ms) (λ m. mark_bytes m ≡ word)
found word [] = tt
found word (m ∷ ms) = step (bytes_eq (mark_bytes m) word) refl (found word ms)
  where
    step : (b : Bool) → bytes_eq (mark_bytes m) word ≡ b → IfSome (find (λ m. bytes_eq (mark_bytes m) word) ms) (λ m. mark_bytes m ≡ word)
        → IfSome (cond b (Some m) (find (λ m. bytes_eq (mark_bytes m) word) ms)) (λ m. mark_bytes m ≡ word)
    step true e later = (bytes_eq-Decides (mark_bytes m) word).0 e
    step false e later = later

-- the table has the keyword that a word is, or the word is none
pub keyword_is : (word : List ℕ) → BeginsByLetter word → MatchOption (keyword_of word) ((m : Mark) → mark_bytes m ≡ word → ⊥) (λ m. mark_bytes m ≡ word)
keyword_is word first = step (keyword_of word) refl (found word KEYWORDS)
  where
    step : (o : Option Mark) → keyword_of word ≡ o → IfSome o (λ m. mark_bytes m ≡ word)
        → MatchOption o ((m : Mark) → mark_bytes m ≡ word → ⊥) (λ m. mark_bytes m ≡ word)
    step None e h = λ m spelled. let known : None ≡ Some m = sym e ∙ ap keyword_of (sym spelled) ∙ (of_word m word spelled first).known in absurd cc
    step (Some m) e h = h

letter_no_gap : (b : ℕ) → IsTrue (is_letter b) → (is_white b ≡ false) × (b ≡ 35 → ⊥)
letter_no_gap b h = (grind (arith, nat_tests), λ e. grind (arith, nat_tests))

digit_no_gap : (b : ℕ) → IsTrue (is_ascii_digit b) → (is_white b ≡ false) × (b ≡ 35 → ⊥)
digit_no_gap b h = (grind (arith, nat_tests), λ e. grind (arith, nat_tests))

-- some byte, that is in no gap
abbrev BeginsSome : List ℕ → Type 0
BeginsSome [] = ⊥
BeginsSome (b ∷ bs) = (is_white b ≡ false) × (b ≡ 35 → ⊥)

letters_begin : (n x : List ℕ) → BeginsByLetter n → BeginsSome (n ++ x)
letters_begin [] x h = absurd h
letters_begin (b ∷ n) x h = letter_no_gap b h

sign_begins : (n x : List ℕ) → StartsSign n → BeginsSome (n ++ x)
sign_begins [] x h = absurd h
sign_begins (b ∷ n) x h = (h.2, h.3)

token_begins : (k : Kind) (x : List ℕ) → IsKind k → BeginsSome (kind_bytes k ++ x)
token_begins (kind.Name n) x is = letters_begin n x is.first
token_begins (kind.Number []) x is = absurd is
token_begins (kind.Number (b ∷ d)) x is = digit_no_gap b is.0
token_begins (kind.Fixed m) x is = ⊎_elim (λ (w : IsWordMark m). letters_begin (mark_bytes m) x w.first)
    (λ (s : IsSignMark m). sign_begins (mark_bytes m) x s.first) (mark_is m)

-- ---- two tokens at one place
abbrev FirstLetter : List ℕ → Bool
FirstLetter [] = false
FirstLetter (b ∷ bs) = is_letter b

abbrev FirstDigit : List ℕ → Bool
FirstDigit [] = false
FirstDigit (b ∷ bs) = is_ascii_digit b

letter_first : (n x : List ℕ) → BeginsByLetter n → (FirstLetter (n ++ x) ≡ true) × (FirstDigit (n ++ x) ≡ false)
letter_first [] x h = absurd h
letter_first (b ∷ n) x h = (h, letter_no_digit b h)

digit_first : (d x : List ℕ) → IsDigits d → (FirstLetter (d ++ x) ≡ false) × (FirstDigit (d ++ x) ≡ true)
digit_first [] x h = absurd h
digit_first (b ∷ d) x h = (digit_no_letter b h.0, h.0)

sign_first : (n x : List ℕ) → StartsSign n → (FirstLetter (n ++ x) ≡ false) × (FirstDigit (n ++ x) ≡ false)
sign_first [] x h = absurd h
sign_first (b ∷ n) x h = (h.0, h.1)

name_fails : (n x : List ℕ) → IsLongest (kind.Name n) x → Fails is_word x
name_fails n [] h = tt
name_fails n (b ∷ x) h = h

number_fails : (d x : List ℕ) → IsLongest (kind.Number d) x → Fails is_ascii_digit x
number_fails d [] h = tt
number_fails d (b ∷ x) h = h

word_fails : (m : Mark) (x : List ℕ) → IsWordMark m → IsLongest (kind.Fixed m) x → Fails is_word x
word_fails m [] w h = tt
word_fails m (b ∷ x) w h = sym (w.longest b) ∙ h

pub digits_all : (d : List ℕ) → IsDigits d → AllByRecursion (λ c. IsTrue (is_ascii_digit c)) d
digits_all [] h = absurd h
digits_all (b ∷ d) h = h

name_mark : (n x : List ℕ) (m : Mark) (y : List ℕ) → IsNameText n → IsLongest (kind.Name n) x → IsLongest (kind.Fixed m) y → n ++ x ≡ mark_bytes m ++ y → ⊥
name_mark n x m y is long long' e =
    ⊎_elim
    (λ (w : IsWordMark m). let u = longest_unique is_word n x (mark_bytes m) y is.each (name_fails n x long) w.each (word_fails m y w long') e in is.free m
    (sym u.0))
    (λ (s : IsSignMark m). let a = letter_first n x is.first in let b = sign_first (mark_bytes m) y s.first in unlike FirstLetter (n ++ x) (mark_bytes m ++ y) e
    a.0 b.0)
    (mark_is m)

number_mark : (d x : List ℕ) (m : Mark) (y : List ℕ) → IsDigits d → d ++ x ≡ mark_bytes m ++ y → ⊥
number_mark d x m y is e =
    ⊎_elim
    (λ (w : IsWordMark m). let a = digit_first d x is in let b = letter_first (mark_bytes m) y w.first in unlike FirstDigit (d ++ x) (mark_bytes m ++ y) e a.1
    b.1)
    (λ (s : IsSignMark m). let a = digit_first d x is in let b = sign_first (mark_bytes m) y s.first in unlike FirstDigit (d ++ x) (mark_bytes m ++ y) e a.1
    b.1)
    (mark_is m)

marks_same : (m : Mark) (x : List ℕ) (m' : Mark) (y : List ℕ) → IsLongest (kind.Fixed m) x → IsLongest (kind.Fixed m') y → mark_bytes m ++ x ≡ mark_bytes m'
    ++ y → m ≡ m'
marks_same m x m' y long long' e =
    ⊎_elim
    (λ (w : IsWordMark m). ⊎_elim
    (λ (w' : IsWordMark m').
    let u = longest_unique is_word (mark_bytes m) x (mark_bytes m') y w.each (word_fails m x w long) w'.each (word_fails m' y w' long') e in
    let known : Some m ≡ Some m' = sym w.known ∙ ap keyword_of u.0 ∙ w'.known in cc)
    (λ (s' : IsSignMark m'). let a = letter_first (mark_bytes m) x w.first in let b = sign_first (mark_bytes m') y s'.first in absurd
    (unlike FirstLetter (mark_bytes m ++ x) (mark_bytes m' ++ y) e a.0 b.0))
    (mark_is m'))
    (λ (s : IsSignMark m). ⊎_elim
    (λ (w' : IsWordMark m'). let a = letter_first (mark_bytes m') y w'.first in let b = sign_first (mark_bytes m) x s.first in absurd
    (unlike FirstLetter (mark_bytes m' ++ y) (mark_bytes m ++ x) (sym e) a.0 b.0))
    (λ (s' : IsSignMark m'). sym (s.known x long) ∙ ap sign_of e ∙ s'.known y long')
    (mark_is m'))
    (mark_is m)

kind_unique : (k : Kind) (x : List ℕ) (k' : Kind) (y : List ℕ) → IsKind k → IsKind k' → IsLongest k x → IsLongest k' y → kind_bytes k ++ x ≡ kind_bytes k' ++ y
    → (k ≡ k') × (x ≡ y)
kind_unique (kind.Name n) x (kind.Name n') y is is' long long' e =
    let u = longest_unique is_word n x n' y is.each (name_fails n x long) is'.each (name_fails n' y long') e in (ap kind.Name u.0, u.1)
kind_unique (kind.Name n) x (kind.Number d) y is is' long long' e = let a = letter_first n x is.first in let b = digit_first d y is' in absurd
    (unlike FirstLetter (n ++ x) (d ++ y) e a.0 b.0)
kind_unique (kind.Name n) x (kind.Fixed m) y is is' long long' e = absurd (name_mark n x m y is long long' e)
kind_unique (kind.Number d) x (kind.Name n) y is is' long long' e = let a = letter_first n y is'.first in let b = digit_first d x is in absurd
    (unlike FirstLetter (n ++ y) (d ++ x) (sym e) a.0 b.0)
kind_unique (kind.Number d) x (kind.Number d') y is is' long long' e =
    let u = longest_unique is_ascii_digit d x d' y (digits_all d is) (number_fails d x long) (digits_all d' is') (number_fails d' y long') e in
    (ap kind.Number u.0, u.1)
kind_unique (kind.Number d) x (kind.Fixed m) y is is' long long' e = absurd (number_mark d x m y is e)
kind_unique (kind.Fixed m) x (kind.Name n) y is is' long long' e = absurd (name_mark n y m x is' long' long (sym e))
kind_unique (kind.Fixed m) x (kind.Number d) y is is' long long' e = absurd (number_mark d y m x is' (sym e))
kind_unique (kind.Fixed m) x (kind.Fixed m') y is is' long long' e =
    let same = marks_same m x m' y long long' e in
    (ap kind.Fixed same, append_cancel_left (mark_bytes m') x y (ap (λ (z : Mark). mark_bytes z ++ x) (sym same) ∙ e))

-- ---- gaps
white_no_comment : (b : ℕ) → IsTrue (is_white b) → b ≡ 35 → ⊥
white_no_comment b h e = grind (arith, nat_tests)

space_unique : (c : Bool) (a x b y : List ℕ) → IsSpace false c a → IsSpace false c b → BeginsSome x → BeginsSome y → a ++ x ≡ b ++ y → (a ≡ b) × (x ≡ y)
space_unique true [] x b y h k p q e = absurd cc
space_unique true (i ∷ a) x [] y h k p q e = absurd cc
space_unique true (i ∷ a) x (j ∷ b) y (inl h) (inl k) p q e =
    let r = space_unique false a x b y h.1 k.1 p q (let g : a ++ x ≡ b ++ y = cc in g) in
    (let same : i ≡ j = cc in ap (λ (z : ℕ). z ∷ a) same ∙ ap (λ (z : List ℕ). j ∷ z) r.0, r.1)
space_unique true (i ∷ a) x (j ∷ b) y (inl h) (inr k) p q e = absurd (k.0 (let same : i ≡ j = cc in sym same ∙ h.0))
space_unique true (i ∷ a) x (j ∷ b) y (inr h) (inl k) p q e = absurd (h.0 (let same : i ≡ j = cc in same ∙ k.0))
space_unique true (i ∷ a) x (j ∷ b) y (inr h) (inr k) p q e =
    let r = space_unique true a x b y h.1 k.1 p q (let g : a ++ x ≡ b ++ y = cc in g) in
    (let same : i ≡ j = cc in ap (λ (z : ℕ). z ∷ a) same ∙ ap (λ (z : List ℕ). j ∷ z) r.0, r.1)
space_unique false [] x [] y h k p q e = (refl, e)
space_unique false [] x (j ∷ b) y h (inl k) p q e = absurd
    (let s = subst BeginsSome e p in let t : is_white j ≡ true = k.0 in let u : is_white j ≡ false = s.0 in cc)
space_unique false [] x (j ∷ b) y h (inr k) p q e = absurd (let s = subst BeginsSome e p in s.1 k.0)
space_unique false (i ∷ a) x [] y (inl h) k p q e = absurd
    (let s = subst BeginsSome (sym e) q in let t : is_white i ≡ true = h.0 in let u : is_white i ≡ false = s.0 in cc)
space_unique false (i ∷ a) x [] y (inr h) k p q e = absurd (let s = subst BeginsSome (sym e) q in s.1 h.0)
space_unique false (i ∷ a) x (j ∷ b) y (inl h) (inl k) p q e =
    let r = space_unique false a x b y h.1 k.1 p q (let g : a ++ x ≡ b ++ y = cc in g) in
    (let same : i ≡ j = cc in ap (λ (z : ℕ). z ∷ a) same ∙ ap (λ (z : List ℕ). j ∷ z) r.0, r.1)
space_unique false (i ∷ a) x (j ∷ b) y (inl h) (inr k) p q e = absurd (white_no_comment i h.0 (let same : i ≡ j = cc in same ∙ k.0))
space_unique false (i ∷ a) x (j ∷ b) y (inr h) (inl k) p q e = absurd (white_no_comment j k.0 (let same : i ≡ j = cc in sym same ∙ h.0))
space_unique false (i ∷ a) x (j ∷ b) y (inr h) (inr k) p q e =
    let r = space_unique true a x b y h.1 k.1 p q (let g : a ++ x ≡ b ++ y = cc in g) in
    (let same : i ≡ j = cc in ap (λ (z : ℕ). z ∷ a) same ∙ ap (λ (z : List ℕ). j ∷ z) r.0, r.1)

-- a last gap has no byte that is in no gap
last_gap_none : (c : Bool) (r a x : List ℕ) → IsSpace true c r → IsSpace false c a → BeginsSome x → r ≡ a ++ x → ⊥
last_gap_none true r [] x h k p e = cc
last_gap_none true [] (j ∷ a) x h k p e = cc
last_gap_none true (i ∷ r) (j ∷ a) x (inl h) (inl k) p e = last_gap_none false r a x h.1 k.1 p (let g : r ≡ a ++ x = cc in g)
last_gap_none true (i ∷ r) (j ∷ a) x (inl h) (inr k) p e = k.0 (let same : i ≡ j = cc in sym same ∙ h.0)
last_gap_none true (i ∷ r) (j ∷ a) x (inr h) (inl k) p e = h.0 (let same : i ≡ j = cc in same ∙ k.0)
last_gap_none true (i ∷ r) (j ∷ a) x (inr h) (inr k) p e = last_gap_none true r a x h.1 k.1 p (let g : r ≡ a ++ x = cc in g)
last_gap_none false [] [] x h k p e = subst BeginsSome (sym e) p
last_gap_none false (i ∷ r) [] x (inl h) k p e = let s = subst BeginsSome (sym e) p in let t : is_white i ≡ true = h.0 in let u : is_white i ≡ false = s.0 in cc
last_gap_none false (i ∷ r) [] x (inr h) k p e = let s = subst BeginsSome (sym e) p in s.1 h.0
last_gap_none false [] (j ∷ a) x h k p e = cc
last_gap_none false (i ∷ r) (j ∷ a) x (inl h) (inl k) p e = last_gap_none false r a x h.1 k.1 p (let g : r ≡ a ++ x = cc in g)
last_gap_none false (i ∷ r) (j ∷ a) x (inl h) (inr k) p e = white_no_comment i h.0 (let same : i ≡ j = cc in same ∙ k.0)
last_gap_none false (i ∷ r) (j ∷ a) x (inr h) (inl k) p e = white_no_comment j k.0 (let same : i ≡ j = cc in sym same ∙ h.0)
last_gap_none false (i ∷ r) (j ∷ a) x (inr h) (inr k) p e = last_gap_none true r a x h.1 k.1 p (let g : r ≡ a ++ x = cc in g)

-- ---- texts
token_same : (t u : Token) → t.kind ≡ u.kind → t.at ≡ u.at → t ≡ u
token_same t u e f = subst (λ (a : ℕ). (l : IsKind u.kind) → t ≡ made u.kind a l) f
    (subst (λ (k : Kind). (l : IsKind k) → t ≡ made k t.at l) e (λ l. ap (λ (z : IsKind t.kind). made t.kind t.at z) (IsKind-prop t.kind t.legal l))) u.legal
  where
    made : (k : Kind) → ℕ → IsKind k → Token
    made k a l = record { kind = k; at = a; legal = l }

-- A token may come where neither a text ends nor a byte is refused.
abbrev Excludes : (ℕ → List ℕ → Type 0) → Type 0
Excludes P = (at : ℕ) (gap rest : List ℕ) (k : Kind) → IsGap gap → IsKind k → P at (gap ++ (kind_bytes k ++ rest)) → ⊥

pub scans_unique : (P Q : ℕ → List ℕ → Type 0) → Excludes P → Excludes Q → (at : ℕ) (bytes : List ℕ) (ts us : List Token) → ScansTo P at bytes ts
    → ScansTo Q at bytes us → (ts ≡ us) × ((end : ℕ) × (rest : List ℕ) × P end rest × Q end rest)
scans_unique P Q p q at bytes [] [] h k = (refl, (at, bytes, h, k))
scans_unique P Q p q at bytes [] (u ∷ us) h k = absurd (p at k.0 k.1 u.kind k.2 k.5 (subst (P at) k.3 h))
scans_unique P Q p q at bytes (t ∷ ts) [] h k = absurd (q at h.0 h.1 t.kind h.2 h.5 (subst (Q at) h.3 k))
scans_unique P Q p q at bytes (t ∷ ts) (u ∷ us) h k =
    let gaps = space_unique false h.0 (kind_bytes t.kind ++ h.1) k.0 (kind_bytes u.kind ++ k.1) h.2 k.2 (token_begins t.kind h.1 h.5)
    (token_begins u.kind k.1 k.5) (sym h.3 ∙ k.3) in
    let both = kind_unique t.kind h.1 u.kind k.1 h.5 k.5 h.6 k.6 gaps.1 in
    let place : t.at ≡ u.at = h.4 ∙ ap (λ (z : List ℕ). at + length z) gaps.0 ∙ sym k.4 in
    let first = token_same t u both.0 place in
    let goes_on = subst (λ (z : List ℕ). ScansTo Q (t.at + length (kind_bytes t.kind)) z us) (sym both.1)
    (subst (λ (z : Token). ScansTo Q (z.at + length (kind_bytes z.kind)) k.1 us) (sym first) k.7) in
    let r = scans_unique P Q p q (t.at + length (kind_bytes t.kind)) h.1 ts us h.7 goes_on in
    (ap (λ (z : Token). z ∷ ts) first ∙ ap (λ (z : List Token). u ∷ z) r.0, r.1)

end_excludes : Excludes (λ at r. IsLastGap r)
end_excludes at gap rest k is_gap is h = last_gap_none false (gap ++ (kind_bytes k ++ rest)) gap (kind_bytes k ++ rest) h is_gap (token_begins k rest is) refl

-- the tokens of a text are unique
pub tokens_unique : (bytes : List ℕ) (ts us : List Token) → AreTokens bytes ts → AreTokens bytes us → ts ≡ us
tokens_unique bytes ts us h k = let r = scans_unique (λ at rest. IsLastGap rest) (λ at rest. IsLastGap rest) end_excludes end_excludes 0 bytes ts us h k in r.0

letters_token : (n x : List ℕ) → BeginsByLetter n → NoToken (n ++ x) → ⊥
letters_token [] x h none = h
letters_token (b ∷ n) x h none = let e : is_letter b ≡ true = h in let f : is_letter b ≡ false = none.0 in cc

is_token : (k : Kind) (x : List ℕ) → IsKind k → NoToken (kind_bytes k ++ x) → ⊥
is_token (kind.Name n) x is none = letters_token n x is.first none
is_token (kind.Number []) x is none = is
is_token (kind.Number (b ∷ d)) x is none = let e : is_ascii_digit b ≡ true = is.0 in let f : is_ascii_digit b ≡ false = none.1 in cc
is_token (kind.Fixed m) x is none = ⊎_elim (λ (w : IsWordMark m). letters_token (mark_bytes m) x w.first none)
    (λ (s : IsSignMark m). sign_token (mark_bytes m) s.first (s.begins x) none) (mark_is m)
  where
    sign_token : (n : List ℕ) → StartsSign n → begins_mark (n ++ x) ≡ true → NoToken (n ++ x) → ⊥
    sign_token [] s e none = s
    sign_token (b ∷ n) s e none = let f : begins_mark (b ∷ (n ++ x)) ≡ false = none.2 in cc

refused_excludes : (refused : ℕ) → Excludes (λ at r. IsRefusedHere at r refused)
refused_excludes refused at gap rest k is_gap is h =
    let u = space_unique false gap (kind_bytes k ++ rest) h.gap (h.byte ∷ h.rest) is_gap h.is_gap (token_begins k rest is) h.no_gap h.split in
    is_token k rest is (subst NoToken (sym u.1) h.no_token)

-- a text with a refused byte has no tokens
pub refused_no_tokens : (bytes : List ℕ) (refused : ℕ) (ts : List Token) → IsRefused bytes refused → AreTokens bytes ts → ⊥
refused_no_tokens bytes refused ts r h =
    let u = scans_unique (λ at rest. IsRefusedHere at rest refused) (λ at rest. IsLastGap rest) (refused_excludes refused) end_excludes 0 bytes r.0 ts r.1 h in
    let here = u.1.2 in
    last_gap_none false u.1.1 here.gap (here.byte ∷ here.rest) u.1.3 here.is_gap here.no_gap here.split

-- and its first one is unique
pub refused_unique : (bytes : List ℕ) (a b : ℕ) → IsRefused bytes a → IsRefused bytes b → a ≡ b
refused_unique bytes a b r s =
    let u = scans_unique (λ at rest. IsRefusedHere at rest a) (λ at rest. IsRefusedHere at rest b) (refused_excludes a) (refused_excludes b) 0 bytes r.0 s.0 r.1
    s.1 in
    let here = u.1.2 in
    let there = u.1.3 in
    let g = space_unique false here.gap (here.byte ∷ here.rest) there.gap (there.byte ∷ there.rest) here.is_gap there.is_gap here.no_gap there.no_gap
    (sym here.split ∙ there.split) in
    here.place ∙ ap (λ (z : List ℕ). u.1.0 + length z) g.0 ∙ sym there.place
