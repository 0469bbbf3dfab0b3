-- the names of the family are names
use Rattle.ta_maker.proofs.Common.{◌≡◌, ◌∙◌, ◌≤◌, ◌<◌, ◌+◌, ◌||◌, ◌&&◌, ℕ, suc, zero, Bool, true, false, List, [], ◌∷◌, ◌++◌, refl, sym, ap, subst, arith}
use Rattle.ta_maker.proofs.Common.{IsTrue, codes, IsSum, Term, Terms, lone, name, numbered, AllByRecursion, and_parts, IsNameText, IsFamilyNumber}
use Rattle.std.proofs.lemmas.Fmt.{decimal_digit}
use Rattle.std.specs.Char.{is_ascii_digit}
use Rattle.std.specs.Str.{bytes_eq}
use Rattle.ta_syntax.specs.Kinds.{mark_bytes}
use Rattle.ta_base.specs.Bytes.{is_letter, is_word}
use Rattle.ta_syntax.specs.declared.tokens.Mark.{Mark}
use Rattle.ta_syntax.specs.PlainSums.{sum_depth}
use Rattle.ta_syntax.specs.declared.tokens.Mark.TheVariants as mark

ends_with_digit : List ℕ → Bool
ends_with_digit [] = false
ends_with_digit (c ∷ []) = is_ascii_digit c
ends_with_digit (c ∷ d ∷ cs) = ends_with_digit (d ∷ cs)

-- what no mark is
no_mark : List ℕ → Bool
no_mark text = ends_with_digit text || bytes_eq text (codes "A") || bytes_eq text (codes "B") || bytes_eq text (codes "n") || bytes_eq text (codes "lost")

marks_are : (m : Mark) → no_mark (mark_bytes m) ≡ false
unfolding no_mark ends_with_digit
marks_are mark.Semicolon = refl
marks_are _ = refl

free : (text : List ℕ) → no_mark text ≡ true → (m : Mark) → mark_bytes m ≡ text → ⊥
free text none m same = let e : true ≡ false = sym none ∙ ap no_mark (sym same) ∙ marks_are m in cc

-- whether the bytes of a text are those of a name
are_words : List ℕ → Bool
are_words [] = true
are_words (c ∷ cs) = is_word c && are_words cs

is_name : List ℕ → Bool
is_name [] = false
is_name (c ∷ cs) = is_letter c && (are_words (c ∷ cs) && no_mark (c ∷ cs))

words : (text : List ℕ) → are_words text ≡ true → AllByRecursion (λ b. IsTrue (is_word b)) text
unfolding are_words
words [] e = tt
words (c ∷ cs) e = let two = and_parts (is_word c) (are_words cs) e in (two.0, words cs two.1)

named : (text : List ℕ) → is_name text ≡ true → IsNameText text
unfolding is_name
named [] e = absurd (cc)
named (c ∷ cs) e =
    let letter = and_parts (is_letter c) (are_words (c ∷ cs) && no_mark (c ∷ cs)) e in
    let rest = and_parts (are_words (c ∷ cs)) (no_mark (c ∷ cs)) letter.1 in
    record { first = letter.0; each = words (c ∷ cs) rest.0; free = free (c ∷ cs) rest.1 }

-- a fact of each number of the family
pub of_each : (P : ℕ → Type 0) → P 1 → P 2 → P 3 → P 4 → P 5 → P 6 → P 7 → (k : ℕ) → IsFamilyNumber k → P k
of_each P a b c d e f g zero is = let low = is.low in absurd (omega (arith, low))
of_each P a b c d e f g (suc zero) is = a
of_each P a b c d e f g (suc (suc zero)) is = b
of_each P a b c d e f g (suc (suc (suc zero))) is = c
of_each P a b c d e f g (suc (suc (suc (suc zero)))) is = d
of_each P a b c d e f g (suc (suc (suc (suc (suc zero))))) is = e
of_each P a b c d e f g (suc (suc (suc (suc (suc (suc zero)))))) is = f
of_each P a b c d e f g (suc (suc (suc (suc (suc (suc (suc zero))))))) is = g
of_each P a b c d e f g (suc (suc (suc (suc (suc (suc (suc (suc k)))))))) is = let high = is.high in absurd (omega (arith, high))

-- a name with a digit behind it
with_digit : (front : List ℕ) (k : ℕ) → IsFamilyNumber k → is_name (front ++ (48 + k) ∷ []) ≡ true → IsNameText (numbered front k)
with_digit front k is e =
    let high = is.high in
    let small : k < 10 = omega (arith, high) in
    subst (λ (ds : List ℕ). IsNameText (front ++ ds)) (sym (decimal_digit k small)) (named (front ++ (48 + k) ∷ []) e)

pub name_x : (k : ℕ) → IsFamilyNumber k → IsNameText (numbered (codes "x") k)
unfolding is_name are_words no_mark ends_with_digit
name_x k is = with_digit (codes "x") k is (of_each (λ j. is_name (codes "x" ++ (48 + j) ∷ []) ≡ true) refl refl refl refl refl refl refl k is)

pub name_s : (k : ℕ) → IsFamilyNumber k → IsNameText (numbered (codes "s") k)
unfolding is_name are_words no_mark ends_with_digit
name_s k is = with_digit (codes "s") k is (of_each (λ j. is_name (codes "s" ++ (48 + j) ∷ []) ≡ true) refl refl refl refl refl refl refl k is)

pub name_g : (k : ℕ) → IsFamilyNumber k → IsNameText (numbered (codes "g") k)
unfolding is_name are_words no_mark ends_with_digit
name_g k is = with_digit (codes "g") k is (of_each (λ j. is_name (codes "g" ++ (48 + j) ∷ []) ≡ true) refl refl refl refl refl refl refl k is)

pub name_family : (k : ℕ) → IsFamilyNumber k → IsNameText (numbered (codes "family") k)
unfolding is_name are_words no_mark ends_with_digit
name_family k is = with_digit (codes "family") k is (of_each (λ j. is_name (codes "family" ++ (48 + j) ∷ []) ≡ true) refl refl refl refl refl refl refl k is)

pub name_n : IsNameText (codes "n")
unfolding is_name are_words no_mark ends_with_digit
name_n = named (codes "n") refl

pub name_A : IsNameText (codes "A")
unfolding is_name are_words no_mark ends_with_digit
name_A = named (codes "A") refl

pub name_B : IsNameText (codes "B")
unfolding is_name are_words no_mark ends_with_digit
name_B = named (codes "B") refl

pub name_lost : IsNameText (codes "lost")
unfolding is_name are_words no_mark ends_with_digit
name_lost = named (codes "lost") refl

-- a sum that is a name
pub is_lone : (ts : Terms) (t : Term) (text : List ℕ) → ts ≡ lone t → t ≡ name text → IsNameText text → IsSum ts
is_lone ts t text is alone legal = subst IsSum (sym (is ∙ ap lone alone)) (legal, tt)

pub shallow_lone : (ts : Terms) (t : Term) (text : List ℕ) → ts ≡ lone t → t ≡ name text → sum_depth ts ≤ 32
shallow_lone ts t text is alone = subst (λ (s : Terms). sum_depth s ≤ 32) (sym (is ∙ ap lone alone)) (omega arith)
