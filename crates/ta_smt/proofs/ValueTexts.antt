-- The text of values determines them, and has then no bad line.
use Rattle.ta_smt.proofs.Common.{ℕ, suc, ℤ, ◌+◌, ◌≡◌, ◌⊎◌, inl, inr, List, [], ◌∷◌, ◌++◌, length, map, refl, sym, ap, ◌∙◌, append_assoc, arith, signed_decimal}
use Rattle.ta_smt.proofs.Common.{map-append, AllByRecursion, each_push, first_byte, not_empty, not_parted, Value, lines_text, number_avoids, number_same}
use Rattle.ta_smt.proofs.Common.{lines_text-append, FirstBadLine, IsNoNumber, IsUnfinished, IsValuesText, values_text, NextValue}

-- the first value and the text behind it
firsts_same : (v w : ℤ) (x y : List ℕ) → Value v → Value w → signed_decimal v ++ (10 ∷ x) ≡ signed_decimal w ++ (10 ∷ y) → (v ≡ w) × (x ≡ y)
firsts_same v w x y is are e =
    let parts = first_byte 10 (signed_decimal v) (signed_decimal w) x y (number_avoids 10 v (omega arith) is) (number_avoids 10 w (omega arith) are) e in
    (number_same v w is are parts.0, parts.1)

-- values are determined by their text
texts_same : (vs ws : List ℤ) → AllByRecursion Value vs → AllByRecursion Value ws → values_text vs ≡ values_text ws → vs ≡ ws
texts_same [] [] is are e = refl
texts_same [] (w ∷ ws) is are e = absurd (not_empty (signed_decimal w) (values_text ws) (sym e))
texts_same (v ∷ vs) [] is are e = absurd (not_empty (signed_decimal v) (values_text vs) e)
texts_same (v ∷ vs) (w ∷ ws) is are e =
    let first = firsts_same v w (values_text vs) (values_text ws) is.0 are.0 e in
    let head = first.0 in
    let tail = texts_same vs ws is.1 are.1 first.1 in
    cc

pub values_once : (vs ws : List ℤ) (bytes : List ℕ) → IsValuesText vs bytes → IsValuesText ws bytes → vs ≡ ws
values_once vs ws bytes is are = texts_same vs ws is.numbers are.numbers (sym is.text ∙ are.text)

-- what is bad is no value with its line feed, whatever comes behind
no_value : (v : ℤ) (rest tail : List ℕ) → Value v → IsUnfinished rest ⊎ IsNoNumber rest → rest ≡ signed_decimal v ++ (10 ∷ tail) → ⊥
no_value v rest tail is (inl unfinished) e = not_parted 10 (signed_decimal v) tail rest unfinished.no_feed e
no_value v rest tail is (inr bad) e =
    let parts = first_byte 10 bad.line (signed_decimal v) bad.behind tail bad.no_feed (number_avoids 10 v (omega arith) is) (sym bad.next ∙ e) in
    bad.other v record { number = is; text = parts.0 }

-- behind values that are a text's first ones come values
no_bad_line : (ws vs : List ℤ) (rest : List ℕ) → AllByRecursion Value ws → AllByRecursion Value vs → IsUnfinished rest ⊎ IsNoNumber rest → values_text ws
    ++ rest ≡ values_text vs → ⊥
no_bad_line [] [] rest are is (inl unfinished) e = unfinished.some e
no_bad_line [] [] rest are is (inr bad) e = not_empty bad.line bad.behind (sym bad.next ∙ e)
no_bad_line [] (v ∷ vs) rest are is bad e = no_value v rest (values_text vs) is.0 bad e
no_bad_line (w ∷ ws) [] rest are is bad e = not_empty (signed_decimal w) (values_text ws ++ rest)
    (sym (append_assoc (signed_decimal w) (10 ∷ values_text ws) rest) ∙ e)
no_bad_line (w ∷ ws) (v ∷ vs) rest are is bad e =
    let parts = firsts_same w v (values_text ws ++ rest) (values_text vs) are.0 is.0 (sym (append_assoc (signed_decimal w) (10 ∷ values_text ws) rest) ∙ e) in
    no_bad_line ws vs rest are.1 is.1 bad parts.1

-- a text has one first bad line
bad_lines : (vs ws : List ℤ) (x y : List ℕ) → AllByRecursion Value vs → AllByRecursion Value ws → IsUnfinished x ⊎ IsNoNumber x → IsUnfinished y ⊎ IsNoNumber y
    → values_text vs ++ x ≡ values_text ws ++ y → length vs ≡ length ws
bad_lines [] [] x y is are bad worse e = refl
bad_lines [] (w ∷ ws) x y is are bad worse e = absurd
    (no_value w x (values_text ws ++ y) are.0 bad (e ∙ append_assoc (signed_decimal w) (10 ∷ values_text ws) y))
bad_lines (v ∷ vs) [] x y is are bad worse e = absurd
    (no_value v y (values_text vs ++ x) is.0 worse (sym e ∙ append_assoc (signed_decimal v) (10 ∷ values_text vs) x))
bad_lines (v ∷ vs) (w ∷ ws) x y is are bad worse e =
    let parts = firsts_same v w (values_text vs ++ x) (values_text ws ++ y) is.0 are.0
    (sym (append_assoc (signed_decimal v) (10 ∷ values_text vs) x) ∙ e ∙ append_assoc (signed_decimal w) (10 ∷ values_text ws) y) in
    ap suc (bad_lines vs ws x y is.1 are.1 bad worse parts.1)

pub bad_line_once : (bytes : List ℕ) (m n : ℕ) → FirstBadLine bytes m → FirstBadLine bytes n → m ≡ n
bad_line_once bytes m n s t = s.place ∙ ap (λ k. k + 1) (bad_lines s.values t.values s.rest t.rest s.numbers t.numbers s.bad t.bad (sym s.text ∙ t.text))
    ∙ sym t.place

pub not_both : (vs : List ℤ) (bytes : List ℕ) (n : ℕ) → IsValuesText vs bytes → FirstBadLine bytes n → ⊥
not_both vs bytes n is bad = no_bad_line bad.values vs bad.rest bad.numbers is.numbers bad.bad (sym bad.text ∙ is.text)

-- what the reader has read, and what is left
pub record Read (bytes : List ℕ) (values : List ℤ) (rest : List ℕ) : Type 0 where
  pub numbers : AllByRecursion Value values
  pub text : bytes ≡ values_text values ++ rest

pub read_more : (bytes rest behind : List ℕ) (values : List ℤ) (v : ℤ) → Read bytes values rest → NextValue rest v behind → Read bytes (values ++ v ∷ []) behind
read_more bytes rest behind values v read next = record {
  numbers = each_push Value values v read.numbers next.number;
  text = read.text
      ∙ ap (λ xs. values_text values ++ xs) (next.read ∙ sym (append_assoc (signed_decimal v) (10 ∷ []) behind))
      ∙ sym (append_assoc (values_text values) (signed_decimal v ++ (10 ∷ [])) behind)
      ∙ ap (λ xs. xs ++ behind) (sym (lines_text-append (map signed_decimal values) (signed_decimal v ∷ [])))
      ∙ ap (λ ls. lines_text ls ++ behind) (sym (map-append signed_decimal values (v ∷ [])));
}
