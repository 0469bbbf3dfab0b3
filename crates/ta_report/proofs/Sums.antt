-- A text of a sum is of one sum.
use Rattle.ta_report.proofs.Common.{ℕ, ℤ, pos, negsuc, suc, unsigned_abs, ◌==◌, ◌⊎◌, inl, inr, IsTrue, ◌<◌, ◌≤◌, ◌^◌, ◌≡◌, ◌∙◌, Bool, true, false, Option, None}
use Rattle.ta_report.proofs.Common.{Some, List, [], ◌∷◌, ◌++◌, length, ap, sym, refl, arith, codes, decimal, append_assoc, append-nil, lit≤, signed_decimal}
use Rattle.ta_report.proofs.Common.{AllByRecursion, eqb-true, append_cancel_left, LARGEST_NUMBER, Avoids, is_word, avoids-append, first_byte, tails, heads}
use Rattle.ta_report.proofs.Common.{decimal_avoids, number_other, number_same, each_get_or, Name, Automaton, each, many, first_sign, first_text, next_sign}
use Rattle.ta_report.proofs.Common.{term_text, constant_text, summands_text, place_name}
use Rattle.std.proofs.lemmas.Bool.Decides.{nat_tests}
use Rattle.ta_base.specs.Bytes.{BeginsByLetter, is_letter}
use Rattle.ta_base.proofs.DecimalDigits.{decimal_same}
use Rattle.ta_report.proofs.Tells.{name_avoids, no_minus, numbered_name, signed_same}

-- automata with the same names of places
pub record SameNames (a b : Automaton) : Type 0 where
  pub parameters : a.parameters ≡ b.parameters
  pub shared : a.shared ≡ b.shared
  pub locations : a.locations ≡ b.locations

abbrev pub all_names : Automaton → List (List ℕ)
all_names a = a.parameters ++ a.shared ++ a.locations

abbrev pub count : Automaton → ℕ
count a = length (all_names a)

names_same : (a b : Automaton) → SameNames a b → all_names a ≡ all_names b
names_same a b same = λ i. same.parameters i ++ same.shared i ++ same.locations i

-- ---- a summand without its sign: so many of a place, or a number
abbrev word : Automaton → Option ℕ → ℕ → List ℕ
word a None n = decimal n
word a (Some place) n = many (n == 1) n ++ place_name a place

abbrev IsPlace : ℕ → Option ℕ → Type 0
IsPlace k None = Unit {0}
IsPlace k (Some place) = place < k

name_legal : (a : Automaton) (place : ℕ) → place < count a → Name (place_name a place)
name_legal a place low = each_get_or Name (all_names a) place [] a.shape.names_legal low

many_avoids : (byte : ℕ) (b : Bool) (n : ℕ) → byte < 42 ⊎ (42 < byte × byte < 48) → n < 2 ^ 63 → Avoids byte (many b n)
many_avoids byte true n other small = tt
many_avoids byte false n other small =
    elim other [
      | inl low ↦ avoids-append byte (decimal n) (42 ∷ []) (decimal_avoids byte (2 ^ 63) n (omega (arith, low)) small (lit≤ tt))
          ((λ same. omega (arith, low, same)), tt)
      | inr high ↦ avoids-append byte (decimal n) (42 ∷ []) (decimal_avoids byte (2 ^ 63) n high.1 small (lit≤ tt)) ((λ same. omega (arith, high.0, same)), tt)
    ]

word_avoids_byte : (byte : ℕ) (a : Automaton) (o : Option ℕ) (n : ℕ) → is_word byte ≡ false → byte < 42 ⊎ (42 < byte × byte < 48) → byte < 48
    → IsPlace (count a) o → n < 2 ^ 63 → Avoids byte (word a o n)
word_avoids_byte byte a None n free other below is small = decimal_avoids byte (2 ^ 63) n below small (lit≤ tt)
word_avoids_byte byte a (Some place) n free other below is small = avoids-append byte (many (n == 1) n) (place_name a place)
    (many_avoids byte (n == 1) n other small) (name_avoids byte (place_name a place) free (name_legal a place is))

-- no text has a byte that it avoids
no_there : {X : Type 0} (byte : ℕ) (xs ys zs : List ℕ) → Avoids byte zs → zs ≡ xs ++ (byte ∷ ys) → X
no_there byte [] ys [] avoids e = absurd (cc)
no_there byte [] ys (z ∷ zs) avoids e = absurd (avoids.0 (heads z byte zs ys e))
no_there byte (x ∷ xs) ys [] avoids e = absurd (cc)
no_there byte (x ∷ xs) ys (z ∷ zs) avoids e = no_there byte xs ys zs avoids.1 (tails z x zs (xs ++ (byte ∷ ys)) e)

letter_high : (b : ℕ) → IsTrue (is_letter b) → 58 ≤ b
letter_high b h = grind (arith, nat_tests)

-- a number is no name, and not so many of one
no_name : {X : Type 0} (n : ℕ) (name : List ℕ) → n < 2 ^ 63 → BeginsByLetter name → decimal n ≡ name → X
no_name n [] small letter e = absurd letter
no_name n (x ∷ xs) small letter e = absurd (number_other n x xs [] (omega arith) (letter_high x letter) (append-nil (decimal n) ∙ e))

no_place : {X : Type 0} (b : Bool) (m n : ℕ) (name : List ℕ) → m < 2 ^ 63 → Name name → decimal m ≡ many b n ++ name → X
no_place true m n name small is e = no_name m name small is.spelled.first e
no_place false m n name small is e = no_there 42 (decimal n) name (decimal m) (decimal_avoids 42 (2 ^ 63) m (omega arith) small (lit≤ tt))
    (e ∙ append_assoc (decimal n) (42 ∷ []) name)

-- a place with how many of it there are
places_same : (a b : Automaton) → SameNames a b → (x y : Bool) (p q m n : ℕ) → (m == 1) ≡ x → (n == 1) ≡ y → p < count a → q < count b → m < 2 ^ 63 → n < 2 ^ 63
    → many x m ++ place_name a p ≡ many y n ++ place_name b q → (p ≡ q) × (m ≡ n)
places_same a b same true true p q m n is also low high small few e = (
  (numbered_name 32 (all_names a) (all_names b) p q [] [] refl (names_same a b same) a.shape.names_legal a.shape.names_distinct low high
      (ap (λ xs. xs ++ (32 ∷ [])) e)).0,
  eqb-true m 1 is ∙ sym (eqb-true n 1 also),
)
places_same a b same true false p q m n is also low high small few e = no_there 42 (decimal n) (place_name b q) (place_name a p)
    (name_avoids 42 (place_name a p) refl (name_legal a p low)) (e ∙ append_assoc (decimal n) (42 ∷ []) (place_name b q))
places_same a b same false true p q m n is also low high small few e = no_there 42 (decimal m) (place_name a p) (place_name b q)
    (name_avoids 42 (place_name b q) refl (name_legal b q high)) (sym e ∙ append_assoc (decimal m) (42 ∷ []) (place_name a p))
places_same a b same false false p q m n is also low high small few e =
    let parts = number_same 42 m n (place_name a p) (place_name b q) (omega arith) (omega arith) (omega arith)
    (sym (append_assoc (decimal m) (42 ∷ []) (place_name a p)) ∙ e ∙ append_assoc (decimal n) (42 ∷ []) (place_name b q)) in (
      (numbered_name 32 (all_names a) (all_names b) p q [] [] refl (names_same a b same) a.shape.names_legal a.shape.names_distinct low high
          (ap (λ xs. xs ++ (32 ∷ [])) parts.1)).0,
      parts.0,
    )

word_same : (a b : Automaton) → SameNames a b → (o p : Option ℕ) (m n : ℕ) → IsPlace (count a) o → IsPlace (count b) p → m < 2 ^ 63 → n < 2 ^ 63
    → word a o m ≡ word b p n → (o ≡ p) × (m ≡ n)
word_same a b same None None m n low high small few e = (refl, decimal_same (2 ^ 63) m n (lit≤ tt) small few e)
word_same a b same None (Some q) m n low high small few e = no_place (n == 1) m n (place_name b q) small (name_legal b q high) e
word_same a b same (Some p) None m n low high small few e = no_place (m == 1) n m (place_name a p) few (name_legal a p low) (sym e)
word_same a b same (Some p) (Some q) m n low high small few e =
    let parts = places_same a b same (m == 1) (n == 1) p q m n refl refl low high small few e in
    (ap (λ x. Some x) parts.0, parts.1)

-- what stands in front of a space
spaced_same : (a b : Automaton) → SameNames a b → (o p : Option ℕ) (m n : ℕ) (r s : List ℕ) → IsPlace (count a) o → IsPlace (count b) p → m < 2 ^ 63
    → n < 2 ^ 63 → word a o m ++ (32 ∷ r) ≡ word b p n ++ (32 ∷ s) → (o ≡ p) × (m ≡ n) × (r ≡ s)
spaced_same a b same o p m n r s low high small few e =
    let parts = first_byte 32 (word a o m) (word b p n) r s (word_avoids_byte 32 a o m refl (inl (omega arith)) (omega arith) low small)
    (word_avoids_byte 32 b p n refl (inl (omega arith)) (omega arith) high few) e in
    let words = word_same a b same o p m n low high small few parts.0 in
    (words.0, words.1, parts.1)

-- ---- summands with their signs
next_same : (a b : Automaton) → SameNames a b → (o p : Option ℕ) (y z : ℤ) (r s : List ℕ) → IsPlace (count a) o → IsPlace (count b) p → unsigned_abs y < 2 ^ 63
    → unsigned_abs z < 2 ^ 63 → next_sign y ++ (word a o (unsigned_abs y) ++ (32 ∷ r)) ≡ next_sign z ++ (word b p (unsigned_abs z) ++ (32 ∷ s)) → (o ≡ p)
    × (y ≡ z) × (r ≡ s)
next_same a b same o p (pos m) (pos n) r s low high small few e =
    let parts = spaced_same a b same o p m n r s low high small few (append_cancel_left (codes "+ ") (word a o m ++ (32 ∷ r)) (word b p n ++ (32 ∷ s)) e) in
    (parts.0, ap pos parts.1, parts.2)
next_same a b same o p (negsuc m) (negsuc n) r s low high small few e =
    let parts = spaced_same a b same o p (suc m) (suc n) r s low high small few
    (append_cancel_left (codes "- ") (word a o (suc m) ++ (32 ∷ r)) (word b p (suc n) ++ (32 ∷ s)) e) in
    let same : m ≡ n = omega (arith, parts.1) in
    (parts.0, ap negsuc same, parts.2)
next_same a b same o p (pos m) (negsuc n) r s low high small few e = absurd
    (omega (arith, heads 43 45 (32 ∷ (word a o m ++ (32 ∷ r))) (32 ∷ (word b p (suc n) ++ (32 ∷ s))) e))
next_same a b same o p (negsuc m) (pos n) r s low high small few e = absurd
    (omega (arith, heads 45 43 (32 ∷ (word a o (suc m) ++ (32 ∷ r))) (32 ∷ (word b p n ++ (32 ∷ s))) e))

first_same : (a b : Automaton) → SameNames a b → (o p : Option ℕ) (y z : ℤ) (r s : List ℕ) → IsPlace (count a) o → IsPlace (count b) p → unsigned_abs y < 2 ^ 63
    → unsigned_abs z < 2 ^ 63 → first_sign y ++ (word a o (unsigned_abs y) ++ (32 ∷ r)) ≡ first_sign z ++ (word b p (unsigned_abs z) ++ (32 ∷ s)) → (o ≡ p)
    × (y ≡ z) × (r ≡ s)
first_same a b same o p (pos m) (pos n) r s low high small few e =
    let parts = spaced_same a b same o p m n r s low high small few e in
    (parts.0, ap pos parts.1, parts.2)
first_same a b same o p (negsuc m) (negsuc n) r s low high small few e =
    let parts = spaced_same a b same o p (suc m) (suc n) r s low high small few (tails 45 45 (word a o (suc m) ++ (32 ∷ r)) (word b p (suc n) ++ (32 ∷ s)) e) in
    let same : m ≡ n = omega (arith, parts.1) in
    (parts.0, ap negsuc same, parts.2)
first_same a b same o p (pos m) (negsuc n) r s low high small few e = absurd
    (no_minus 32 (word a o m) r (word b p (suc n) ++ (32 ∷ s)) (omega arith)
    (word_avoids_byte 45 a o m refl (inr (omega arith, omega arith)) (omega arith) low small) e)
first_same a b same o p (negsuc m) (pos n) r s low high small few e = absurd
    (no_minus 32 (word b p n) s (word a o (suc m) ++ (32 ∷ r)) (omega arith)
    (word_avoids_byte 45 b p n refl (inr (omega arith, omega arith)) (omega arith) high few) (sym e))

-- another byte is no sign
no_sign_there : {X : Type 0} (t : ℕ) (z : ℤ) (r xs : List ℕ) → (t ≡ 43 → ⊥) → (t ≡ 45 → ⊥) → t ∷ r ≡ next_sign z ++ xs → X
no_sign_there t (pos n) r xs plus minus e = absurd (plus (heads t 43 r (32 ∷ xs) e))
no_sign_there t (negsuc n) r xs plus minus e = absurd (minus (heads t 45 r (32 ∷ xs) e))

-- ---- lists of summands
pub record TermFits (n : ℕ) (t : ℕ × ℤ) : Type 0 where
  pub place : t.0 < n
  pub small : unsigned_abs t.1 ≤ LARGEST_NUMBER

term_out : (sign size name r : List ℕ) → (sign ++ (size ++ (name ++ (32 ∷ [])))) ++ r ≡ sign ++ ((size ++ name) ++ (32 ∷ r))
term_out sign size name r = simp append_assoc

constant_out : (sign number r : List ℕ) → (sign ++ (number ++ (32 ∷ []))) ++ r ≡ sign ++ (number ++ (32 ∷ r))
constant_out sign number r = simp append_assoc

next_term : (a : Automaton) (t : ℕ × ℤ) (r : List ℕ) → term_text a t ++ r ≡ next_sign t.1 ++ (word a (Some t.0) (unsigned_abs t.1) ++ (32 ∷ r))
next_term a t r = term_out (next_sign t.1) (many (unsigned_abs t.1 == 1) (unsigned_abs t.1)) (place_name a t.0) r

first_term : (a : Automaton) (t : ℕ × ℤ) (r : List ℕ) → first_text a t ++ r ≡ first_sign t.1 ++ (word a (Some t.0) (unsigned_abs t.1) ++ (32 ∷ r))
first_term a t r = term_out (first_sign t.1) (many (unsigned_abs t.1 == 1) (unsigned_abs t.1)) (place_name a t.0) r

zero_is : (z : ℤ) → (unsigned_abs z == 0) ≡ true → z ≡ pos 0
zero_is (pos n) e = ap pos (eqb-true n 0 e)
zero_is (negsuc n) e = absurd (omega (arith, eqb-true (suc n) 0 e))

module _ (a b : Automaton) (same : SameNames a b) (t : ℕ) (plus : t ≡ 43 → ⊥) (minus : t ≡ 45 → ⊥) where
  constant_same : (x y : Bool) (c d : ℤ) (r s : List ℕ) → (unsigned_abs c == 0) ≡ x → (unsigned_abs d == 0) ≡ y → unsigned_abs c ≤ LARGEST_NUMBER
      → unsigned_abs d ≤ LARGEST_NUMBER → constant_text x c ++ (t ∷ r) ≡ constant_text y d ++ (t ∷ s) → (c ≡ d) × (r ≡ s)
  constant_same true true c d r s is also low high e = (zero_is c is ∙ sym (zero_is d also), tails t t r s e)
  constant_same true false c d r s is also low high e = no_sign_there t d r (decimal (unsigned_abs d) ++ (32 ∷ (t ∷ s))) plus minus
      (e ∙ constant_out (next_sign d) (decimal (unsigned_abs d)) (t ∷ s))
  constant_same false true c d r s is also low high e = no_sign_there t c s (decimal (unsigned_abs c) ++ (32 ∷ (t ∷ r))) plus minus
      (sym e ∙ constant_out (next_sign c) (decimal (unsigned_abs c)) (t ∷ r))
  constant_same false false c d r s is also low high e =
      let parts = next_same a b same None None c d (t ∷ r) (t ∷ s) tt tt (omega arith) (omega arith)
      (sym (constant_out (next_sign c) (decimal (unsigned_abs c)) (t ∷ r)) ∙ e ∙ constant_out (next_sign d) (decimal (unsigned_abs d)) (t ∷ s)) in
      (parts.1, tails t t r s parts.2)

  -- a constant is no term
  no_term : {X : Type 0} (k : Automaton) (l : Automaton) → SameNames k l → (x : Bool) (c : ℤ) (u : ℕ × ℤ) (r s : List ℕ) → unsigned_abs c ≤ LARGEST_NUMBER
      → TermFits (count l) u → constant_text x c ++ (t ∷ r) ≡ term_text l u ++ s → X
  no_term k l alike true c u r s low fits e = no_sign_there t u.1 r (word l (Some u.0) (unsigned_abs u.1) ++ (32 ∷ s)) plus minus (e ∙ next_term l u s)
  no_term k l alike false c u r s low fits e =
      let small = fits.small in
      let parts = next_same k l alike None (Some u.0) c u.1 (t ∷ r) s tt fits.place (omega arith) (omega arith)
      (sym (constant_out (next_sign c) (decimal (unsigned_abs c)) (t ∷ r)) ∙ e ∙ next_term l u s) in
      let none : None ≡ Some u.0 = parts.0 in
      absurd (cc)

back_names : (a b : Automaton) → SameNames a b → SameNames b a
back_names a b same = record { parameters = sym same.parameters; shared = sym same.shared; locations = sym same.locations }

some_same : (m n : ℕ) → Some m ≡ Some n → m ≡ n
some_same m n e = cc

-- a number is no term that stands first
signed_is : (z : ℤ) (r : List ℕ) → signed_decimal z ++ r ≡ first_sign z ++ (decimal (unsigned_abs z) ++ r)
signed_is (pos n) r = refl
signed_is (negsuc n) r = refl

no_first : {X : Type 0} (a b : Automaton) → SameNames a b → (c : ℤ) (u : ℕ × ℤ) (r s : List ℕ) → unsigned_abs c ≤ LARGEST_NUMBER → TermFits (count b) u
    → (signed_decimal c ++ (32 ∷ [])) ++ r ≡ first_text b u ++ s → X
no_first a b same c u r s low fits e =
    let small = fits.small in
    let parts = first_same a b same None (Some u.0) c u.1 r s tt fits.place (omega arith) (omega arith)
    (sym (signed_is c (32 ∷ r)) ∙ sym (append_assoc (signed_decimal c) (32 ∷ []) r) ∙ e ∙ first_term b u s) in
    let none : None ≡ Some u.0 = parts.0 in
    absurd (cc)

out_twice : (w x y z : List ℕ) → ((w ++ x) ++ y) ++ z ≡ w ++ ((x ++ y) ++ z)
out_twice w x y z = simp append_assoc

module _ (a b : Automaton) (same : SameNames a b) (t : ℕ) (plus : t ≡ 43 → ⊥) (minus : t ≡ 45 → ⊥) (c d : ℤ) (low : unsigned_abs c ≤ LARGEST_NUMBER)
    (high : unsigned_abs d ≤ LARGEST_NUMBER) where
  terms_same : (xs ys : List (ℕ × ℤ)) (r s : List ℕ) → AllByRecursion (TermFits (count a)) xs → AllByRecursion (TermFits (count b)) ys
      → (each (term_text a) xs ++ constant_text (unsigned_abs c == 0) c) ++ (t ∷ r) ≡ (each (term_text b) ys ++ constant_text (unsigned_abs d == 0) d)
      ++ (t ∷ s) → (xs ≡ ys) × (c ≡ d) × (r ≡ s)
  terms_same [] [] r s p q e =
      let parts = constant_same a b same t plus minus (unsigned_abs c == 0) (unsigned_abs d == 0) c d r s refl refl low high e in
      (refl, parts.0, parts.1)
  terms_same [] (y ∷ ys) r s p q e =
      no_term a b same t plus minus a b same (unsigned_abs c == 0) c y r ((each (term_text b) ys ++ constant_text (unsigned_abs d == 0) d) ++ (t ∷ s)) low q.0
      (e ∙ out_twice (term_text b y) (each (term_text b) ys) (constant_text (unsigned_abs d == 0) d) (t ∷ s))
  terms_same (x ∷ xs) [] r s p q e =
      no_term a b same t plus minus b a (back_names a b same) (unsigned_abs d == 0) d x s
      ((each (term_text a) xs ++ constant_text (unsigned_abs c == 0) c) ++ (t ∷ r)) high p.0
      (sym e ∙ out_twice (term_text a x) (each (term_text a) xs) (constant_text (unsigned_abs c == 0) c) (t ∷ r))
  terms_same (x ∷ xs) (y ∷ ys) r s p q e =
      let u : List ℕ = (each (term_text a) xs ++ constant_text (unsigned_abs c == 0) c) ++ (t ∷ r) in
      let v : List ℕ = (each (term_text b) ys ++ constant_text (unsigned_abs d == 0) d) ++ (t ∷ s) in
      let one = p.0.small in
      let other = q.0.small in
      let head = next_same a b same (Some x.0) (Some y.0) x.1 y.1 u v p.0.place q.0.place (omega arith) (omega arith)
      (sym (next_term a x u) ∙ sym (out_twice (term_text a x) (each (term_text a) xs) (constant_text (unsigned_abs c == 0) c) (t ∷ r)) ∙ e
      ∙ out_twice (term_text b y) (each (term_text b) ys) (constant_text (unsigned_abs d == 0) d) (t ∷ s) ∙ next_term b y v) in
      let place : x.0 ≡ y.0 = some_same x.0 y.0 head.0 in
      let rest = terms_same xs ys r s p.1 q.1 head.2 in
      ((λ i. (place i, head.1 i) ∷ rest.0 i), rest.1, rest.2)

  pub summands_same : (xs ys : List (ℕ × ℤ)) (r s : List ℕ) → AllByRecursion (TermFits (count a)) xs → AllByRecursion (TermFits (count b)) ys
      → summands_text a xs c ++ (t ∷ r) ≡ summands_text b ys d ++ (t ∷ s) → (xs ≡ ys) × (c ≡ d) × (r ≡ s)
  summands_same [] [] r s p q e =
      let parts = signed_same 32 c d (t ∷ r) (t ∷ s) (omega arith) (omega arith) (omega arith)
      (sym (append_assoc (signed_decimal c) (32 ∷ []) (t ∷ r)) ∙ e ∙ append_assoc (signed_decimal d) (32 ∷ []) (t ∷ s)) in
      (refl, parts.0, tails t t r s parts.1)
  summands_same [] (y ∷ ys) r s p q e = no_first a b same c y (t ∷ r) ((each (term_text b) ys ++ constant_text (unsigned_abs d == 0) d) ++ (t ∷ s)) low q.0
      (e ∙ append_assoc (first_text b y) (each (term_text b) ys ++ constant_text (unsigned_abs d == 0) d) (t ∷ s))
  summands_same (x ∷ xs) [] r s p q e = no_first b a (back_names a b same) d x (t ∷ s)
      ((each (term_text a) xs ++ constant_text (unsigned_abs c == 0) c) ++ (t ∷ r)) high p.0
      (sym e ∙ append_assoc (first_text a x) (each (term_text a) xs ++ constant_text (unsigned_abs c == 0) c) (t ∷ r))
  summands_same (x ∷ xs) (y ∷ ys) r s p q e =
      let u : List ℕ = (each (term_text a) xs ++ constant_text (unsigned_abs c == 0) c) ++ (t ∷ r) in
      let v : List ℕ = (each (term_text b) ys ++ constant_text (unsigned_abs d == 0) d) ++ (t ∷ s) in
      let one = p.0.small in
      let other = q.0.small in
      let head = first_same a b same (Some x.0) (Some y.0) x.1 y.1 u v p.0.place q.0.place (omega arith) (omega arith)
      (sym (first_term a x u) ∙ sym (append_assoc (first_text a x) (each (term_text a) xs ++ constant_text (unsigned_abs c == 0) c) (t ∷ r)) ∙ e
      ∙ append_assoc (first_text b y) (each (term_text b) ys ++ constant_text (unsigned_abs d == 0) d) (t ∷ s) ∙ first_term b y v) in
      let place : x.0 ≡ y.0 = some_same x.0 y.0 head.0 in
      let rest = terms_same xs ys r s p.1 q.1 head.2 in
      ((λ i. (place i, head.1 i) ∷ rest.0 i), rest.1, rest.2)
