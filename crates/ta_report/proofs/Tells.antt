-- A text of a file is of one file.
use Rattle.ta_report.proofs.Common.{codes, ℕ, ℤ, pos, negsuc, zero, suc, unsigned_abs, ◌+◌, ◌<◌, ◌≤◌, ◌^◌, ◌≡◌, ◌∙◌, List, [], ◌∷◌, ◌++◌, length, Bool, true}
use Rattle.ta_report.proofs.Common.{false, cond, ap, sym, refl, subst, arith, decimal, append_assoc, lit≤, Some, inl, inr, get_or, filter, signed_decimal}
use Rattle.ta_report.proofs.Common.{AllByRecursion, range_with_len, append_cancel_left, Avoids, Distinct, In, has_bit, first_byte, tails, heads, number_same}
use Rattle.ta_report.proofs.Common.{decimal_avoids, each_get_or, word_avoids, is_word, each, numbered, mask_number, mask_text, name_text, name_at, Name}
use Rattle.std.specs.Char.{is_ascii_digit}
use Rattle.std.proofs.lemmas.Option.{slice_get-get_or}
use Rattle.ta_base.specs.Decimals.{BeginsNoDigit}
use Rattle.ta_base.proofs.DecimalDigits.{number_unique}
use Rattle.ta_base.proofs.Each.{distinct_at}
use Rattle.ta_base.proofs.Bits.{same_mask, has_above}
use Rattle.ta_base.proofs.Members.{In-filter, in_filter, in_get_or}
use Rattle.std.proofs.lemmas.Bool.{cases_lt}
use Rattle.std.proofs.lemmas.List.FromFn.{get_or-range_with_len, length-range_with_len}
use Rattle.ta_report.specs.Show.{listed}

-- texts of items, with what stands behind them, are of one item
abbrev pub Tells : {X : Type 0} → (X → List ℕ) → (X → List ℕ) → (X → Type 0) → (X → Type 0) → Type 0
Tells {X} f g P Q = (x y : X) (r s : List ℕ) → P x → Q y → f x ++ r ≡ g y ++ s → (x ≡ y) × (r ≡ s)

-- ---- lists
item_out : (d front more r : List ℕ) → ((d ++ (codes ": " ++ front)) ++ more) ++ r ≡ d ++ (codes ": " ++ (front ++ (more ++ r)))
item_out d front more r = append_assoc (d ++ (codes ": " ++ front)) more r ∙ append_assoc d (codes ": " ++ front) (more ++ r)

numbered_same : {X : Type 0} (f g : X → List ℕ) (P Q : X → Type 0) → Tells f g P Q → (k : ℕ) (xs ys : List X) (r s : List ℕ) → length xs ≡ length ys
    → AllByRecursion P xs → AllByRecursion Q ys → numbered f k xs ++ r ≡ numbered g k ys ++ s → (xs ≡ ys) × (r ≡ s)
numbered_same f g P Q tells k [] [] r s count p q e = (refl, e)
numbered_same f g P Q tells k [] (y ∷ ys) r s count p q e = absurd (omega (arith, count))
numbered_same f g P Q tells k (x ∷ xs) [] r s count p q e = absurd (omega (arith, count))
numbered_same f g P Q tells k (x ∷ xs) (y ∷ ys) r s count p q e =
    let a : List ℕ = f x ++ (numbered f (k + 1) xs ++ r) in
    let b : List ℕ = g y ++ (numbered g (k + 1) ys ++ s) in
    let out = sym (item_out (decimal k) (f x) (numbered f (k + 1) xs) r) ∙ e ∙ item_out (decimal k) (g y) (numbered g (k + 1) ys) s in
    let one = tells x y (numbered f (k + 1) xs ++ r) (numbered g (k + 1) ys ++ s) p.0 q.0
    (append_cancel_left (codes ": ") a b (append_cancel_left (decimal k) (codes ": " ++ a) (codes ": " ++ b) out)) in
    let rest = numbered_same f g P Q tells (k + 1) xs ys r s (omega (arith, count)) p.1 q.1 one.1 in
    ((λ i. one.0 i ∷ rest.0 i), rest.1)

listed_out : (word d more r : List ℕ) → (word ++ (d ++ (10 ∷ more))) ++ r ≡ word ++ (d ++ (10 ∷ (more ++ r)))
listed_out word d more r = append_assoc word (d ++ (10 ∷ more)) r ∙ ap (λ xs. word ++ xs) (append_assoc d (10 ∷ more) r)

pub listed_same : {X : Type 0} (word : List ℕ) (f g : X → List ℕ) (P Q : X → Type 0) → Tells f g P Q → (xs ys : List X) (r s : List ℕ) → length xs < 2 ^ 64
    → length ys < 2 ^ 64 → AllByRecursion P xs → AllByRecursion Q ys → listed word f xs ++ r ≡ listed word g ys ++ s → (xs ≡ ys) × (r ≡ s)
listed_same word f g P Q tells xs ys r s few some p q e =
    let a : List ℕ = decimal (length xs) ++ (10 ∷ (numbered f 0 xs ++ r)) in
    let b : List ℕ = decimal (length ys) ++ (10 ∷ (numbered g 0 ys ++ s)) in
    let out = sym (listed_out word (decimal (length xs)) (numbered f 0 xs) r) ∙ e ∙ listed_out word (decimal (length ys)) (numbered g 0 ys) s in
    let count = number_same 10 (length xs) (length ys) (numbered f 0 xs ++ r) (numbered g 0 ys ++ s) (omega arith) few some (append_cancel_left word a b out) in
    numbered_same f g P Q tells 0 xs ys r s count.0 p q count.1

-- ---- names
pub name_avoids : (byte : ℕ) (name : List ℕ) → is_word byte ≡ false → Name name → Avoids byte name
name_avoids byte name other is = word_avoids byte name other (record { first = is.spelled.first; each = is.spelled.each })

pub name_tells : Tells name_text name_text Name Name
name_tells x y r s p q e = first_byte 10 x y r s (name_avoids 10 x refl p) (name_avoids 10 y refl q)
    (sym (append_assoc x (10 ∷ []) r) ∙ e ∙ append_assoc y (10 ∷ []) s)

-- of distinct names, each is that of one number
pub one_number : (names : List (List ℕ)) (i j : ℕ) → Distinct names → i < length names → j < length names → name_at names i ≡ name_at names j → i ≡ j
one_number names i j distinct low high e = distinct_at names i j (get_or names j []) distinct (slice_get-get_or names i [] low ∙ ap (λ n. Some n) e)
    (slice_get-get_or names j [] high)

-- a name in front of a byte that it doesn't have
pub numbered_name : (byte : ℕ) (names others : List (List ℕ)) (i j : ℕ) (r s : List ℕ) → is_word byte ≡ false → names ≡ others → AllByRecursion Name names
    → Distinct names → i < length names → j < length others → name_at names i ++ (byte ∷ r) ≡ name_at others j ++ (byte ∷ s) → (i ≡ j) × (r ≡ s)
numbered_name byte names others i j r s other same legal distinct low high e =
    let within : j < length names = subst (λ ns. j < length ns) (sym same) high in
    let here : name_at names i ++ (byte ∷ r) ≡ name_at names j ++ (byte ∷ s) = e ∙ ap (λ ns. name_at ns j ++ (byte ∷ s)) (sym same) in
    let parts = first_byte byte (name_at names i) (name_at names j) r s
    (name_avoids byte (name_at names i) other (each_get_or Name names i [] legal low))
    (name_avoids byte (name_at names j) other (each_get_or Name names j [] legal within)) here in
    (one_number names i j distinct low within parts.0, parts.1)

-- ---- numbers
pub no_minus : (low : ℕ) (ds r x : List ℕ) → low < 45 → Avoids 45 ds → ds ++ (low ∷ r) ≡ 45 ∷ x → ⊥
no_minus low [] r x below avoids e = omega (arith, heads low 45 r x e)
no_minus low (d ∷ ds) r x below avoids e = avoids.0 (heads d 45 (ds ++ (low ∷ r)) x e)

pub signed_same : (low : ℕ) (y z : ℤ) (r s : List ℕ) → low < 45 → unsigned_abs y < 2 ^ 63 → unsigned_abs z < 2 ^ 63 → signed_decimal y
    ++ (low ∷ r) ≡ signed_decimal z ++ (low ∷ s) → (y ≡ z) × (r ≡ s)
signed_same low (pos m) (pos n) r s below small few e = let parts = number_same low m n r s (omega arith) (omega arith) (omega arith) e in
    (ap pos parts.0, parts.1)
signed_same low (negsuc m) (negsuc n) r s below small few e =
    let parts = number_same low (suc m) (suc n) r s (omega arith) (omega arith) (omega arith)
    (tails 45 45 (decimal (suc m) ++ (low ∷ r)) (decimal (suc n) ++ (low ∷ s)) e) in
    let same : m ≡ n = omega (arith, parts.0) in
    (ap negsuc same, parts.1)
signed_same low (pos m) (negsuc n) r s below small few e = absurd
    (no_minus low (decimal m) r (decimal (suc n) ++ (low ∷ s)) below (decimal_avoids 45 (2 ^ 63) m (omega arith) small (lit≤ tt)) e)
signed_same low (negsuc m) (pos n) r s below small few e = absurd
    (no_minus low (decimal n) s (decimal (suc m) ++ (low ∷ r)) below (decimal_avoids 45 (2 ^ 63) n (omega arith) few (lit≤ tt)) (sym e))

-- ---- masks
stop : (t : ℕ) (xs r : List ℕ) → is_ascii_digit t ≡ false → BeginsNoDigit (each mask_number xs ++ (t ∷ r))
stop t [] r free = free
stop t (x ∷ xs) r free = refl

numbers_same : (t : ℕ) (xs ys r s : List ℕ) → is_ascii_digit t ≡ false → (t ≡ 32 → ⊥) → AllByRecursion (λ x. x < 128) xs → AllByRecursion (λ x. x < 128) ys
    → each mask_number xs ++ (t ∷ r) ≡ each mask_number ys ++ (t ∷ s) → (xs ≡ ys) × (r ≡ s)
numbers_same t [] [] r s free other p q e = (refl, tails t t r s e)
numbers_same t [] (y ∷ ys) r s free other p q e = absurd (other (heads t 32 r ((decimal y ++ each mask_number ys) ++ (t ∷ s)) e))
numbers_same t (x ∷ xs) [] r s free other p q e = absurd (other (sym (heads 32 t ((decimal x ++ each mask_number xs) ++ (t ∷ r)) s e)))
numbers_same t (x ∷ xs) (y ∷ ys) r s free other p q e =
    let a : List ℕ = each mask_number xs ++ (t ∷ r) in
    let b : List ℕ = each mask_number ys ++ (t ∷ s) in
    let low : x < 128 = p.0 in
    let high : y < 128 = q.0 in
    let tail = tails 32 32 ((decimal x ++ each mask_number xs) ++ (t ∷ r)) ((decimal y ++ each mask_number ys) ++ (t ∷ s)) e in
    let parts = number_unique x y a b (omega arith) (omega arith) (stop t xs r free) (stop t ys s free)
    (sym (append_assoc (decimal x) (each mask_number xs) (t ∷ r)) ∙ tail ∙ append_assoc (decimal y) (each mask_number ys) (t ∷ s)) in
    let rest = numbers_same t xs ys r s free other p.1 q.1 parts.1 in
    ((λ i. parts.0 i ∷ rest.0 i), rest.1)

kept_below : (b : Bool) (x : ℕ) (xs : List ℕ) → x < 128 → AllByRecursion (λ y. y < 128) xs → AllByRecursion (λ y. y < 128) (cond b (x ∷ xs) xs)
kept_below true x xs low each = (low, each)
kept_below false x xs low each = each

below : (test : ℕ → Bool) (k n : ℕ) → k + n ≤ 128 → AllByRecursion (λ x. x < 128) (filter test (range_with_len k n))
below test k zero within = tt
below test k (suc n) within = kept_below (test k) k (filter test (range_with_len (k + 1) n)) (omega arith) (below test (k + 1) n (omega arith))

in_range : (i : ℕ) → i < 128 → In i (range_with_len 0 128)
in_range i low =
    let at : get_or (range_with_len 0 128) i 0 ≡ i = omega (arith, get_or-range_with_len 0 128 i 0 low) in
    subst (λ x. In x (range_with_len 0 128)) at (in_get_or (range_with_len 0 128) i 0 (omega (arith, length-range_with_len 0 128)))

same_bools : (b c : Bool) → (b ≡ true → c ≡ true) → (c ≡ true → b ≡ true) → b ≡ c
same_bools true c there back = sym (there refl)
same_bools false true there back = back refl
same_bools false false there back = refl

-- a mask of numbers below 128
abbrev pub MaskFits : ℕ → Type 0
MaskFits m = (k : ℕ) × (k ≤ 128) × (m < 2 ^ k)

bit_there : (m n i : ℕ) → filter (has_bit m) (range_with_len 0 128) ≡ filter (has_bit n) (range_with_len 0 128) → i < 128 → has_bit m i ≡ true
    → has_bit n i ≡ true
bit_there m n i e low bit = (in_filter (has_bit n) i (range_with_len 0 128)
    (subst (λ xs. In i xs) e (In-filter (has_bit m) i (range_with_len 0 128) bit (in_range i low)))).0

bits_same : (m n : ℕ) → MaskFits m → MaskFits n → filter (has_bit m) (range_with_len 0 128) ≡ filter (has_bit n) (range_with_len 0 128) → (i : ℕ)
    → has_bit m i ≡ has_bit n i
bits_same m n p q e i = elim (cases_lt i 128) [
  | inl low ↦ same_bools (has_bit m i) (has_bit n i) (bit_there m n i e low) (bit_there n m i (sym e) low)
  | inr high ↦ has_above m p.0 i p.2 (omega (arith, p.1)) ∙ sym (has_above n q.0 i q.2 (omega (arith, q.1)))
]

pub mask_same : (t m n : ℕ) (r s : List ℕ) → is_ascii_digit t ≡ false → (t ≡ 32 → ⊥) → MaskFits m → MaskFits n → mask_text m ++ (t ∷ r) ≡ mask_text n ++ (t ∷ s)
    → (m ≡ n) × (r ≡ s)
mask_same t m n r s free other p q e =
    let parts = numbers_same t (filter (has_bit m) (range_with_len 0 128)) (filter (has_bit n) (range_with_len 0 128)) r s free other
    (below (has_bit m) 0 128 (omega arith)) (below (has_bit n) 0 128 (omega arith)) e in
    (same_mask m n (bits_same m n p q parts.0), parts.1)
