-- bytes and texts
use Rattle.ta_base.proofs.Common.{ℕ, IsTrue, ◌<◌, arith, List, IsAscii, [], ◌∷◌, bytes_eq, ◌≡◌, true, refl, ◌≢◌, false, String, Global, string_eq, string_bytes}
use Rattle.ta_base.proofs.Common.{map, sym, ◌∙◌, nat_tests, same_from_decides, AllByRecursion, IsDistinct, IsAscii-nil, IsAscii-cons, bytes_eq-Decides}
use Rattle.ta_base.proofs.Common.{false_from_ne_true, false≢true, is_word, Distinct, IsDistinct-head, IsDistinct-tail, ◌⊎◌, inl, inr, ap, cases_eq, Avoids}
use Rattle.ta_base.proofs.Common.{SplitAt, Some, slice_get, slice_get-get_or, get_or, option_map, Bool}
use Rattle.ta_base.proofs.Each.{each_map}
use Rattle.std.proofs.lemmas.List.Quantifiers.{position-Some}
use Rattle.std.proofs.lemmas.Option.{slice_get-map}
use Rattle.std.proofs.Common.{position}

-- the bytes of words are ASCII
word_ascii : (b : ℕ) → IsTrue (is_word b) → b < 128
word_ascii b h = grind (arith, nat_tests)

pub words_ascii : (bytes : List ℕ) → AllByRecursion (λ b. IsTrue (is_word b)) bytes → IsAscii bytes
words_ascii [] each = IsAscii-nil
words_ascii (b ∷ bs) each = IsAscii-cons b bs (word_ascii b each.0) (words_ascii bs each.1)

-- a name is its own
pub same_name : (name : List ℕ) → bytes_eq name name ≡ true
same_name name = (bytes_eq-Decides name name).1 refl

-- two names that differ aren't equal
pub other_name : (known name : List ℕ) → known ≢ name → bytes_eq known name ≡ false
other_name known name differ = false_from_ne_true (bytes_eq known name) (λ e. differ ((bytes_eq-Decides known name).0 e))

-- ---- names that are kept as strings
each_other : (k : String Global) (ks : List (String Global)) → AllByRecursion (λ y. string_eq k y ≡ false) ks
    → AllByRecursion (λ y. string_bytes k ≡ y → ⊥) (map string_bytes ks)
each_other k ks h = each_map string_bytes (λ y. string_eq k y ≡ false) (λ y. string_bytes k ≡ y → ⊥) ks
    (λ y no e. false≢true (sym no ∙ (bytes_eq-Decides (string_bytes k) (string_bytes y)).1 e)) h

pub distinct_names : (keys : List (String Global)) → IsDistinct string_eq keys → Distinct (map string_bytes keys)
distinct_names [] h = tt
distinct_names (k ∷ ks) h = (each_other k ks (IsDistinct-head string_eq k ks h), distinct_names ks (IsDistinct-tail string_eq k ks h))

pub bytes_eq_turned : (m n : List ℕ) → bytes_eq m n ≡ bytes_eq n m
bytes_eq_turned m n = same_from_decides (bytes_eq m n) (bytes_eq n m) (bytes_eq-Decides m n)
    (λ e. sym ((bytes_eq-Decides n m).0 e), λ e. (bytes_eq-Decides n m).1 (sym e))

-- a name that none of these holes has differs from each of their names
pub differs : (n m : List ℕ) → bytes_eq n m ≡ false → m ≡ n → ⊥
differs n m e same = false≢true (sym e ∙ (bytes_eq-Decides n m).1 (sym same))

-- bytes avoid a byte, or are parted at the first such
pub split_or : (byte : ℕ) (bytes : List ℕ) → Avoids byte bytes ⊎ ((front : List ℕ) × (behind : List ℕ) × SplitAt byte bytes front behind)
split_or byte [] = inl tt
split_or byte (b ∷ bytes) = by (cases_eq b byte) (split_or byte bytes)
  where
    by : (b ≡ byte) ⊎ (b ≢ byte) → Avoids byte bytes ⊎ ((front : List ℕ) × (behind : List ℕ) × SplitAt byte bytes front behind) → Avoids byte (b ∷ bytes)
        ⊎ ((front : List ℕ) × (behind : List ℕ) × SplitAt byte (b ∷ bytes) front behind)
    by (inl e) rest = inr ([], bytes, record { split = ap (λ x. x ∷ bytes) e; first = tt })
    by (inr ne) (inl none) = inl (ne, none)
    by (inr ne) (inr s) = inr (b ∷ s.0, s.1, record { split = ap (λ (xs : List ℕ). b ∷ xs) s.2.split; first = (ne, s.2.first) })

-- the test by which a set looks a name up
abbrev pub is_key : List ℕ → String Global → Bool
is_key n k = bytes_eq n (string_bytes k)

-- a key that is found stands at its place
pub key_at : (n : List ℕ) (keys : List (String Global)) (i : ℕ) → position (is_key n) keys ≡ Some i → slice_get (map string_bytes keys) i ≡ Some n
key_at n [] i e = cc
key_at n (k ∷ ks) i e =
    let p = position-Some (is_key n) (k ∷ ks) i k e in
    slice_get-map string_bytes (k ∷ ks) i ∙ ap (option_map string_bytes) (slice_get-get_or (k ∷ ks) i k p.0)
    ∙ ap Some (sym ((bytes_eq-Decides n (string_bytes (get_or (k ∷ ks) i k))).0 p.1))
