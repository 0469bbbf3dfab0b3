-- Names in a list: which are there, and where.
use Rattle.ta_meaning.proofs.Common.{◌≡◌, ℕ, zero, suc, ◌+◌, ◌-◌, ◌<◌, ◌≤◌, Bool, true, false, ◌||◌, List, [], ◌∷◌, ◌++◌, map, take, drop, slice_get}
use Rattle.ta_meaning.proofs.Common.{if◌then◌else◌, Some, refl, sym, ap, subst, ◌∙◌, arith, String, Global, string_bytes, string_eq, bytes_eq-Decides}
use Rattle.ta_meaning.proofs.Common.{map-append, list_any, bytes_eq, Distinct, bytes_eq_turned, distinct_at, slice_get-drop, slice_get-take}
use Rattle.ta_meaning.proofs.Common.{slice_get-take_within, has_name}
use Rattle.ta_base.proofs.ByteLists.{is_key}

-- ---- a name among names

-- the name stands at a place
abbrev pub At : List (List ℕ) → List ℕ → Type 0
At names n = (i : ℕ) × (slice_get names i ≡ Some n)

pub has_name-at : (names : List (List ℕ)) (n : List ℕ) (i : ℕ) → slice_get names i ≡ Some n → has_name names n ≡ true
has_name-at [] n i e = cc
has_name-at (m ∷ names) n zero e = let h = (bytes_eq-Decides m n).1 (cc) in ap (λ (b : Bool). b || has_name names n) h
has_name-at (m ∷ names) n (suc i) e = let h = has_name-at names n i e in grind arith

pub has_name-where : (names : List (List ℕ)) (n : List ℕ) → has_name names n ≡ true → At names n
has_name-where [] n e = cc
has_name-where (m ∷ names) n e = first_or (bytes_eq m n) refl (λ h. has_name-where names n h) e
  where
    first_or : (b : Bool) → bytes_eq m n ≡ b → (has_name names n ≡ true → At names n) → (b || has_name names n) ≡ true → At (m ∷ names) n
    first_or true h later e = (zero, ap Some ((bytes_eq-Decides m n).0 h))
    first_or false h later e = let w = later e in (suc w.0, w.1)

pub outside_part : (names : List (List ℕ)) (n : List ℕ) (from to i : ℕ) → Distinct names → slice_get names i ≡ Some n → (from ≤ i → to ≤ i)
    → has_name (take (to - from) (drop from names)) n ≡ false
outside_part names n from to i d e out = by (has_name (take (to - from) (drop from names)) n) refl
  where
    by : (b : Bool) → has_name (take (to - from) (drop from names)) n ≡ b → b ≡ false
    by false h = refl
    by true h =
        let w = has_name-where (take (to - from) (drop from names)) n h in
        let k = w.0 in
        let within : k < to - from = slice_get-take_within (drop from names) (to - from) k n w.1 in
        let there : slice_get names (from + k) ≡ Some n = sym (slice_get-drop names from k) ∙ sym (slice_get-take (drop from names) (to - from) k within)
        ∙ w.1 in
        let same : from + k ≡ i = distinct_at names (from + k) i n d there e in
        absurd (omega (arith, out))

pub has_key : (n : List ℕ) (keys : List (String Global)) → list_any (is_key n) keys ≡ has_name (map string_bytes keys) n
has_key n [] = refl
has_key n (k ∷ ks) = ap (λ (b : Bool). b || list_any (is_key n) ks) (bytes_eq_turned n (string_bytes k))
    ∙ ap (λ (b : Bool). bytes_eq (string_bytes k) n || b) (has_key n ks)

-- ---- along equations
pub has_name-along : (a b : List (List ℕ)) (m n : List ℕ) (t : Bool) → a ≡ b → m ≡ n → has_name a m ≡ t → has_name b n ≡ t
has_name-along a b m n t e g h = subst (λ (x : List (List ℕ)). has_name x n ≡ t) e (subst (λ (y : List ℕ). has_name a y ≡ t) g h)

-- a new name goes last
pub inserted : (names : List (List ℕ)) (n : List ℕ) (keys : List (String Global)) (k : String Global) → map string_bytes keys ≡ names → string_bytes k ≡ n
    → has_name names n ≡ false → map string_bytes (if list_any (string_eq k) keys then keys else keys ++ k ∷ []) ≡ names ++ n ∷ []
inserted names n keys k e g new =
    let none : list_any (string_eq k) keys ≡ false = has_key (string_bytes k) keys
    ∙ has_name-along names (map string_bytes keys) n (string_bytes k) false (sym e) (sym g) new in
    ap (λ (b : Bool). map string_bytes (if b then keys else keys ++ k ∷ [])) none
    ∙ map-append string_bytes keys (k ∷ [])
    ∙ ap (λ (x : List (List ℕ)). x ++ string_bytes k ∷ []) e
    ∙ ap (λ (y : List ℕ). names ++ y ∷ []) g
