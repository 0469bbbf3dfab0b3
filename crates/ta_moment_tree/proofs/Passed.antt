-- numbers that pass a test
use Rattle.ta_moment_tree.proofs.Common.{◌≡◌, ◌≢◌, ◌∙◌, ℕ, zero, suc, ◌+◌, ◌-◌, ◌<◌, Bool, true, false, ◌&&◌, cond, List, [], ◌∷◌, length, slice_get, Some}
use Rattle.ta_moment_tree.proofs.Common.{refl, sym, ap, subst, arith, filter, range_with_len, slice_get_left, slice_get_right, filter_more}
use Rattle.ta_moment_tree.proofs.Lists.{filter_kept}

-- of the numbers below one of which the last passes, the one that comes behind those that pass below it
last_passed : (test : ℕ → Bool) (i number : ℕ) → test i ≡ true → number ≡ length (filter test (range_with_len 0 i))
    → slice_get (filter test (range_with_len 0 (i + 1))) number ≡ Some i
last_passed test i number t is =
    let below = filter test (range_with_len 0 i) in
    ap (λ (xs : List ℕ). slice_get xs number) (sym (filter_kept test i t))
    ∙ slice_get_right below (i ∷ []) number 0 (let e : number ≡ length below + 0 = omega arith in e)

passed_later : (test : ℕ → Bool) (i later number : ℕ) → test i ≡ true → number ≡ length (filter test (range_with_len 0 i))
    → slice_get (filter test (range_with_len 0 (i + 1 + later))) number ≡ Some i
passed_later test i zero number t is =
    (let one : i + 1 + 0 ≡ i + 1 = omega arith in ap (λ (k : ℕ). slice_get (filter test (range_with_len 0 k)) number) one ∙ last_passed test i number t is)
passed_later test i (suc later) number t is =
    let n = i + 1 + later in
    let old = filter test (range_with_len 0 n) in
    let one : i + 1 + suc later ≡ n + 1 = omega arith in
    ap (λ (k : ℕ). slice_get (filter test (range_with_len 0 k)) number) one
    ∙ ap (λ (xs : List ℕ). slice_get xs number) (filter_more test 0 n)
    ∙ slice_get_left old _ number i (passed_later test i later number t is)

pub passed_at : (test : ℕ → Bool) (n i number : ℕ) → i < n → test i ≡ true → number ≡ length (filter test (range_with_len 0 i))
    → slice_get (filter test (range_with_len 0 n)) number ≡ Some i
passed_at test n i number below t is =
    let one : n ≡ i + 1 + (n - (i + 1)) = omega arith in
    subst (λ (k : ℕ). slice_get (filter test (range_with_len 0 k)) number ≡ Some i) (sym one) (passed_later test i (n - (i + 1)) number t is)

-- two tests, one after the other
filter_if : (one two : Bool) (x : ℕ) (xs : List ℕ) (other : List ℕ) → xs ≡ other → cond (one && two) (x ∷ other) other ≡ cond one (cond two (x ∷ xs) xs) xs
filter_if true true x xs other same = ap (λ (ys : List ℕ). x ∷ ys) (sym same)
filter_if true false x xs other same = sym same
filter_if false two x xs other same = sym same

filter_cond : (two : ℕ → Bool) (one : Bool) (x : ℕ) (xs : List ℕ)
    → filter two (cond one (x ∷ xs) xs) ≡ cond one (cond (two x) (x ∷ filter two xs) (filter two xs)) (filter two xs)
filter_cond two true x xs = refl
filter_cond two false x xs = refl

pub filter_twice : (one two : ℕ → Bool) (xs : List ℕ) → filter (λ r. one r && two r) xs ≡ filter two (filter one xs)
filter_twice one two [] = refl
filter_twice one two (x ∷ xs) = filter_if (one x) (two x) x (filter two (filter one xs)) (filter (λ r. one r && two r) xs) (sym (filter_twice one two xs))
    ∙ sym (filter_cond two (one x) x (filter one xs))

-- neither passes both where one doesn't
pub and_never : (x y : Bool) → y ≡ false → (x && y) ≡ false
and_never true y h = h
and_never false y h = refl

pub never_and : (x y : Bool) → x ≡ false → (x && y) ≡ false
never_and x y h = ap (λ b. b && y) h

-- what stands behind the first
pub behind_first : {X : Type 0} (x : X) (xs : List X) (n : ℕ) → n ≢ 0 → slice_get (x ∷ xs) n ≡ slice_get xs (n - 1)
behind_first x xs zero some = absurd (some refl)
behind_first x xs (suc n) some = ap (slice_get xs) (let e : n ≡ suc n - 1 = omega arith in e)
