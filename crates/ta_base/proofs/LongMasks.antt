-- masks of several words
use Rattle.ta_base.proofs.Common.{ℕ, zero, suc, ◌+◌, ◌-◌, ◌*◌, ◌/◌, ◌%◌, ◌^◌, ◌<◌, ◌≡◌, ◌⊎◌, ◌↔◌, inl, inr, List, [], ◌∷◌, get_or, length, eqb, refl, sym, ap}
use Rattle.ta_base.proofs.Common.{◌∙◌, subst, arith, IsBitSet, has_bit, bit_at, cases_eq, set, replicate, or_cases, eqb-true, eq-eqb, get_or-set_same}
use Rattle.ta_base.proofs.Common.{get_or-set_other, ◌≢◌, true, ◌||◌, ◌==◌}
use Rattle.std.proofs.lemmas.Nat.Bits.{bit_at_cat_low, bit_at_cat_high}
use Rattle.ta_base.specs.Masks.{AreWords, words_value}
use Rattle.ta_base.proofs.Bits.{bit_true, bit_set, has_none}
use Rattle.std.proofs.lemmas.Bool.{or_left, or_right}

-- a bit of the number is the bit of its word
pub word_has : (ws : List ℕ) (q r : ℕ) → AreWords ws → r < 128 → has_bit (words_value ws) (q * 128 + r) ≡ has_bit (get_or ws q 0) r
unfolding has_bit words_value
word_has [] q r are b = has_none (q * 128 + r) ∙ sym (has_none r)
word_has (w ∷ ws) zero r are b =
    let here : 0 * 128 + r ≡ r = omega arith in
    ap (λ m. eqb (bit_at (words_value ws * 2 ^ 128 + w) m) 1) here ∙ ap (λ k. eqb k 1) (bit_at_cat_low (words_value ws) 128 w r b)
word_has (w ∷ ws) (suc q) r are b =
    let left : suc q * 128 + r - 128 ≡ q * 128 + r = omega arith in
    ap (λ k. eqb k 1) (bit_at_cat_high (words_value ws) 128 w (suc q * 128 + r) are.0 (omega arith) ∙ ap (bit_at (words_value ws)) left)
    ∙ word_has ws q r are.1 b

-- the same for a number that is divided by 128
pub word_bit : (ws : List ℕ) (n : ℕ) → AreWords ws → IsBitSet (words_value ws) n ↔ IsBitSet (get_or ws (n / 128) 0) (n % 128)
word_bit ws n are =
    let whole : n / 128 * 128 + n % 128 ≡ n = omega arith in
    let rest : n % 128 < 128 = omega arith in
    let same : has_bit (words_value ws) n ≡ has_bit (get_or ws (n / 128) 0) (n % 128) = subst
    (λ m. has_bit (words_value ws) m ≡ has_bit (get_or ws (n / 128) 0) (n % 128))
    whole (word_has ws (n / 128) (n % 128) are rest) in (
      λ b. bit_set (get_or ws (n / 128) 0) (n % 128) (sym same ∙ bit_true (words_value ws) n b),
      λ b. bit_set (words_value ws) n (same ∙ bit_true (get_or ws (n / 128) 0) (n % 128) b),
    )

-- words in which one has one more number
pub inserted_bit : (ws : List ℕ) (more n : ℕ) → AreWords ws → AreWords (set ws (n / 128) more) → n / 128 < length ws
    → ((j : ℕ) → j < 128 → has_bit more j ≡ ((n % 128 == j) || has_bit (get_or ws (n / 128) 0) j)) → (i : ℕ)
    → IsBitSet (words_value (set ws (n / 128) more)) i ↔ (IsBitSet (words_value ws) i ⊎ (i ≡ n))
inserted_bit ws more n are new within told i = elim (cases_eq (i / 128) (n / 128)) [
  | inl same ↦ (λ b. gained same b, λ w. elim w [ inl b ↦ kept same b | inr e ↦ named same e ])
  | inr ne ↦ (
    λ b. inl ((word_bit ws i are).1 (subst (λ w. IsBitSet w (i % 128)) (other ne) ((word_bit (set ws (n / 128) more) i new).0 b))),
    λ w. elim w [
      | inl b ↦ (word_bit (set ws (n / 128) more) i new).1 (subst (λ w. IsBitSet w (i % 128)) (sym (other ne)) ((word_bit ws i are).0 b))
      | inr e ↦ absurd (ne (ap (λ k. k / 128) e))
    ],
  )
]
  where
    here : i / 128 ≡ n / 128 → get_or (set ws (n / 128) more) (i / 128) 0 ≡ more
    here same = ap (λ q. get_or (set ws (n / 128) more) q 0) same ∙ get_or-set_same ws (n / 128) more 0 within

    other : i / 128 ≢ n / 128 → get_or (set ws (n / 128) more) (i / 128) 0 ≡ get_or ws (i / 128) 0
    other ne = get_or-set_other ws (n / 128) (i / 128) more 0 ne

    bit : has_bit more (i % 128) ≡ ((n % 128 == i % 128) || has_bit (get_or ws (n / 128) 0) (i % 128))
    bit = told (i % 128) (omega arith)

    into : i / 128 ≡ n / 128 → has_bit more (i % 128) ≡ true → IsBitSet (words_value (set ws (n / 128) more)) i
    into same t = (word_bit (set ws (n / 128) more) i new).1 (subst (λ w. IsBitSet w (i % 128)) (sym (here same)) (bit_set more (i % 128) t))

    gained : i / 128 ≡ n / 128 → IsBitSet (words_value (set ws (n / 128) more)) i → IsBitSet (words_value ws) i ⊎ (i ≡ n)
    gained same b =
        let t : has_bit more (i % 128) ≡ true = bit_true more (i % 128)
        (subst (λ w. IsBitSet w (i % 128)) (here same) ((word_bit (set ws (n / 128) more) i new).0 b)) in
        elim (or_cases (n % 128 == i % 128) (has_bit (get_or ws (n / 128) 0) (i % 128)) (sym bit ∙ t)) [
          | inl e ↦ inr (let rest = eqb-true (n % 128) (i % 128) e in omega arith)
          | inr h ↦ inl ((word_bit ws i are).1 (subst (λ q. IsBitSet (get_or ws q 0) (i % 128)) (sym same) (bit_set (get_or ws (n / 128) 0) (i % 128) h)))
        ]

    kept : i / 128 ≡ n / 128 → IsBitSet (words_value ws) i → IsBitSet (words_value (set ws (n / 128) more)) i
    kept same b = into same (bit ∙ or_right (n % 128 == i % 128) (has_bit (get_or ws (n / 128) 0) (i % 128))
        (bit_true (get_or ws (n / 128) 0) (i % 128) (subst (λ q. IsBitSet (get_or ws q 0) (i % 128)) same ((word_bit ws i are).0 b))))

    named : i / 128 ≡ n / 128 → i ≡ n → IsBitSet (words_value (set ws (n / 128) more)) i
    named same e = into same (bit ∙ or_left (n % 128 == i % 128) (has_bit (get_or ws (n / 128) 0) (i % 128))
        (eq-eqb (n % 128) (i % 128) (ap (λ k. k % 128) (sym e))))

pub no_words : words_value (replicate 8 0) ≡ 0
unfolding words_value
no_words = refl

pub all_words : words_value (replicate 8 (2 ^ 128 - 1)) ≡ 2 ^ 1024 - 1
unfolding words_value
all_words = refl
