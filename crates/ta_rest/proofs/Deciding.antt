-- whether a rule must move is decided on finite lists
use Rattle.ta_rest.proofs.Common.{◌≡◌, ◌≢◌, ◌⊎◌, inl, inr, ℕ, zero, suc, ◌<◌, List, length, IsBitSet, arith, refl, subst, sym, slice_get, get_or, Option, Some}
use Rattle.ta_rest.proofs.Common.{None, cases_Bool, cases_lt, eqb_tells, ints, same_Some, slice_get_within, Automaton, Rule, Config, Row, value_at, value_of}
use Rattle.ta_rest.proofs.Common.{pos, ◌<ℤ◌, bit_set, bit_true, has_bit, MaskedQuietlyHold, MustMove, OneFails, QuietlyHolds, QuietRest, QuietRestIsStuck}
use Rattle.ta_rest.proofs.Common.{Stuck, without, is_negative, negative_false, negative_true}

-- where each number has one of two properties, all below another have the first, or one has the second
each_or_one : (P Q : ℕ → Type 0) (n : ℕ) → ((i : ℕ) → P i ⊎ Q i) → ((i : ℕ) → i < n → P i) ⊎ ((i : ℕ) × Q i)
each_or_one P Q zero decide = inl (λ i b. absurd (omega arith))
each_or_one P Q (suc n) decide = elim (decide n) [
  | inl here ↦ elim (each_or_one P Q n decide) [
    | inl below ↦ inl (λ i b. elim (cases_lt i n) [
      | inl less ↦ below i less
      | inr most ↦ subst P (let e : n ≡ i = omega arith in e) here
    ])
    | inr found ↦ inr found
  ]
  | inr here ↦ inr (n, here)
]

-- a row quietly holds or fails
holds_or_fails : (silent : List ℕ) (c : Config) (row : Row) → QuietlyHolds silent c row ⊎ (value_of (without silent (value_at c)) row.form <ℤ pos 0)
holds_or_fails silent c row = elim (cases_Bool (is_negative (value_of (without silent (value_at c)) row.form))) [
  | inl t ↦ inr (negative_true (value_of (without silent (value_at c)) row.form) t)
  | inr f ↦ inl (negative_false (value_of (without silent (value_at c)) row.form) f)
]

-- the row with a number holds if a mask names it, or it is named and fails
abbrev HoldsIfNamed : List ℕ → ℕ → Config → ℕ → Option Row → Type 0
HoldsIfNamed silent mask c i found = (row : Row) → found ≡ Some row → IsBitSet mask i → QuietlyHolds silent c row

abbrev NamedFails : List ℕ → ℕ → Config → ℕ → Option Row → Type 0
NamedFails silent mask c i found = (row : Row) × (found ≡ Some row) × IsBitSet mask i × (value_of (without silent (value_at c)) row.form <ℤ pos 0)

row_decided : (silent : List ℕ) (mask : ℕ) (c : Config) (i : ℕ) (found : Option Row) → HoldsIfNamed silent mask c i found ⊎ NamedFails silent mask c i found
row_decided silent mask c i None = inl (λ row e bit. absurd (cc))
row_decided silent mask c i (Some row) = elim (cases_Bool (has_bit mask i)) [
  | inl t ↦ elim (holds_or_fails silent c row) [
    | inl holds ↦ inl (λ other e bit. subst (QuietlyHolds silent c) (same_Some row other e) holds)
    | inr fails ↦ inr (row, refl, bit_set mask i t, fails)
  ]
  | inr f ↦ inl (λ other e bit. let t = bit_true mask i bit in absurd (cc))
]

rows_decided : (silent : List ℕ) (mask : ℕ) (rows : List Row) (c : Config) → MaskedQuietlyHold silent mask rows c ⊎ OneFails silent mask rows c
rows_decided silent mask rows c = elim
    (each_or_one (λ i. HoldsIfNamed silent mask c i (slice_get rows i)) (λ i. NamedFails silent mask c i (slice_get rows i)) (length rows)
    (λ i. row_decided silent mask c i (slice_get rows i))) [
      | inl all ↦ inl (λ i row at bit. all i (slice_get_within rows i row at) row at bit)
      | inr one ↦ inr (record { number = one.0; row = one.1.0; named = one.1.1; is_set = one.1.2; fails = one.1.3 })
    ]

-- a rule between two locations must move or is stuck
pub must_or_stuck : (a : Automaton) (silent : List ℕ) (c : Config) (rule : Rule) → rule.from ≢ rule.to → MustMove a silent rule c ⊎ Stuck a silent rule c
must_or_stuck a silent c rule apart = elim (cases_lt (get_or c.counters rule.from 0) 1) [
  | inl none ↦ inr (inl (omega arith))
  | inr some ↦ elim (rows_decided silent rule.rise a.rise c) [
    | inr one ↦ inr (inr (inl one))
    | inl rise ↦ elim (rows_decided silent rule.fall a.fall c) [
      | inr one ↦ inr (inr (inr one))
      | inl fall ↦ inl (record { apart = apart; some = some; rise = rise; fall = fall })
    ]
  ]
]

one_fails_not : (silent : List ℕ) (mask : ℕ) (rows : List Row) (c : Config) → OneFails silent mask rows c → MaskedQuietlyHold silent mask rows c → ⊥
one_fails_not silent mask rows c one all = let holds = all one.number one.row one.named one.is_set in let fails = one.fails in omega (arith, ints)

-- not both
pub stuck_not : (a : Automaton) (silent : List ℕ) (c : Config) (rule : Rule) → Stuck a silent rule c → MustMove a silent rule c → ⊥
stuck_not a silent c rule (inl none) must = let some = must.some in omega arith
stuck_not a silent c rule (inr (inl one)) must = one_fails_not silent rule.rise a.rise c one must.rise
stuck_not a silent c rule (inr (inr one)) must = one_fails_not silent rule.fall a.fall c one must.fall

pub rest_stuck : QuietRestIsStuck
rest_stuck a silent c = (
  (λ quiet r rule named apart. elim (must_or_stuck a silent c rule apart) [
    | inl must ↦ absurd (quiet r rule named must)
    | inr stuck ↦ stuck
  ]),
  λ each r rule named must. stuck_not a silent c rule (each r rule named must.apart) must,
)

-- a rule with a number that must move, or isn't one that must
abbrev Moving : Automaton → List ℕ → Config → Option Rule → Type 0
Moving a silent c found = (rule : Rule) × (found ≡ Some rule) × MustMove a silent rule c

abbrev Resting : Automaton → List ℕ → Config → Option Rule → Type 0
Resting a silent c found = (rule : Rule) → found ≡ Some rule → MustMove a silent rule c → ⊥

rule_decided : (a : Automaton) (silent : List ℕ) (c : Config) (found : Option Rule) → Resting a silent c found ⊎ Moving a silent c found
rule_decided a silent c None = inl (λ rule e must. absurd (cc))
rule_decided a silent c (Some rule) = elim (eqb_tells rule.from rule.to) [
  | inl same ↦ inl (λ other e must. must.apart (subst (λ (q : Rule). q.from ≡ q.to) (same_Some rule other e) same.1))
  | inr apart ↦ elim (must_or_stuck a silent c rule apart.1) [
    | inl must ↦ inr (rule, refl, must)
    | inr stuck ↦ inl (λ other e must. stuck_not a silent c rule stuck (subst (λ (q : Rule). MustMove a silent q c) (sym (same_Some rule other e)) must))
  ]
]

-- some rule must move, or none
pub rest_or_moves : (a : Automaton) (silent : List ℕ) (c : Config) → ((r : ℕ) × (rule : Rule) × (slice_get a.rules r ≡ Some rule) × MustMove a silent rule c)
    ⊎ QuietRest a silent c
rest_or_moves a silent c = elim
    (each_or_one (λ r. Resting a silent c (slice_get a.rules r)) (λ r. Moving a silent c (slice_get a.rules r)) (length a.rules)
    (λ r. rule_decided a silent c (slice_get a.rules r))) [
      | inl all ↦ inr (λ r rule named must. all r (slice_get_within a.rules r rule named) rule named must)
      | inr one ↦ inl (one.0, one.1.0, one.1.1, one.1.2)
    ]
