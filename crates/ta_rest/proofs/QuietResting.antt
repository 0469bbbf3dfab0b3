-- quiet rest and rest
use Rattle.ta_rest.proofs.Common.{Bool, true, false, not, ◌||◌, cases_Bool, ◌≡◌, inl, inr, ℕ, ℤ, pos, ◌+ℤ◌, ◌*ℤ◌, ◌≤ℤ◌, List, [], ◌∷◌, length, cond, eqb, arith}
use Rattle.ta_rest.proofs.Common.{ints, sym, ap, ◌∙◌, refl, subst, slice_get, Some, cond-false, cond-true, eq-eqb, ne_eqb, eqb_tells, same_Some, Automaton}
use Rattle.ta_rest.proofs.Common.{Rule, Pattern, Config, MaskedHold, Whole, coefficient, RowHolds, Row, value_at, AtRest, ComesTo, MustMove, NoneSubtracted}
use Rattle.ta_rest.proofs.Common.{QuietRest, LoudTermsAreLeft, is_silent, loud_terms, without, QuietRestIsWeaker, QuietSafeIsStronger, EndingsQuietRestAlike}
use Rattle.ta_rest.proofs.Common.{RestIsQuietRest, RestSafeIsQuietRestSafe, terms_value-same, fire, fire_step}
use Rattle.ta_base.proofs.Integers.{expand, mul-ge-zero}
use Rattle.ta_linear.specs.Values.{terms_value}
use Rattle.ta_rest.proofs.Resting.{whole_at}
use Rattle.ta_rest.proofs.EndingLaws.{endings_alike}

-- a rule that must move and whose guards hold can move, so nothing is at rest there
moving_not_rest : (a : Automaton) (c : Config) → Whole a c → AtRest a c → (silent : List ℕ) (r : ℕ) (rule : Rule) → slice_get a.rules r ≡ Some rule
    → MustMove a silent rule c → MaskedHold rule.rise a.rise c → MaskedHold rule.fall a.fall c → ⊥
moving_not_rest a c w rests silent r rule named must rise fall =
    let step = fire_step a r rule c named w rise fall must.some in
    let same : step.rule ≡ rule = same_Some step.rule rule (sym step.named ∙ named) in
    must.apart (subst (λ (q : Rule). q.from ≡ q.to) same (rests r (fire a rule c) step))

pub rest_is : RestIsQuietRest
rest_is a c w = (
  (λ rests r rule named must. moving_not_rest a c w rests [] r rule named must must.rise must.fall),
  λ quiet r next step. elim (eqb_tells step.rule.from step.rule.to) [
    | inl e ↦ e.1
    | inr ne ↦ absurd (quiet r step.rule step.named (record { apart = ne.1; some = step.move.some; rise = step.move.rise; fall = step.move.fall }))
  ],
)

-- the last configuration of a run is whole
end_whole : (good : Config → Type 0) (a : Automaton) (p : Pattern) (first : Config) (rules : List ℕ) (o : ComesTo good a p first rules) (c : Config)
    → slice_get (first ∷ o.occurs.later) (length rules) ≡ Some c → Whole a c
end_whole good a p first rules o c at =
    let initial = o.occurs.run.initial in
    whole_at a first rules o.occurs.later (record { parameters = initial.admissible.count; shared = initial.shared_count; counters = initial.locations_count })
    o.occurs.run.steps (length rules) c at

-- the same run comes to an end that is good in another way
comes_too : (good other : Config → Type 0) (a : Automaton) (p : Pattern) → ((c : Config) → Whole a c → good c → other c) → (first : Config) (rules : List ℕ)
    → ComesTo good a p first rules → ComesTo other a p first rules
comes_too good other a p so first rules o = record
    { occurs = o.occurs; at_end = o.at_end; rests = λ c at. so c (end_whole good a p first rules o c at) (o.rests c at) }

pub quiet_endings : EndingsQuietRestAlike
quiet_endings a silent = endings_alike (QuietRest a silent) a

pub rest_safe_is : RestSafeIsQuietRestSafe
rest_safe_is a p = (
  (λ safe first rules o. safe first rules (comes_too (QuietRest a []) (AtRest a) a p (λ c w quiet. (rest_is a c w).1 quiet) first rules o)),
  λ safe first rules o. safe first rules (comes_too (AtRest a) (QuietRest a []) a p (λ c w rests. (rest_is a c w).0 rests) first rules o),
)

with_term : (t x rest less others : ℤ) → rest ≡ (less +ℤ (others *ℤ x)) → ((t *ℤ x) +ℤ rest) ≡ (((t *ℤ pos 0) +ℤ less) +ℤ ((t +ℤ others) *ℤ x))
with_term t x rest less others h = let k = simp expand at h in simp expand (omega (arith, ints, k))

without_term : (t x y rest less others : ℤ) → rest ≡ (less +ℤ (others *ℤ y)) → ((t *ℤ x) +ℤ rest) ≡ (((t *ℤ x) +ℤ less) +ℤ ((pos 0 +ℤ others) *ℤ y))
without_term t x y rest less others h = let k = simp expand at h in simp expand (omega (arith, ints, k))

-- terms with a name's value and without it
name_value : (name : ℕ) (point : ℕ → ℤ) (ts : List (ℕ × ℤ))
    → terms_value point ts ≡ (terms_value (λ i. cond (eqb name i) (pos 0) (point i)) ts +ℤ (coefficient ts name *ℤ point name))
name_value name point [] = let q : (pos 0 *ℤ point name) ≡ pos 0 = omega (arith, ints) in omega (arith, ints, q)
name_value name point (t ∷ ts) =
    let less = terms_value (λ i. cond (eqb name i) (pos 0) (point i)) ts in
    let rest = name_value name point ts in
    elim (eqb_tells t.0 name) [
      | inl e ↦ (
          let none : cond (eqb name t.0) (pos 0) (point t.0) ≡ pos 0 = cond-true (eqb name t.0) (pos 0) (point t.0) (eq-eqb name t.0 (sym e.1)) in
          let one : cond (eqb t.0 name) t.1 (pos 0) ≡ t.1 = cond-true (eqb t.0 name) t.1 (pos 0) e.0 in
          let is : point t.0 ≡ point name = ap point e.1 in
          rw (none, one, is) (with_term t.1 (point name) (terms_value point ts) less (coefficient ts name) rest))
      | inr e ↦ (
          let none : cond (eqb name t.0) (pos 0) (point t.0) ≡ point t.0 = cond-false (eqb name t.0) (pos 0) (point t.0)
          (ne_eqb name t.0 (λ same. e.1 (sym same))) in
          let one : cond (eqb t.0 name) t.1 (pos 0) ≡ pos 0 = cond-false (eqb t.0 name) t.1 (pos 0) e.0 in
          rw (none, one) (without_term t.1 (point t.0) (point name) (terms_value point ts) less (coefficient ts name) rest))
    ]

-- values stay at least 0 without silent names
without_natural : (silent : List ℕ) (point : ℕ → ℤ) → ((i : ℕ) → pos 0 ≤ℤ point i) → (i : ℕ) → pos 0 ≤ℤ without silent point i
without_natural silent point natural i = elim (cases_Bool (is_silent silent i)) [
  | inl t ↦ (let is = cond-true (is_silent silent i) (pos 0) (point i) t in omega (arith, ints, is))
  | inr f ↦ (let is = cond-false (is_silent silent i) (pos 0) (point i) f in let q = natural i in omega (arith, ints, is, q))
]

-- one more silent place
one_more : (name : ℕ) (silent : List ℕ) (point : ℕ → ℤ) (i : ℕ) → without (name ∷ silent) point i ≡ cond (eqb name i) (pos 0) (without silent point i)
one_more name silent point i = by_name (eqb name i) where
  by_name : (b : Bool) → cond (b || is_silent silent i) (pos 0) (point i) ≡ cond b (pos 0) (cond (is_silent silent i) (pos 0) (point i))
  by_name true = refl
  by_name false = refl

more_silent : (b among : Bool) → among ≡ true → (b || among) ≡ true
more_silent true among e = refl
more_silent false among e = e

-- terms that don't subtract silent places have no more value without them
without_less : (silent : List ℕ) (point : ℕ → ℤ) (ts : List (ℕ × ℤ)) → ((i : ℕ) → pos 0 ≤ℤ point i)
    → ((name : ℕ) → is_silent silent name ≡ true → pos 0 ≤ℤ coefficient ts name) → terms_value (without silent point) ts ≤ℤ terms_value point ts
without_less [] point ts natural added = omega (arith, ints)
without_less (name ∷ silent) point ts natural added =
    let rest = without_less silent point ts natural (λ other among. added other (more_silent (eqb name other) (is_silent silent other) among)) in
    let here = name_value name (without silent point) ts in
    let same = terms_value-same ts (without (name ∷ silent) point) (λ i. cond (eqb name i) (pos 0) (without silent point i)) (one_more name silent point) in
    let more = mul-ge-zero (coefficient ts name) (without silent point name) (added name (ap (λ b. b || is_silent silent name) (eq-eqb name name refl)))
    (without_natural silent point natural name) in
    omega (arith, ints, rest, here, same, more)

-- a term of a silent place has no value, and each other one its own
pub loud_left : LoudTermsAreLeft
loud_left silent point [] = refl
loud_left silent point (t ∷ ts) = by_silence (is_silent silent t.0) (loud_left silent point ts) where
  by_silence : (b : Bool) → terms_value (without silent point) ts ≡ terms_value point (loud_terms silent ts)
      → ((t.1 *ℤ cond b (pos 0) (point t.0)) +ℤ terms_value (without silent point) ts) ≡ terms_value point
      (cond (not b) (t ∷ loud_terms silent ts) (loud_terms silent ts))
  by_silence true rest = let none : (t.1 *ℤ pos 0) ≡ pos 0 = omega (arith, ints) in omega (arith, ints, rest, none)
  by_silence false rest = omega (arith, ints, rest)

value_natural : (c : Config) (i : ℕ) → pos 0 ≤ℤ value_at c i
value_natural c i = omega (arith, ints)

-- so a row that quietly holds holds
pub quietly_holds : (silent : List ℕ) (rows : List Row) → NoneSubtracted silent rows → (c : Config) (i : ℕ) (row : Row) → slice_get rows i ≡ Some row
    → RowHolds (without silent (value_at c)) row → RowHolds (value_at c) row
quietly_holds silent rows added c i row named holds =
    let less = without_less silent (value_at c) row.form.terms (value_natural c) (added i row named) in
    omega (arith, ints, less, holds)

pub weaker : QuietRestIsWeaker
weaker a silent rise fall c w rests r rule named must =
    moving_not_rest a c w rests silent r rule named must
    (λ i row at bit. quietly_holds silent a.rise rise c i row at (must.rise i row at bit))
    (λ i row at bit. quietly_holds silent a.fall fall c i row at (must.fall i row at bit))

pub stronger : QuietSafeIsStronger
stronger a silent p rise fall safe first rules o = safe first rules (comes_too (AtRest a) (QuietRest a silent) a p (weaker a silent rise fall) first rules o)
