-- counts from which an amount is subtracted
use Rattle.ta_scope.proofs.Common.{◌≡◌, ◌≢◌, ◌⊎◌, inl, inr, ℕ, ◌+◌, ◌<◌, ◌≤◌, ℤ, pos, ◌+ℤ◌, ◌-ℤ◌, ◌≤ℤ◌, List, [], ◌∷◌, ◌++◌, length, take, get_or, set, arith}
use Rattle.ta_scope.proofs.Common.{sym, ap, ◌∙◌, refl, subst, IsBitSet, ◌↔◌, length-set, unsigned_abs, int_min, ints, cases_lt, eqb_tells, get_or_past}
use Rattle.ta_scope.proofs.Common.{take_more, take_all, get_or-set_same, get_or-set_other, set_at, not_before, abs_less, abs_less_than, min_cases, In-left}
use Rattle.ta_scope.proofs.Common.{In-right, in_append, in_get_or, Automaton, Distinct, In, count_at, Support, LeastCount, SubtractsFrom, TakenOut, AllTakenOut}
use Rattle.ta_scope.proofs.Common.{range_with_len}
use Rattle.ta_base.proofs.Sums.{sum_by-less}
use Rattle.std.proofs.Common.{sum_by}
use Rattle.ta_base.proofs.Ranges.{number_here}
use Rattle.std.proofs.lemmas.Nat.Bits.{bit_at-zero}

-- the support of the first counts
abbrev pub SupportBefore : List ℤ → ℕ → ℕ → Type 0
SupportBefore counts n rules = (r : ℕ) → IsBitSet rules r ↔ ((r < n) × (pos 1 ≤ℤ count_at counts r))

pub support_none : (counts : List ℤ) → SupportBefore counts 0 0
support_none counts r = (λ b. absurd (let one = sym (bit_at-zero r) ∙ set_at 0 r b in cc), λ w. absurd (let b = w.0 in omega arith))

pub support_more : (counts : List ℤ) (n rules more : ℕ) (count : ℤ) → count ≡ count_at counts n → SupportBefore counts n rules
    → ((r : ℕ) → IsBitSet more r ↔ (IsBitSet rules r ⊎ ((r ≡ n) × (pos 1 ≤ℤ count)))) → SupportBefore counts (n + 1) more
support_more counts n rules more count same before is r = (
  λ b. elim ((is r).0 b) [
    | inl m ↦ (let w = (before r).0 m in ((let l = w.0 in omega arith), w.1))
    | inr w ↦ ((let e = w.0 in omega arith), (let e = w.0 in let above = w.1 in let here = ap (count_at counts) e in omega (arith, ints)))
  ],
  λ w. elim (eqb_tells r n) [
    | inl e ↦ (is r).1 (inr (e.1, (let above = w.1 in let here = ap (count_at counts) e.1 in omega (arith, ints))))
    | inr ne ↦ (is r).1 (inl ((before r).1 ((let d = ne.1 in let l = w.0 in omega arith), w.1)))
  ],
)

-- a rule with a count above 0 is counted
pub counted : (counts : List ℤ) (r : ℕ) → pos 1 ≤ℤ count_at counts r → r < length counts
counted counts r above = elim (cases_lt r (length counts)) [
  | inl l ↦ l
  | inr past ↦ absurd (let none = get_or_past counts r (pos 0) past in omega (arith, ints))
]

pub support_all : (counts : List ℤ) (n rules : ℕ) → length counts ≤ n → SupportBefore counts n rules → Support counts rules
support_all counts n rules enough before r = (λ b. ((before r).0 b).1, λ above. (before r).1 ((let b = counted counts r above in omega arith), above))

-- the least of the counts of the first rules, and of one of all
pub record LeastSoFar (counts : List ℤ) (rules : List ℕ) (n : ℕ) (amount : ℤ) : Type 0 where
  pub rule : ℕ
  pub member : In rule rules
  pub is : count_at counts rule ≡ amount
  pub least : (r : ℕ) → In r (take n rules) → amount ≤ℤ count_at counts r

pub least_first : (counts : List ℤ) (rules : List ℕ) (x : ℕ) (amount : ℤ) → 1 ≤ length rules → x ≡ get_or rules 0 0 → amount ≡ count_at counts x
    → LeastSoFar counts rules 0 amount
least_first counts rules x amount some at is = record
    { rule = x; member = subst (λ r. In r rules) (sym at) (in_get_or rules 0 0 (omega arith)); is = sym is; least = λ r i. absurd i }

-- one more rule
pub least_more : (counts : List ℤ) (rules : List ℕ) (n x : ℕ) (amount count : ℤ) → LeastSoFar counts rules n amount → n < length rules → x ≡ get_or rules n 0
    → count ≡ count_at counts x → LeastSoFar counts rules (n + 1) (int_min amount count)
least_more counts rules n x amount count s within at is = pick (min_cases amount count) where
  below : (m : ℤ) → m ≤ℤ amount → m ≤ℤ count → (r : ℕ) → In r (take (n + 1) rules) → m ≤ℤ count_at counts r
  below m low here r i = elim (in_append r (take n rules) (x ∷ [])
      (subst (In r) (take_more rules n 0 within ∙ ap (λ (y : ℕ). take n rules ++ y ∷ []) (sym at)) i)) [
        | inl j ↦ omega (arith, ints, s.least r j)
        | inr (inl e) ↦ (let same = ap (count_at counts) e in omega (arith, ints))
        | inr (inr none) ↦ absurd none
      ]

  pick : ((int_min amount count ≡ amount) × (amount ≤ℤ count)) ⊎ ((int_min amount count ≡ count) × (count ≤ℤ amount))
      → LeastSoFar counts rules (n + 1) (int_min amount count)
  pick (inl w) = record {
    rule = s.rule;
    member = s.member;
    is = s.is
        ∙ sym w.0;
    least = below (int_min amount count) (let e = w.0 in omega (arith, ints)) (let e = w.0 in let l = w.1 in omega (arith, ints));
  }
  pick (inr w) = record {
    rule = x;
    member = subst (λ r. In r rules) (sym at) (in_get_or rules n 0 within);
    is = sym is
        ∙ sym w.0;
    least = below (int_min amount count) (let e = w.0 in let l = w.1 in omega (arith, ints)) (let e = w.0 in omega (arith, ints));
  }

pub least_all : (counts : List ℤ) (rules : List ℕ) (n : ℕ) (amount : ℤ) → length rules ≤ n → LeastSoFar counts rules n amount → LeastCount counts rules amount
least_all counts rules n amount enough s = record
    { rule = s.rule; member = s.member; is = s.is; least = λ r i. s.least r (subst (In r) (sym (take_all n rules enough)) i) }

-- an amount subtracted from one more count
pub subtracted_none : (rules : List ℕ) (amount : ℤ) (counts : List ℤ) → SubtractsFrom (take 0 rules) amount counts counts
subtracted_none rules amount counts = record { each_rule = refl; these = λ r i. absurd i; others = λ r out. refl }

pub subtracted_more : (rules : List ℕ) (amount : ℤ) (before now : List ℤ) (n x : ℕ) (count : ℤ) → Distinct rules → n < length rules → x ≡ get_or rules n 0
    → x < length before → SubtractsFrom (take n rules) amount before now → count ≡ (count_at now x -ℤ amount)
    → SubtractsFrom (take (n + 1) rules) amount before (set now x count)
subtracted_more rules amount before now n x count distinct within at exists s is = record {
  each_rule = length-set now x count ∙ s.each_rule;
  these = λ r i. elim (eqb_tells r x) [
    | inl e ↦ (
        let here = get_or-set_same now x count (pos 0) (let l = s.each_rule in omega arith) in
        let place = ap (count_at (set now x count)) e.1 in
        let was = s.others x fresh in
        let same = ap (count_at before) e.1 in
        omega (arith, ints))
    | inr ne ↦ elim (in_append r (take n rules) (x ∷ []) (subst (In r) more i)) [
      | inl j ↦ (let here = get_or-set_other now x r count (pos 0) ne.1 in let was = s.these r j in omega (arith, ints))
      | inr (inl e) ↦ absurd (ne.1 e)
      | inr (inr none) ↦ absurd none
    ]
  ];
  others = λ r out. (
      let ne : r ≢ x = λ e. out (subst (In r) (sym more) (In-right r (take n rules) (x ∷ []) (inl e))) in
      get_or-set_other now x r count (pos 0) ne ∙ s.others r (λ i. out (subst (In r) (sym more) (In-left r (take n rules) (x ∷ []) i))));
} where
  more : take (n + 1) rules ≡ take n rules ++ x ∷ []
  more = take_more rules n 0 within ∙ ap (λ (y : ℕ). take n rules ++ y ∷ []) (sym at)

  fresh : In x (take n rules) → ⊥
  fresh i = not_before rules n 0 distinct within (subst (λ y. In y (take n rules)) at i)

-- what is still there before it is subtracted
pub not_subtracted : (rules : List ℕ) (amount : ℤ) (before now : List ℤ) (n x : ℕ) → Distinct rules → n < length rules → x ≡ get_or rules n 0
    → SubtractsFrom (take n rules) amount before now → ((r : ℕ) → In r rules → amount ≤ℤ count_at before r) → (count_at now x ≡ count_at before x)
    × (amount ≤ℤ count_at before x)
not_subtracted rules amount before now n x distinct within at s least = (
  s.others x (λ i. not_before rules n 0 distinct within (subst (λ y. In y (take n rules)) at i)),
  least x (subst (λ r. In r rules) (sym at) (in_get_or rules n 0 within)),
)

pub subtracted_all : (rules : List ℕ) (amount : ℤ) (before now : List ℤ) (n : ℕ) → length rules ≤ n → SubtractsFrom (take n rules) amount before now
    → SubtractsFrom rules amount before now
subtracted_all rules amount before now n enough s = subst (λ (xs : List ℕ). SubtractsFrom xs amount before now) (take_all n rules enough) s

-- a chain with one more circulation
pub taken_more : (a : Automaton) (counts : List ℤ) (later : List (List ℤ)) (before after : List ℤ) → AllTakenOut a counts later before → TakenOut a before after
    → AllTakenOut a counts (later ++ after ∷ []) after
taken_more a counts [] before after all t = (subst (λ (xs : List ℤ). TakenOut a xs after) (sym all) t, refl)
taken_more a counts (next ∷ later) before after all t = (all.0, taken_more a next later before after all.1 t)

-- the sum of counts
abbrev pub sum_of : List ℤ → ℕ
sum_of counts = sum_by (λ r. unsigned_abs (count_at counts r)) (range_with_len 0 (length counts))

pub sum_less : (xs ys : List ℤ) → length xs ≡ length ys → ((r : ℕ) → (pos 0 ≤ℤ count_at xs r) × (count_at xs r ≤ℤ count_at ys r)) → (q : ℕ) → q < length ys
    → (count_at xs q +ℤ pos 1) ≤ℤ count_at ys q → sum_of xs < sum_of ys
sum_less xs ys e h q b less =
    let f : ℕ → ℕ = λ r. unsigned_abs (count_at ys r) in
    let g : ℕ → ℕ = λ r. unsigned_abs (count_at xs r) in
    let numbers = range_with_len 0 (length ys) in
    subst (λ n. sum_by g (range_with_len 0 n) < sum_by f numbers) (sym e)
    (sum_by-less f g numbers (λ i r at. abs_less (count_at xs r) (count_at ys r) (h r).0 (h r).1) q q (number_here q (length ys) b)
    (abs_less_than (count_at xs q) (count_at ys q) (h q).0 less))
