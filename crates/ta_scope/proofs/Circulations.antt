-- taking circulations out leaves natural counts with the same end
--
-- A circulation is a cycle of rules with a count above 0; the least of its counts is subtracted from each. In scope its rules have
-- no updates, and each location on it is entered as often as it is left, so no place has another value at the end. The counts that
-- are left are natural, since nothing greater than the least was taken, and their sum is less: so taking out ends.
use Rattle.ta_scope.proofs.Common.{◌≡◌, inl, inr, ℕ, ◌<◌, ◌≤◌, ℤ, pos, ◌+ℤ◌, ◌*ℤ◌, ◌≤ℤ◌, List, [], ◌∷◌, length, arith, sym, ap, ◌∙◌, refl, subst, IsBitSet}
use Rattle.ta_scope.proofs.Common.{ints, slice_get_within, *ℤ-zero, AllByRecursion, each_in, each_weaker, by_one, distributes, mul_left_comm, Automaton}
use Rattle.ta_scope.proofs.Common.{Distinct, in_or, range_with_len, Walk, InScope, total, times_in, total-same, total-add, total-times, change_of, circuit_pure}
use Rattle.ta_scope.proofs.Common.{NoCycle, IsLeastCycle, count_at, AreRuleCounts, Support, LeastCount, SubtractsFrom, TakenOut, AllTakenOut}
use Rattle.ta_base.proofs.Times.{EachOnce, times-distinct, times-none, times-numbers, total-by_times}
use Rattle.ta_automaton.proofs.Circuits.{circuit_total}
use Rattle.ta_scope.proofs.Taken.{sum_of, sum_less, counted}
use Rattle.ta_scope.proofs.FirstPaths.{cycle_distinct, cycle_walk}

walk_once : (a : Automaton) (x : ℕ) (rs : List ℕ) (y : ℕ) → Walk a x rs y → EachOnce rs (range_with_len 0 (length a.rules))
walk_once a x [] y w = tt
walk_once a x (r ∷ rs) y w = (
  times-numbers r 0 (length a.rules) (omega arith) (let b = slice_get_within a.rules r w.0 w.1 in omega arith),
  walk_once a (w.0).to
      rs y w.3,
)

-- what counts add at a place
abbrev pub weighted : Automaton → List ℤ → ℕ → ℤ
weighted a counts i = total (λ r. change_of a i r *ℤ count_at counts r) (range_with_len 0 (length a.rules))

-- the counts before are those after and the amount for each rule of the cycle
split_count : (a : Automaton) (before after : List ℤ) (t : TakenOut a before after) (r : ℕ)
    → count_at before r ≡ (count_at after r +ℤ (t.amount *ℤ pos (times_in r (t.number ∷ t.back))))
split_count a before after t r = elim (in_or r (t.number ∷ t.back)) [
  | inl is ↦ rw (times-distinct r (t.number ∷ t.back) (cycle_distinct a t.rules t.number t.back t.cycle) is)
      (omega (arith, ints, t.subtracted.these r is, by_one t.amount))
  | inr none ↦ rw (times-none r (t.number ∷ t.back) none) (omega (arith, ints, t.subtracted.others r none, *ℤ-zero t.amount))
]

-- a circulation changes nothing
pub taken_total : (a : Automaton) → InScope a → (before after : List ℤ) → TakenOut a before after → (i : ℕ) → weighted a before i ≡ weighted a after i
taken_total a scope before after t i =
    let n = range_with_len 0 (length a.rules) in
    let circuit = t.number ∷ t.back in
    let walk = cycle_walk a t.rules t.number t.back t.cycle in
    let none : total (change_of a i) circuit ≡ pos 0 = circuit_total a t.cycle.rule.from circuit walk (circuit_pure a scope t.cycle.rule.from circuit walk) i in
    let times : total (λ r. change_of a i r *ℤ pos (times_in r circuit)) n ≡ pos 0 = total-by_times (change_of a i) n circuit
    (walk_once a t.cycle.rule.from circuit t.cycle.rule.from walk) ∙ none in
    let scaled : total (λ r. change_of a i r *ℤ (t.amount *ℤ pos (times_in r circuit))) n ≡ pos 0 =
    total-same (λ r. change_of a i r *ℤ (t.amount *ℤ pos (times_in r circuit))) (λ r. t.amount *ℤ (change_of a i r *ℤ pos (times_in r circuit))) n
    (λ r. mul_left_comm (change_of a i r) t.amount (pos (times_in r circuit)))
    ∙ total-times t.amount (λ r. change_of a i r *ℤ pos (times_in r circuit)) n ∙ ap (λ z. t.amount *ℤ z) times ∙ *ℤ-zero t.amount in
    let parts : weighted a before i ≡ total (λ r. (change_of a i r *ℤ count_at after r) +ℤ (change_of a i r *ℤ (t.amount *ℤ pos (times_in r circuit)))) n =
    total-same (λ r. change_of a i r *ℤ count_at before r)
    (λ r. (change_of a i r *ℤ count_at after r) +ℤ (change_of a i r *ℤ (t.amount *ℤ pos (times_in r circuit)))) n
    (λ r. ap (λ z. change_of a i r *ℤ z) (split_count a before after t r)
    ∙ distributes (change_of a i r) (count_at after r) (t.amount *ℤ pos (times_in r circuit))) in
    let sum = total-add (λ r. change_of a i r *ℤ count_at after r) (λ r. change_of a i r *ℤ (t.amount *ℤ pos (times_in r circuit))) n in
    omega (arith, ints, parts, sum, scaled)

-- the amount is above 0
pub amount_above : (a : Automaton) (before after : List ℤ) (t : TakenOut a before after) → pos 1 ≤ℤ t.amount
amount_above a before after t =
    let member = each_in (IsBitSet t.rules) (t.number ∷ t.back) t.least.rule (t.cycle.member, t.cycle.path.members) t.least.member in
    let above = (t.support t.least.rule).0 member in
    omega (arith, ints, t.least.is)

taken_natural : (a : Automaton) (before after : List ℤ) → TakenOut a before after → ((r : ℕ) → pos 0 ≤ℤ count_at before r) → (r : ℕ)
    → (pos 0 ≤ℤ count_at after r) × (count_at after r ≤ℤ count_at before r)
taken_natural a before after t natural r = elim (in_or r (t.number ∷ t.back)) [
  | inl is ↦ (
      let these = t.subtracted.these r is in
      let least = t.least.least r is in
      let above = amount_above a before after t in
      (omega (arith, ints), omega (arith, ints)))
  | inr none ↦ (
      let others = t.subtracted.others r none in
      let was = natural r in
      (omega (arith, ints), omega (arith, ints)))
]

-- what is left of counts
pub record Rest (a : Automaton) (counts rest : List ℤ) : Type 0 where
  pub each_rule : length rest ≡ length a.rules
  pub natural : (r : ℕ) → pos 0 ≤ℤ count_at rest r
  pub less : (r : ℕ) → count_at rest r ≤ℤ count_at counts r
  pub sums : (i : ℕ) → weighted a rest i ≡ weighted a counts i

pub rest_same : (a : Automaton) (counts : List ℤ) → AreRuleCounts a counts → Rest a counts counts
rest_same a counts c = record { each_rule = c.each_rule; natural = c.natural; less = λ r. omega (arith, ints); sums = λ i. refl }

pub rest_taken : (a : Automaton) → InScope a → (counts before after : List ℤ) → Rest a counts before → TakenOut a before after → Rest a counts after
rest_taken a scope counts before after h t = record {
  each_rule = t.subtracted.each_rule ∙ h.each_rule;
  natural = λ r. (taken_natural a before after t h.natural r).0;
  less = λ r. let less = (taken_natural a before after t h.natural r).1 in omega (arith, ints, h.less r);
  sums = λ i. sym (taken_total a scope before after t i) ∙ h.sums i;
}

pub rest_all : (a : Automaton) → InScope a → (counts before : List ℤ) (later : List (List ℤ)) (rest : List ℤ) → Rest a counts before
    → AllTakenOut a before later rest → Rest a counts rest
rest_all a scope counts before [] rest h t = subst (Rest a counts) t h
rest_all a scope counts before (next ∷ later) rest h t = rest_all a scope counts next later rest (rest_taken a scope counts before next h t.0) t.1

-- natural numbers are left
pub taken_counts : (a : Automaton) (before after : List ℤ) → AreRuleCounts a before → TakenOut a before after → AreRuleCounts a after
taken_counts a before after c t = record { each_rule = t.subtracted.each_rule ∙ c.each_rule; natural = λ r. (taken_natural a before after t c.natural r).0 }

-- their sum is less
pub taken_less : (a : Automaton) (before after : List ℤ) → AreRuleCounts a before → TakenOut a before after → sum_of after < sum_of before
taken_less a before after c t =
    let q = t.least.rule in
    let member = each_in (IsBitSet t.rules) (t.number ∷ t.back) q (t.cycle.member, t.cycle.path.members) t.least.member in
    let above = (t.support q).0 member in
    let these = t.subtracted.these q t.least.member in
    let amount = amount_above a before after t in
    sum_less after before t.subtracted.each_rule (taken_natural a before after t c.natural) q (counted before q above) (omega (arith, ints))

walk_within : (a : Automaton) (x : ℕ) (rs : List ℕ) (y : ℕ) (n : ℕ) → length a.rules ≤ n → Walk a x rs y → AllByRecursion (λ r. r < n) rs
walk_within a x [] y n enough w = tt
walk_within a x (r ∷ rs) y n enough w = ((let b = slice_get_within a.rules r w.0 w.1 in omega arith), walk_within a (w.0).to rs y n enough w.3)

pub least_within : (a : Automaton) (rules : ℕ) (cycle : List ℕ) (n : ℕ) → length a.rules ≤ n → IsLeastCycle a rules cycle → AllByRecursion (λ r. r < n) cycle
least_within a rules cycle n enough c = subst (AllByRecursion (λ r. r < n)) (sym c.is)
    (walk_within a c.least.rule.from (c.number ∷ c.back) c.least.rule.from n enough (cycle_walk a rules c.number c.back c.least))

pub least_distinct : (a : Automaton) (rules : ℕ) (cycle : List ℕ) → IsLeastCycle a rules cycle → Distinct cycle
least_distinct a rules cycle c = subst Distinct (sym c.is) (cycle_distinct a rules c.number c.back c.least)

pub least_taken : (a : Automaton) (before after : List ℤ) (rules : ℕ) (cycle : List ℕ) → Support before rules → (c : IsLeastCycle a rules cycle) → (amount : ℤ)
    × LeastCount before cycle amount × SubtractsFrom cycle amount before after → TakenOut a before after
least_taken a before after rules cycle support c w = record {
  rules = rules;
  support = support;
  number = c.number;
  back = c.back;
  cycle = c.least;
  amount = w.0;
  least = subst (λ (xs : List ℕ). LeastCount before xs w.0) c.is w.1;
  subtracted = subst (λ (xs : List ℕ). SubtractsFrom xs w.0 before after) c.is w.2;
}

-- two masks of one support have the same cycles
pub no_cycle_same : (a : Automaton) (counts : List ℤ) (m n : ℕ) → Support counts m → Support counts n → NoCycle a m → NoCycle a n
no_cycle_same a counts m n s t none r rule named member cycle =
    let over : (q : ℕ) → IsBitSet n q → IsBitSet m q = (λ q b. (s q).1 ((t q).0 b)) in
    none r rule named (over r member) (cycle.0, cycle.1, each_weaker (IsBitSet n) (IsBitSet m) cycle.0 over cycle.2)
