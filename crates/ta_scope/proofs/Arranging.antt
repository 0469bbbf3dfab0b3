-- arranged steps are of existing rules, each at most once, and no rule fires more often than its count
use Rattle.ta_scope.proofs.Common.{◌≡◌, inl, inr, ℕ, ◌<◌, ◌≤◌, ℤ, pos, ◌≤ℤ◌, List, [], ◌∷◌, map, length, arith, sym, ap, ◌∙◌, subst, slice_get, Some, filter}
use Rattle.ta_scope.proofs.Common.{eqb_tells, map-append, slice_get_within, same_Some, AllByRecursion, each_append, each_listed, Rule, Automaton, In, in_or}
use Rattle.ta_scope.proofs.Common.{range_with_len, times_in, from_within, count_at, is_step_from, steps_along, ArrangedStepsAreWithin, StepsWithin, steps_from}
use Rattle.ta_base.proofs.Lists.{firsts}
use Rattle.ta_base.proofs.Members.{in_filter}
use Rattle.ta_base.proofs.Times.{times-append, times-filter, times-none, times-numbers}
use Rattle.ta_scope.proofs.Circulations.{Rest, rest_same, rest_all}
use Rattle.ta_scope.proofs.Listing.{StepFrom, step_from}

-- the rule of a step
abbrev rule_of : (ℕ × ℤ) → ℕ
rule_of step = step.0

-- what holds of each rule that leaves a location with a count above 0 holds of each step along an order
each_along : (P : (ℕ × ℤ) → Type 0) (a : Automaton) (counts : List ℤ) (ls : List ℕ) → ((l r : ℕ) → StepFrom a counts l r → P (r, count_at counts r))
    → AllByRecursion P (steps_along a counts ls)
each_along P a counts [] h = tt
each_along P a counts (l ∷ ls) h =
    each_append P (steps_from a counts l (length a.rules)) (steps_along a counts ls)
    (each_listed P (is_step_from a counts l) (count_at counts) (range_with_len 0 (length a.rules)) (λ n e. h l n (step_from a counts l n e)))
    (each_along P a counts ls h)

-- a rule is among the steps from its source alone
from_source : (a : Automaton) (counts : List ℤ) (r : ℕ) (rule : Rule) → slice_get a.rules r ≡ Some rule → (l : ℕ)
    → times_in r (map rule_of (steps_from a counts l (length a.rules))) ≤ times_in rule.from (l ∷ [])
unfolding times_in
from_source a counts r rule named l =
    let t = is_step_from a counts l in
    let ns = range_with_len 0 (length a.rules) in
    let listed = firsts (count_at counts) (filter t ns) in
    let same = ap (times_in r) listed in
    let once = times-numbers r 0 (length a.rules) (omega arith) (let b = slice_get_within a.rules r rule named in omega arith) in
    elim (in_or r (map rule_of (steps_from a counts l (length a.rules)))) [
      | inr none ↦ omega (arith, times-none r (map rule_of (steps_from a counts l (length a.rules))) none)
      | inl i ↦ (
          let s = step_from a counts l r (in_filter t r ns (subst (In r) listed i)).0 in
          let from : rule.from ≡ l = ap (λ (x : Rule). x.from) (same_Some rule s.rule (sym named ∙ s.named)) ∙ s.from in
          elim (eqb_tells l rule.from) [ inl e ↦ rw e.0 (omega (arith, same, times-filter t r ns, once)) | inr ne ↦ absurd (ne.1 (sym from)) ])
    ]

along_once : (a : Automaton) (counts : List ℤ) (r : ℕ) (rule : Rule) → slice_get a.rules r ≡ Some rule → (ls : List ℕ)
    → times_in r (map rule_of (steps_along a counts ls)) ≤ times_in rule.from ls
unfolding times_in
along_once a counts r rule named [] = omega arith
along_once a counts r rule named (l ∷ ls) =
    let here = from_source a counts r rule named l in
    let both = ap (times_in r) (map-append rule_of (steps_from a counts l (length a.rules)) (steps_along a counts ls))
    ∙ times-append r (map rule_of (steps_from a counts l (length a.rules))) (map rule_of (steps_along a counts ls)) in
    omega (arith, here, both, along_once a counts r rule named ls)

-- a rule among the steps
in_steps : (a : Automaton) (counts : List ℤ) (r : ℕ) (steps : List (ℕ × ℤ))
    → AllByRecursion (λ (step : ℕ × ℤ). (rule : Rule) × (slice_get a.rules step.0 ≡ Some rule)) steps → In r (map rule_of steps) → (rule : Rule)
    × (slice_get a.rules r ≡ Some rule)
in_steps a counts r [] h i = absurd i
in_steps a counts r (step ∷ steps) h (inl e) = (h.0.0, ap (slice_get a.rules) e ∙ h.0.1)
in_steps a counts r (step ∷ steps) h (inr i) = in_steps a counts r steps h.1 i

pub arranged_within : ArrangedStepsAreWithin
arranged_within a scope counts natural steps s =
    let rest : Rest a counts s.rest = rest_all a scope counts counts s.later s.rest (rest_same a counts natural) s.taken_out in
    let rules = each_along (λ (step : ℕ × ℤ). (rule : Rule) × (slice_get a.rules step.0 ≡ Some rule)) a s.rest s.order (λ l r f. (f.rule, f.named)) in
    let along : StepsWithin a counts (steps_along a s.rest s.order) = record {
      exist = each_along (λ (step : ℕ × ℤ). step.0 < length a.rules) a s.rest s.order (λ l r f. slice_get_within a.rules r f.rule f.named);
      once = λ r. elim (in_or r (map rule_of (steps_along a s.rest s.order))) [
        | inr none ↦ omega (arith, times-none r (map rule_of (steps_along a s.rest s.order)) none)
        | inl i ↦ (
            let w = in_steps a s.rest r (steps_along a s.rest s.order) rules i in
            omega (arith, along_once a s.rest r w.0 w.1 s.order, s.ordered.each_once (w.0).from (from_within a r w.0 w.1)))
      ];
      factors = each_along (λ (step : ℕ × ℤ). (pos 1 ≤ℤ step.1) × (step.1 ≤ℤ count_at counts step.0)) a s.rest s.order (λ l r f. (f.above, rest.less r));
    } in
    subst (StepsWithin a counts) (sym s.listed) along
