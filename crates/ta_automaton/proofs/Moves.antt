-- what a unit step does at each place
use Rattle.ta_automaton.proofs.Common.{◌≡◌, ◌⊎◌, inl, inr, ℕ, ◌+◌, ◌-◌, ◌<◌, pos, ◌+ℤ◌, List, length, ltb, true, false, arith, sym, ap, ◌∙◌, refl, slice_get}
use Rattle.ta_automaton.proofs.Common.{get_or, Option, ints, nat_tests, cases_lt, left_place, middle_place, right_place, coefficient, Rule, Automaton, Config}
use Rattle.ta_automaton.proofs.Common.{value_at, Step, one_if, shared_change, rule_change, location_place}
use Rattle.ta_base.proofs.Totals.{one_if-ne, one_if-number, one_if-shift, one_if-turned}
use Rattle.ta_automaton.proofs.Thresholds.{Later, updates_natural}

-- a configuration has one value for each parameter, shared variable and location
pub record Fits (a : Automaton) (c : Config) : Type 0 where
  pub parameters : length c.parameters ≡ length a.parameters
  pub shared : length c.shared ≡ length a.shared

pub value_at-parameter : (a : Automaton) (c : Config) (i : ℕ) → Fits a c → i < length a.parameters → value_at c i ≡ pos (get_or c.parameters i 0)
value_at-parameter a c i f h = ap pos (left_place c.parameters c.shared c.counters i (omega (arith, f.parameters)))

pub value_at-shared : (a : Automaton) (c : Config) (x : ℕ) → Fits a c → x < length a.shared → value_at c (length a.parameters + x) ≡ pos (get_or c.shared x 0)
value_at-shared a c x f h = rw (← f.parameters) (ap pos (middle_place c.parameters c.shared c.counters x (omega (arith, f.shared))))

pub value_at-location : (a : Automaton) (c : Config) (l : ℕ) → Fits a c → value_at c (location_place a l) ≡ pos (get_or c.counters l 0)
value_at-location a c l f = rw (← f.parameters, ← f.shared) (ap pos (right_place c.parameters c.shared c.counters l))

-- a place is a parameter's, a shared variable's or a location's
pub place_cases : (a : Automaton) (i : ℕ) → (i < length a.parameters)
    ⊎ (((x : ℕ) × (x < length a.shared) × (i ≡ length a.parameters + x)) ⊎ ((l : ℕ) × (i ≡ location_place a l)))
place_cases a i = elim (cases_lt i (length a.parameters)) [
  | inl h ↦ inl h
  | inr h ↦ elim (cases_lt i (length a.parameters + length a.shared)) [
    | inl g ↦ inr (inl (i - length a.parameters, omega arith, omega arith))
    | inr g ↦ inr (inr (i - (length a.parameters + length a.shared), omega arith))
  ]
]

pub shared_change-parameter : (a : Automaton) (rule : Rule) (i : ℕ) → i < length a.parameters → shared_change a rule i ≡ pos 0
unfolding shared_change
shared_change-parameter a rule i h = let e : ltb i (length a.parameters) ≡ true = grind (arith, nat_tests) in rw e refl

pub shared_change-shared : (a : Automaton) (rule : Rule) (x : ℕ) → x < length a.shared
    → shared_change a rule (length a.parameters + x) ≡ coefficient rule.updates x
unfolding shared_change
shared_change-shared a rule x h =
    let e : ltb (length a.parameters + x) (length a.parameters) ≡ false = grind (arith, nat_tests) in
    let f : ltb (length a.parameters + x) (length a.parameters + length a.shared) ≡ true = grind (arith, nat_tests) in
    let g : (length a.parameters + x) - length a.parameters ≡ x = omega arith in
    rw (e, f) (ap (coefficient rule.updates) g)

pub shared_change-location : (a : Automaton) (rule : Rule) (l : ℕ) → shared_change a rule (location_place a l) ≡ pos 0
unfolding shared_change
shared_change-location a rule l =
    let e : ltb (length a.parameters + length a.shared + l) (length a.parameters) ≡ false = grind (arith, nat_tests) in
    let f : ltb (length a.parameters + length a.shared + l) (length a.parameters + length a.shared) ≡ false = grind (arith, nat_tests) in
    rw (e, f) refl

-- what a step adds at each place
pub move_at : (a : Automaton) (r : ℕ) (before after : Config) → Fits a before → Fits a after → Step a r before after → (i : ℕ)
    → value_at after i ≡ (value_at before i +ℤ rule_change a (slice_get a.rules r) i)
move_at a r before after f g step i =
    rw step.named
    (elim (place_cases a i) [
      | inl h ↦ (let to = one_if-ne (location_place a step.rule.to) i (omega arith) in
          let from = one_if-ne (location_place a step.rule.from) i (omega arith) in
          let p = ap (λ (ps : List ℕ). pos (get_or ps i 0)) step.move.parameters in
          omega (arith, ints, to, from, p, shared_change-parameter a step.rule i h, value_at-parameter a before i f h, value_at-parameter a after i g h))
      | inr (inl w) ↦ rw w.2 (
          let to = one_if-ne (location_place a step.rule.to) (length a.parameters + w.0) (let b = w.1 in omega arith) in
          let from = one_if-ne (location_place a step.rule.from) (length a.parameters + w.0) (let b = w.1 in omega arith) in
          omega (
            arith,
            ints,
            to,
            from,
            step.move.added w.0,
            shared_change-shared a step.rule w.0 w.1,
            value_at-shared a before w.0 f w.1,
            value_at-shared a
                after w.0 g w.1,
          ))
      | inr (inr w) ↦ rw w.1 (
          let n = length a.parameters + length a.shared in
          let to = one_if-shift n step.rule.to w.0 in
          let from = one_if-shift n step.rule.from w.0 in
          omega (
            arith,
            ints,
            to,
            from,
            step.move.moved w.0,
            shared_change-location a step.rule w.0,
            one_if-number w.0 step.rule.to,
            one_if-turned w.0
                step.rule.to,
            one_if-number w.0 step.rule.from,
            one_if-turned w.0 step.rule.from,
            value_at-location a before w.0 f,
            value_at-location a after w.0
                g,
          ))
    ])

pub fits_after : (a : Automaton) (r : ℕ) (before after : Config) → Fits a before → Step a r before after → Fits a after
fits_after a r before after f step = record {
  parameters = ap length step.move.parameters ∙ f.parameters;
  shared = step.move.shared_count ∙ f.shared;
}

-- a self-loop without updates changes nothing
pub loop_at : (a : Automaton) (r : ℕ) (before after : Config) → Fits a before → Fits a after → (step : Step a r before after) → step.rule.from ≡ step.rule.to
    → ((x : ℕ) → coefficient step.rule.updates x ≡ pos 0) → (i : ℕ) → value_at after i ≡ value_at before i
loop_at a r before after f g step same none i =
    let m = move_at a r before after f g step i in
    let named = ap (λ (o : Option Rule). rule_change a o i) step.named in
    let places = ap (λ l. one_if (location_place a l) i) same in
    let shared : shared_change a step.rule i ≡ pos 0 = elim (place_cases a i) [
      | inl h ↦ shared_change-parameter a step.rule i h
      | inr (inl w) ↦ rw w.2 (shared_change-shared a step.rule w.0 w.1 ∙ none w.0)
      | inr (inr w) ↦ rw w.1 (shared_change-location a step.rule w.0)
    ] in
    omega (arith, ints, m, named, places, shared)

-- after a step the parameters are the same and no shared variable is less
pub step_later : (a : Automaton) (r : ℕ) (before after : Config) → Fits a before → Fits a after → Step a r before after
    → Later a (value_at before) (value_at after)
step_later a r before after f g step = record {
  parameters = λ i b. value_at-parameter a after i g b ∙ ap (λ (ps : List ℕ). pos (get_or ps i 0)) step.move.parameters
      ∙ sym (value_at-parameter a before i f b);
  shared = λ i low high.
      let x = i - length a.parameters in
      let e : i ≡ length a.parameters + x = omega arith in
      let b : x < length a.shared = omega arith in
      let here = ap (value_at before) e ∙ value_at-shared a before x f b in
      let there = ap (value_at after) e ∙ value_at-shared a after x g b in
      omega (arith, ints, here, there, step.move.added x, updates_natural a r step.rule step.named x);
}
