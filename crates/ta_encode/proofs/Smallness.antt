-- the forms of a file have few terms and small numbers
use Rattle.ta_encode.proofs.Common.{ℕ, ℤ, ◌+◌, ◌≤◌, List, [], ◌∷◌, length, arith, AllByRecursion, IsNormal, Form, Row, Automaton, Comparison, SmallForm}
use Rattle.ta_encode.proofs.Common.{SmallRows, SmallCondition}
use Rattle.ta_automaton.specs.declared.condition.Condition.{Condition}
use Rattle.ta_automaton.specs.Forms.{FormOver, RowOver, ConditionOver, RiseRow, FallRow}

normal_length : (low high : ℕ) (ts : List (ℕ × ℤ)) → IsNormal low high ts → low + length ts ≤ high
normal_length low high [] h = omega (arith, h)
normal_length low high (t ∷ ts) h = omega (arith, h.0, normal_length (t.0 + 1) high ts h.2)

pub small_form : (places : ℕ) (f : Form) → places ≤ 224 → FormOver places f → SmallForm f
small_form places f few h = record {
  terms = record { few = omega (arith, normal_length 0 places f.terms h.below); small = h.small.coefficients };
  constant = h.small.constant;
}

small_rows : (places : ℕ) (rows : List Row) → places ≤ 224 → AllByRecursion (RowOver places) rows → SmallRows rows
small_rows places [] few h = tt
small_rows places (r ∷ rs) few h = (small_form places r.form few h.0, small_rows places rs few h.1)

small_comparisons : (places : ℕ) (ks : List Comparison) → places ≤ 224 → AllByRecursion (λ (k : Comparison). AllByRecursion (RowOver places) k.rows) ks
    → AllByRecursion (λ (k : Comparison). SmallRows k.rows) ks
small_comparisons places [] few h = tt
small_comparisons places (k ∷ ks) few h = (small_rows places k.rows few h.0, small_comparisons places ks few h.1)

pub small_condition : (places : ℕ) (c : Condition) → places ≤ 224 → ConditionOver places c → SmallCondition c
small_condition places c few h = small_comparisons places c.comparisons few h

small_rises : (parameters shared : ℕ) (rows : List Row) → parameters + shared ≤ 224 → AllByRecursion (RiseRow parameters shared) rows → SmallRows rows
small_rises parameters shared [] few h = tt
small_rises parameters shared (r ∷ rs) few h = (small_form (parameters + shared) r.form few h.0.over, small_rises parameters shared rs few h.1)

small_falls : (parameters shared : ℕ) (rows : List Row) → parameters + shared ≤ 224 → AllByRecursion (FallRow parameters shared) rows → SmallRows rows
small_falls parameters shared [] few h = tt
small_falls parameters shared (r ∷ rs) few h = (small_form (parameters + shared) r.form few h.0.over, small_falls parameters shared rs few h.1)

pub places_most : (a : Automaton) → length a.parameters + length a.shared + length a.locations ≤ 224
places_most a = omega (arith, a.shape.limits.parameters_limit, a.shape.limits.shared_limit, a.shape.limits.locations_limit)

pub rise_rows_small : (a : Automaton) → SmallRows a.rise
rise_rows_small a = small_rises (length a.parameters) (length a.shared) a.rise (omega (arith, places_most a)) a.shape.rise_rows

pub fall_rows_small : (a : Automaton) → SmallRows a.fall
fall_rows_small a = small_falls (length a.parameters) (length a.shared) a.fall (omega (arith, places_most a)) a.shape.fall_rows

pub processes_small : (a : Automaton) → SmallForm a.processes
processes_small a = small_form (length a.parameters) a.processes (omega (arith, places_most a)) a.shape.processes_over

pub resilience_small : (a : Automaton) → SmallCondition a.resilience
resilience_small a = small_condition (length a.parameters) a.resilience (omega (arith, places_most a)) a.shape.resilience_over
