-- firing a rule several times in a row
use Rattle.ta_counter.proofs.Common.{◌≡◌, ◌≢◌, inl, inr, ℕ, zero, suc, ◌+◌, ◌<◌, ◌≤◌, ℤ, pos, negsuc, ◌+ℤ◌, ◌*ℤ◌, ◌≤ℤ◌, List, [], ◌∷◌, length, replicate, eqb}
use Rattle.ta_counter.proofs.Common.{cond, arith, sym, ap, ◌∙◌, refl, subst, get_or, slice_get, Some, Option, IsBitSet, ints, nat_tests, eqb_tells, same_Some}
use Rattle.ta_counter.proofs.Common.{zero-*ℤ, *ℤ-zero, each_at, one_times, suc_times, times_natural, value_of, RowHolds, Row, Rule, Automaton, FallRow, Config}
use Rattle.ta_counter.proofs.Common.{Step, Steps, MaskedHold, value_at, one_if, location_place, shared_change, rule_change, Later, falls, fall_back, form_same}
use Rattle.ta_counter.proofs.Common.{stays_true, updates_natural, Fits, fits_after, step_later, move_at, one_if-shift, one_if-ne, value_at-location}
use Rattle.ta_counter.proofs.Common.{shared_change-parameter, shared_change-shared, shared_change-location, place_cases, Whole, fire, fire_whole, fire_step}
use Rattle.ta_counter.proofs.Common.{fits_whole, Fires}

-- so many processes at the source; one is enough for a self-loop
abbrev pub EnoughAt : Automaton → Rule → ℤ → (ℕ → ℤ) → Type 0
EnoughAt a rule k point = cond (eqb rule.from rule.to) (pos 1) k ≤ℤ point (location_place a rule.from)

-- fall guards that a mask names hold at a point
abbrev pub FallAt : Automaton → Rule → (ℕ → ℤ) → Type 0
FallAt a rule point = (j : ℕ) (row : Row) → slice_get a.fall j ≡ Some row → IsBitSet rule.fall j → RowHolds point row

-- two points with the same parameters and shared variables
abbrev pub Agree : Automaton → (ℕ → ℤ) → (ℕ → ℤ) → Type 0
Agree a f g = (i : ℕ) → i < length a.parameters + length a.shared → f i ≡ g i

pub fall_agree : (a : Automaton) (rule : Rule) (f g : ℕ → ℤ) → Agree a f g → FallAt a rule f → FallAt a rule g
fall_agree a rule f g agree h j row at bit =
    let over = (each_at (FallRow (length a.parameters) (length a.shared)) a.fall j row a.shape.fall_rows at).over in
    let was : pos 0 ≤ℤ value_of f row.form = h j row at bit in
    let now : pos 0 ≤ℤ value_of g row.form = omega (arith, ints, form_same f g (length a.parameters + length a.shared) row.form over agree) in
    now

-- fall guards that hold at a later point hold at an earlier one
fall_earlier : (a : Automaton) (rule : Rule) (f g : ℕ → ℤ) → Later a f g → FallAt a rule g → FallAt a rule f
fall_earlier a rule f g later h j row at bit =
    let less = fall_back a f g later row.form.terms (falls a j row at) in
    let was : pos 0 ≤ℤ value_of g row.form = h j row at bit in
    let now : pos 0 ≤ℤ value_of f row.form = omega (arith, ints) in
    now

-- the point after k firings' updates
abbrev pub after_updates : Automaton → Rule → ℕ → (ℕ → ℤ) → ℕ → ℤ
after_updates a rule k point i = point i +ℤ (pos k *ℤ shared_change a rule i)

-- below the locations a rule changes what its updates change
shared_part : (a : Automaton) (rule : Rule) (i : ℕ) → i < length a.parameters + length a.shared → rule_change a (Some rule) i ≡ shared_change a rule i
shared_part a rule i b =
    let to = one_if-ne (location_place a rule.to) i (λ e. omega arith) in
    let from = one_if-ne (location_place a rule.from) i (λ e. omega arith) in
    omega (arith, ints, to, from)

pub change_natural : (a : Automaton) (r : ℕ) (rule : Rule) → slice_get a.rules r ≡ Some rule → (i : ℕ) → pos 0 ≤ℤ shared_change a rule i
change_natural a r rule named i = elim (place_cases a i) [
  | inl p ↦ omega (arith, ints, shared_change-parameter a rule i p)
  | inr (inl w) ↦ (let at = ap (shared_change a rule) w.2 in omega (arith, ints, at, shared_change-shared a rule w.0 w.1, updates_natural a r rule named w.0))
  | inr (inr w) ↦ (let at = ap (shared_change a rule) w.1 in omega (arith, ints, at, shared_change-location a rule w.0))
]

later_updates : (a : Automaton) (r : ℕ) (rule : Rule) → slice_get a.rules r ≡ Some rule → (k : ℕ) (point : ℕ → ℤ) → Later a point (after_updates a rule k point)
later_updates a r rule named k point = record {
  parameters = λ i b. omega (arith, ints, ap (λ z. pos k *ℤ z) (shared_change-parameter a rule i b), *ℤ-zero (pos k));
  shared = λ i low high. omega (arith, ints, times_natural k (shared_change a rule i) (change_natural a r rule named i));
}

-- what one firing does at the source
source_change : (a : Automaton) (rule : Rule) → rule.from ≢ rule.to → rule_change a (Some rule) (location_place a rule.from) ≡ negsuc 0
source_change a rule apart =
    let n = length a.parameters + length a.shared in
    let to = one_if-shift n rule.to rule.from ∙ one_if-ne rule.to rule.from (λ e. apart (sym e)) in
    let from = one_if-shift n rule.from rule.from ∙ (let one : one_if rule.from rule.from ≡ pos 1 = grind (arith, nat_tests) in one) in
    omega (arith, ints, to, from, shared_change-location a rule rule.from)

loop_source : (a : Automaton) (rule : Rule) → rule.from ≡ rule.to → rule_change a (Some rule) (location_place a rule.from) ≡ pos 0
loop_source a rule same =
    let e = ap (λ l. one_if (location_place a l) (location_place a rule.from)) same in
    omega (arith, ints, e, shared_change-location a rule rule.from)

enough_next : (a : Automaton) (rule : Rule) (k : ℕ) (f g : ℕ → ℤ) → ((i : ℕ) → g i ≡ (f i +ℤ rule_change a (Some rule) i))
    → EnoughAt a rule (pos (suc (suc k))) f → EnoughAt a rule (pos (suc k)) g
enough_next a rule k f g change h = elim (eqb_tells rule.from rule.to) [
  | inl same ↦ (let was : pos 1 ≤ℤ f (location_place a rule.from) = rw same.0 at h in rw same.0
      (omega (arith, ints, change (location_place a rule.from), loop_source a rule same.1)))
  | inr other ↦ (let was : pos (suc (suc k)) ≤ℤ f (location_place a rule.from) = rw other.0 at h in rw other.0
      (omega (arith, ints, change (location_place a rule.from), source_change a rule other.1)))
]

enough_before : (a : Automaton) (rule : Rule) (k : ℕ) (f g : ℕ → ℤ) → ((i : ℕ) → g i ≡ (f i +ℤ rule_change a (Some rule) i))
    → pos 1 ≤ℤ f (location_place a rule.from) → EnoughAt a rule (pos (suc k)) g → EnoughAt a rule (pos (suc (suc k))) f
enough_before a rule k f g change one h = elim (eqb_tells rule.from rule.to) [
  | inl same ↦ rw same.0 one
  | inr other ↦ (let is : pos (suc k) ≤ℤ g (location_place a rule.from) = rw other.0 at h in rw other.0
      (omega (arith, ints, change (location_place a rule.from), source_change a rule other.1)))
]

enough_one : (a : Automaton) (rule : Rule) (k : ℕ) (f : ℕ → ℤ) → EnoughAt a rule (pos (suc k)) f → pos 1 ≤ℤ f (location_place a rule.from)
enough_one a rule k f h = elim (eqb_tells rule.from rule.to) [
  | inl same ↦ rw same.0 at h
  | inr other ↦ (let is : pos (suc k) ≤ℤ f (location_place a rule.from) = rw other.0 at h in omega (arith, ints))
]

one_enough : (a : Automaton) (rule : Rule) (f : ℕ → ℤ) → pos 1 ≤ℤ f (location_place a rule.from) → EnoughAt a rule (pos 1) f
one_enough a rule f h = elim (eqb_tells rule.from rule.to) [
  | inl same ↦ rw same.0 h
  | inr other ↦ rw other.0 h
]

-- what n firings lead to
pub record Fired (a : Automaton) (r : ℕ) (rule : Rule) (n : ℕ) (c : Config) : Type 0 where
  pub after : Config
  pub fires : Fires a r n c after
  pub whole : Whole a after
  pub change : (i : ℕ) → value_at after i ≡ (value_at c i +ℤ (pos n *ℤ rule_change a (Some rule) i))

one_change : (a : Automaton) (r : ℕ) (rule : Rule) (c d : Config) → slice_get a.rules r ≡ Some rule → Fits a c → Fits a d → Step a r c d → (i : ℕ)
    → value_at d i ≡ (value_at c i +ℤ rule_change a (Some rule) i)
one_change a r rule c d named f g step i = move_at a r c d f g step i ∙ ap (λ (o : Option Rule). value_at c i +ℤ rule_change a o i) named

some_source : (a : Automaton) (rule : Rule) (c : Config) → Fits a c → pos 1 ≤ℤ value_at c (location_place a rule.from) → 1 ≤ get_or c.counters rule.from 0
some_source a rule c f h = omega (arith, ints, value_at-location a c rule.from f)

-- the checks of k + 1 firings make them legal
pub fire_times : (a : Automaton) (r : ℕ) (rule : Rule) → slice_get a.rules r ≡ Some rule → (k : ℕ) (c : Config) → Whole a c
    → EnoughAt a rule (pos (suc k)) (value_at c) → MaskedHold rule.rise a.rise c → FallAt a rule (after_updates a rule k (value_at c))
    → Fired a r rule (suc k) c
fire_times a r rule named zero c w enough rise fall =
    let d = fire a rule c in
    let f = fits_whole a c w in
    let now = fall_agree a rule (after_updates a rule 0 (value_at c)) (value_at c) (λ i b. omega (arith, ints, zero-*ℤ (shared_change a rule i))) fall in
    let step = fire_step a r rule c named w rise now (some_source a rule c f (enough_one a rule 0 (value_at c) enough)) in
    let x = fire_whole a rule c w in
    record {
      after = d;
      fires = record { later = d ∷ []; steps = (step, tt); last = refl };
      whole = x;
      change = λ i. omega (arith, ints, one_change a r rule c d named f (fits_whole a d x) step i, one_times (rule_change a (Some rule) i));
    }
fire_times a r rule named (suc k) c w enough rise fall =
    let d = fire a rule c in
    let f = fits_whole a c w in
    let now = fall_earlier a rule (value_at c) (after_updates a rule (suc k) (value_at c)) (later_updates a r rule named (suc k) (value_at c)) fall in
    let step = fire_step a r rule c named w rise now (some_source a rule c f (enough_one a rule (suc k) (value_at c) enough)) in
    let x = fire_whole a rule c w in
    let g = fits_whole a d x in
    let change = one_change a r rule c d named f g step in
    let still : MaskedHold rule.rise a.rise d = λ i row at bit. stays_true a (value_at c) (value_at d) (step_later a r c d f g step) i row at
    (rise i row at bit) in
    let ahead = fall_agree a rule (after_updates a rule (suc k) (value_at c)) (after_updates a rule k (value_at d))
    (λ i b. omega (arith, ints, change i, shared_part a rule i b, suc_times k (shared_change a rule i))) fall in
    let rest = fire_times a r rule named k d x (enough_next a rule k (value_at c) (value_at d) change enough) still ahead in
    record {
      after = rest.after;
      fires = record { later = d ∷ rest.fires.later; steps = (step, rest.fires.steps); last = rest.fires.last };
      whole = rest.whole;
      change = λ i. omega (arith, ints, rest.change i, change i, suc_times (suc k) (rule_change a (Some rule) i));
    }

-- what legal firings say of the checks
pub record Checked (a : Automaton) (rule : Rule) (k : ℕ) (c : Config) : Type 0 where
  pub enough : EnoughAt a rule (pos (suc k)) (value_at c)
  pub rise : MaskedHold rule.rise a.rise c
  pub fall : FallAt a rule (after_updates a rule k (value_at c))

same_rule : (a : Automaton) (r : ℕ) (rule : Rule) (c d : Config) → slice_get a.rules r ≡ Some rule → (step : Step a r c d) → step.rule ≡ rule
same_rule a r rule c d named step = same_Some step.rule rule (sym step.named ∙ named)

first_source : (a : Automaton) (r : ℕ) (rule : Rule) (c d : Config) → slice_get a.rules r ≡ Some rule → Fits a c → Step a r c d
    → pos 1 ≤ℤ value_at c (location_place a rule.from)
first_source a r rule c d named f step =
    let same = ap (λ (q : Rule). get_or c.counters q.from 0) (same_rule a r rule c d named step) in
    omega (arith, ints, value_at-location a c rule.from f, step.move.some)

first_rise : (a : Automaton) (r : ℕ) (rule : Rule) (c d : Config) → slice_get a.rules r ≡ Some rule → Step a r c d → MaskedHold rule.rise a.rise c
first_rise a r rule c d named step = subst (λ (q : Rule). MaskedHold q.rise a.rise c) (same_rule a r rule c d named step) step.move.rise

first_fall : (a : Automaton) (r : ℕ) (rule : Rule) (c d : Config) → slice_get a.rules r ≡ Some rule → Step a r c d → FallAt a rule (value_at c)
first_fall a r rule c d named step = subst (λ (q : Rule). MaskedHold q.fall a.fall c) (same_rule a r rule c d named step) step.move.fall

pub steps_checked : (a : Automaton) (r : ℕ) (rule : Rule) → slice_get a.rules r ≡ Some rule → (k : ℕ) (c : Config) (later : List Config) → Fits a c
    → Steps a c (replicate (suc k) r) later → Checked a rule k c
steps_checked a r rule named k c [] f steps = absurd steps
steps_checked a r rule named zero c (d ∷ ds) f steps = record {
  enough = one_enough a rule (value_at c) (first_source a r rule c d named f steps.0);
  rise = first_rise a r rule c d named steps.0;
  fall = fall_agree a rule (value_at c) (after_updates a rule 0 (value_at c)) (λ i b. omega (arith, ints, zero-*ℤ (shared_change a rule i)))
      (first_fall a r rule c d named steps.0);
}
steps_checked a r rule named (suc k) c (d ∷ ds) f steps =
    let g = fits_after a r c d f steps.0 in
    let change = one_change a r rule c d named f g steps.0 in
    let rest = steps_checked a r rule named k d ds g steps.1 in
    record {
      enough = enough_before a rule k (value_at c) (value_at d) change (first_source a r rule c d named f steps.0) rest.enough;
      rise = first_rise a r rule c d named steps.0;
      fall = fall_agree a rule (after_updates a rule k (value_at d)) (after_updates a rule (suc k) (value_at c))
          (λ i b. omega (arith, ints, change i, shared_part a rule i b, suc_times k (shared_change a rule i))) rest.fall;
    }
