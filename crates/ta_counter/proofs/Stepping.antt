-- the checks of a step, and the steps of the model
use Rattle.ta_counter.proofs.Common.{◌≡◌, inl, inr, ℕ, zero, suc, ◌+◌, ◌<◌, ℤ, pos, negsuc, ◌+ℤ◌, ◌-ℤ◌, ◌*ℤ◌, ◌≤ℤ◌, List, length, eqb, cond, unsigned_abs}
use Rattle.ta_counter.proofs.Common.{arith, sym, ap, ◌∙◌, subst, slice_get, Some, length-drop, ints, ext_get_or, get_or-drop, *ℤ-zero, AllByRecursion, each_at}
use Rattle.ta_counter.proofs.Common.{distributes, minus_times, mul-ge-zero, one_times, point_of, RowHolds, Rule, Automaton, value_at, MaskedHold, Update}
use Rattle.ta_counter.proofs.Common.{one_if, location_place, shared_change, rule_change, form_same, one_if-ne, shared_change-parameter, shared_change-location}
use Rattle.ta_counter.proofs.Common.{fits_whole, StepFault, Count, OutOfRange, Guard, Value, places_of, counters_of, sum_of, model_of, AreOf, MaskedPass}
use Rattle.ta_counter.proofs.Common.{GuardFault, Fires, Enough, Grows, AllGrow, UpdateOutOfRange, shifted, before_last, StepFails, StepIsTaken, NoSteps}
use Rattle.ta_counter.proofs.Common.{each_get_or}
use Rattle.ta_automaton.specs.Runs as runs
use Rattle.ta_counter.specs.declared.config.Config.{Config}
use Rattle.ta_counter.proofs.Models.{model_at, model_point, model_whole, same_model}
use Rattle.ta_counter.proofs.Adding.{range_below}
use Rattle.ta_counter.proofs.Updating.{Within}
use Rattle.ta_counter.proofs.Firing.{EnoughAt, after_updates, fall_agree, fire_times, Checked, steps_checked}

less_grows : (a : Automaton) (values : List ℤ) (factor : ℤ) (u : ℕ × ℤ) → pos 1 ≤ℤ factor → pos 1 ≤ℤ u.1 → pos 0 ≤ℤ point_of values (length a.parameters + u.0)
    → Grows a values factor u → Grows a values (factor -ℤ pos 1) u
less_grows a values factor u some least natural g =
    let low = mul-ge-zero (factor -ℤ pos 1) u.1 (omega (arith, ints)) (omega (arith, ints)) in
    let less : ((factor -ℤ pos 1) *ℤ u.1) ≤ℤ (factor *ℤ u.1) = omega (arith, ints, minus_times factor (pos 1) u.1, one_times u.1) in
    record {
      product = range_below ((factor -ℤ pos 1) *ℤ u.1) (factor *ℤ u.1) low less g.product;
      sum = range_below (point_of values (length a.parameters + u.0) +ℤ ((factor -ℤ pos 1) *ℤ u.1))
          (point_of values (length a.parameters + u.0) +ℤ (factor *ℤ u.1)) (omega (arith, ints)) (omega (arith, ints)) g.sum;
    }

-- no number of one firing less leaves the range
pub no_leave : (a : Automaton) (rule : Rule) (factor : ℤ) (values : List ℤ) (place : ℕ) → Within a rule → pos 1 ≤ℤ factor → length values ≡ places_of a
    → AllByRecursion Value values → AllGrow a rule factor values → UpdateOutOfRange a rule (factor -ℤ pos 1) values place → ⊥
no_leave a rule factor values place w some places natural grow l =
    let u = l.first.item in
    let update = each_at (Update (length a.shared)) rule.updates l.number u w.updates l.first.at in
    l.first.bad (less_grows a values factor u some update.least
    (each_get_or Value values (length a.parameters + u.0) (pos 0) natural (omega (arith, update.exists))).natural (grow l.number u l.first.at))

pub updates_fail : (a : Automaton) (rule : Rule) (factor : ℤ) (values : List ℤ) (fault : StepFault) → Enough a rule factor values
    → ((place : ℕ) × (fault ≡ OutOfRange place) × UpdateOutOfRange a rule factor values place) → StepFails a rule factor values fault
updates_fail a rule factor values fault enough h = subst (StepFails a rule factor values) (sym h.1) (enough, inl h.2)

pub guards_fail : (a : Automaton) (rule : Rule) (factor : ℤ) (values : List ℤ) (last : ℕ → ℤ) (fault : StepFault) → Enough a rule factor values
    → AllGrow a rule factor values → last ≡ before_last a rule factor values → GuardFault a rule (point_of values) last fault
    → StepFails a rule factor values fault
guards_fail a rule factor values last fault enough grow same h =
    by_cases fault (subst (λ (f : ℕ → ℤ). GuardFault a rule (point_of values) f fault) same h) where
      by_cases : (f : StepFault) → GuardFault a rule (point_of values) (before_last a rule factor values) f → StepFails a rule factor values f
      by_cases Count g = absurd g
      by_cases (OutOfRange place) g = (enough, inr (grow, g))
      by_cases (Guard guard) g = (enough, grow, g)

pub enough_after : (a : Automaton) (rule : Rule) (factor : ℤ) (values after : List ℤ)
    → ((place : ℕ) → point_of after place ≡ shifted a rule factor values place) → Enough a rule factor values → Enough a rule factor after
enough_after a rule factor values after is enough =
    let same : point_of values (location_place a rule.from) ≡ point_of after (location_place a rule.from) = omega
    (arith, ints, is (location_place a rule.from), ap (λ z. factor *ℤ z) (shared_change-location a rule rule.from), *ℤ-zero factor) in
    subst (λ z. (cond (eqb rule.from rule.to) (pos 1) factor) ≤ℤ z) same enough

pub counters_after : (a : Automaton) (rule : Rule) (factor : ℤ) (values after : List ℤ) → length after ≡ length values
    → ((place : ℕ) → point_of after place ≡ shifted a rule factor values place) → counters_of a after ≡ counters_of a values
counters_after a rule factor values after count is =
    let n = length a.parameters + length a.shared in
    ext_get_or (pos 0) (counters_of a after) (counters_of a values) (omega (arith, length-drop n after, length-drop n values)) (λ l b.
    let here = get_or-drop n after l (pos 0) in
    let there = get_or-drop n values l (pos 0) in
    omega (arith, ints, here, there, is (location_place a l), ap (λ z. factor *ℤ z) (shared_change-location a rule l), *ℤ-zero factor))

-- rise guards pass at the old values, and fall guards at a point
abbrev pub GuardsAt : Automaton → Rule → List ℤ → (ℕ → ℤ) → Type 0
GuardsAt a rule values last = MaskedPass (point_of values) rule.rise a.rise × MaskedPass last rule.fall a.fall

pub taken : (a : Automaton) (rule : Rule) (factor : ℤ) (values middle after : List ℤ) (last : ℕ → ℤ) → Enough a rule factor values
    → AllGrow a rule factor values → last ≡ before_last a rule factor values → GuardsAt a rule values last → length after ≡ length values
    → ((place : ℕ) → point_of middle place ≡ shifted a rule factor values place)
    → ((place : ℕ) → point_of after place ≡
    (point_of middle place +ℤ (factor *ℤ (one_if (location_place a rule.to) place -ℤ one_if (location_place a rule.from) place))))
    → StepIsTaken a rule factor values after
taken a rule factor values middle after last enough grow same guards count shift move = record {
  enough = enough;
  grow = grow;
  guards = record {
    rise = guards.0;
    fall = subst (λ (f : ℕ → ℤ). MaskedPass f rule.fall a.fall) same guards.1;
  };
  places = count;
  changed = λ place. omega (
    arith,
    ints,
    move place,
    shift place,
    distributes factor (shared_change a rule place)
        (one_if (location_place a rule.to) place -ℤ one_if (location_place a rule.from) place),
  );
}

parameter_kept : (a : Automaton) (rule : Rule) (factor : ℤ) (values after : List ℤ) → StepIsTaken a rule factor values after → (i : ℕ) → i < length a.parameters
    → point_of values i ≡ point_of after i
parameter_kept a rule factor values after t i b =
    let to = one_if-ne (location_place a rule.to) i (λ e. omega arith) in
    let from = one_if-ne (location_place a rule.from) i (λ e. omega arith) in
    let none : rule_change a (Some rule) i ≡ pos 0 = omega (arith, ints, to, from, shared_change-parameter a rule i b) in
    omega (arith, ints, t.changed i, ap (λ z. factor *ℤ z) none, *ℤ-zero factor)

pub of_after : (a : Automaton) (rule : Rule) (factor : ℤ) (values after : List ℤ) → AreOf a values → StepIsTaken a rule factor values after
    → sum_of (counters_of a after) ≡ sum_of (counters_of a values) → AreOf a after
of_after a rule factor values after are t sum = record {
  places = t.places ∙ are.places;
  add_up = sum ∙ are.add_up ∙ form_same (point_of values) (point_of after) (length a.parameters) a.processes a.shape.processes_over
      (parameter_kept a rule factor values after t);
  fits = rw sum are.fits;
}

-- the checks in the model
model_enough : (a : Automaton) (rule : Rule) (factor : ℤ) (values : List ℤ) → AllByRecursion Value values → Enough a rule factor values
    → EnoughAt a rule factor (value_at (model_of a values))
model_enough a rule factor values n h = subst (λ (f : ℕ → ℤ). EnoughAt a rule factor f) (sym (model_point a values n)) h

enough_model : (a : Automaton) (rule : Rule) (factor : ℤ) (values : List ℤ) → AllByRecursion Value values
    → EnoughAt a rule factor (value_at (model_of a values)) → Enough a rule factor values
enough_model a rule factor values n h = subst (λ (f : ℕ → ℤ). EnoughAt a rule factor f) (model_point a values n) h

last_point : (a : Automaton) (rule : Rule) (k : ℕ) (values : List ℤ) → AllByRecursion Value values → (i : ℕ)
    → before_last a rule (pos (suc k)) values i ≡ after_updates a rule k (value_at (model_of a values)) i
last_point a rule k values n i =
    let one : (pos (suc k) -ℤ pos 1) ≡ pos k = omega (arith, ints) in
    omega (arith, ints, model_at a values n i, ap (λ z. z *ℤ shared_change a rule i) one)

-- a step that no check refuses is so many steps of the model
pub taken_fires : (a : Automaton) (r : ℕ) (rule : Rule) (factor : ℤ) (values after : List ℤ) → slice_get a.rules r ≡ Some rule → pos 1 ≤ℤ factor
    → AllByRecursion Value values → AreOf a values → AllByRecursion Value after → StepIsTaken a rule factor values after
    → Fires a r (unsigned_abs factor) (model_of a values) (model_of a after)
taken_fires a r rule (pos zero) values after named some n are m t = absurd (omega (arith, ints))
taken_fires a r rule (negsuc k) values after named some n are m t = absurd (omega (arith, ints))
taken_fires a r rule (pos (suc k)) values after named some n are m t =
    let c = model_of a values in
    let whole = model_whole a values are.places in
    let rise : MaskedHold rule.rise a.rise c = λ i row at bit. subst (λ (f : ℕ → ℤ). RowHolds f row) (sym (model_point a values n))
    (t.guards.rise i row at bit).holds in
    let fall = fall_agree a rule (before_last a rule (pos (suc k)) values) (after_updates a rule k (value_at c)) (λ i b. last_point a rule k values n i)
    (λ j row at bit. (t.guards.fall j row at bit).holds) in
    let fired = fire_times a r rule named k c whole (model_enough a rule (pos (suc k)) values n t.enough) rise fall in
    let same = same_model a fired.after (model_of a after) fired.whole (model_whole a after (t.places ∙ are.places))
    (λ i. omega (arith, ints, fired.change i, model_at a values n i, model_at a after m i, t.changed i)) in
    subst (λ d. Fires a r (suc k) c d) same fired.fires

checked_at : (a : Automaton) (r : ℕ) (rule : Rule) (k : ℕ) (values : List ℤ) (d : runs.Config) → slice_get a.rules r ≡ Some rule → AreOf a values
    → Fires a r (suc k) (model_of a values) d → Checked a rule k (model_of a values)
checked_at a r rule k values d named are f =
    steps_checked a r rule named k (model_of a values) f.later (fits_whole a (model_of a values) (model_whole a values are.places)) f.steps

-- a step that a count or a guard refuses isn't so many steps of the model
refused_values : (a : Automaton) (r : ℕ) (rule : Rule) (k : ℕ) (values : List ℤ) (d : runs.Config) → slice_get a.rules r ≡ Some rule
    → AllByRecursion Value values → AreOf a values → Fires a r (suc k) (model_of a values) d → (guard : ℕ) → StepFails a rule (pos (suc k)) values (Guard guard)
    → ⊥
refused_values a r rule k values d named n are f guard h =
    let checked = checked_at a r rule k values d named are f in
    elim h.2 [
      | inl stop ↦ stop.bad.1.fails (subst (λ (g : ℕ → ℤ). RowHolds g stop.item) (model_point a values n) (checked.rise guard stop.item stop.at stop.bad.0))
      | inr w ↦ (
          let stop = w.1.2 in
          let back = fall_agree a rule (after_updates a rule k (value_at (model_of a values))) (before_last a rule (pos (suc k)) values)
          (λ i b. sym (last_point a rule k values n i)) checked.fall in
          stop.bad.1.fails (back w.1.0 stop.item stop.at stop.bad.0))
    ]

pub no_steps : (a : Automaton) (r : ℕ) (rule : Rule) (factor : ℤ) (c : Config) (fault : StepFault) → slice_get a.rules r ≡ Some rule → pos 1 ≤ℤ factor
    → AreOf a c.values.items → StepFails a rule factor c.values.items fault → NoSteps a r factor c fault
no_steps a r rule factor c (OutOfRange place) named some are h = tt
no_steps a r rule (pos zero) c Count named some are h = absurd (omega (arith, ints))
no_steps a r rule (negsuc k) c Count named some are h = absurd (omega (arith, ints))
no_steps a r rule (pos (suc k)) c Count named some are h = λ d f.
    h (enough_model a rule (pos (suc k)) c.values.items c.natural (checked_at a r rule k c.values.items d named are f).enough)
no_steps a r rule (pos zero) c (Guard guard) named some are h = absurd (omega (arith, ints))
no_steps a r rule (negsuc k) c (Guard guard) named some are h = absurd (omega (arith, ints))
no_steps a r rule (pos (suc k)) c (Guard guard) named some are h = λ d f. refused_values a r rule k c.values.items d named c.natural are f guard h
