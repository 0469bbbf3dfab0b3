-- the configuration at the start
use Rattle.ta_counter.proofs.Common.{◌≡◌, inl, inr, ℕ, ◌+◌, ◌<◌, ℤ, pos, List, length, arith, sym, ap, ◌∙◌, subst, get_or, Err, length-drop, fun_ext, cases_lt}
use Rattle.ta_counter.proofs.Common.{get_or-drop, get_or-take, get_or_past, slice_get_within, AllByRecursion, each_drop, point_of, value_of, Automaton, Initial}
use Rattle.ta_counter.proofs.Common.{HoldsAt, number_at, total, location_place, value_at-shared, value_at-location, place_cases, form_same, fits_whole, Value}
use Rattle.ta_counter.proofs.Common.{places_of, naturals, counters_of, model_of, sum_of, AreOf, StartsAt, MayStart, StartChecked, NoStart, range_with_len}
use Rattle.ta_counter.proofs.Common.{each_get_or}
use Rattle.ta_base.proofs.Integers.{pos_same}
use Rattle.ta_base.proofs.Members.{in_of, in_or, place_of}
use Rattle.ta_base.proofs.Totals.{total-items, total-listed, total-rising, total-same}
use Rattle.ta_counter.specs.declared.fault.StartFault.{StartFault}
use Rattle.ta_counter.specs.declared.fault.StartFault.TheVariants.{Resilience, Processes, OutOfRange}
use Rattle.ta_counter.proofs.Rows.{holds_from, fails_from}
use Rattle.ta_counter.proofs.Models.{naturals_at, model_at, model_whole, sum_naturals}
use Rattle.ta_counter.proofs.Filling.{zero_value}
use Rattle.std.proofs.lemmas.List.Elements.{All-from_get_or, recursion_from_All}

-- the counter of a location
pub counter_at : (a : Automaton) (v : List ℤ) (l : ℕ) → get_or (counters_of a v) l (pos 0) ≡ point_of v (location_place a l)
counter_at a v l = get_or-drop (length a.parameters + length a.shared) v l (pos 0)

pub counters_sum : (a : Automaton) (v : List ℤ) → length v ≡ places_of a
    → total (λ l. point_of v (location_place a l)) (range_with_len 0 (length a.locations)) ≡ sum_of (counters_of a v)
counters_sum a v same =
    let count : length (counters_of a v) ≡ length a.locations = omega (arith, length-drop (length a.parameters + length a.shared) v) in
    let at = total-same (λ l. point_of v (location_place a l)) (λ l. get_or (counters_of a v) l (pos 0)) (range_with_len 0 (length a.locations))
    (λ l. sym (counter_at a v l)) in
    at ∙ ap (λ n. total (λ l. get_or (counters_of a v) l (pos 0)) (range_with_len 0 n)) (sym count) ∙ total-items (λ z. z) (pos 0) (counters_of a v)

-- the counters at the start add up to the counts
pub starts_sum : (a : Automaton) (parameters counts values : List ℤ) → length counts ≡ length a.initial → StartsAt a parameters counts values
    → sum_of (counters_of a values) ≡ sum_of counts
starts_sum a parameters counts values same s =
    sym (counters_sum a values s.places)
    ∙ sym (total-rising (λ l. point_of values (location_place a l)) (length a.locations) a.initial a.shape.initial_rises
    (λ l none. s.others_empty l (λ c. none (in_of a.initial l c))))
    ∙ total-listed (λ l. point_of values (location_place a l)) a.initial counts same s.counts_there

first_points : (a : Automaton) (parameters counts values : List ℤ) → StartsAt a parameters counts values → (i : ℕ) → i < length a.parameters
    → point_of values i ≡ point_of parameters i
first_points a parameters counts values s i b =
    sym (get_or-take (length a.parameters) values i (pos 0) b) ∙ ap (λ (ps : List ℤ). get_or ps i (pos 0)) s.parameters_first

processes_same : (a : Automaton) (parameters counts values : List ℤ) → StartsAt a parameters counts values
    → value_of (point_of values) a.processes ≡ value_of (point_of parameters) a.processes
processes_same a parameters counts values s =
    form_same (point_of values) (point_of parameters) (length a.parameters) a.processes a.shape.processes_over (first_points a parameters counts values s)

pub starts_of : (a : Automaton) (parameters counts values : List ℤ) → length counts ≡ length a.initial → StartsAt a parameters counts values
    → MayStart a parameters counts → AreOf a values
starts_of a parameters counts values same s may =
    let sum = starts_sum a parameters counts values same s in
    record {
      places = s.places;
      add_up = sum ∙ sym may.same ∙ sym (processes_same a parameters counts values s);
      fits = rw sum may.sum_stays;
    }

-- the model's parameters
parameter_points : (a : Automaton) (parameters counts values : List ℤ) → AllByRecursion Value parameters → StartsAt a parameters counts values
    → number_at (model_of a values).parameters ≡ point_of parameters
parameter_points a parameters counts values n s =
    fun_ext (λ i. ap (λ (ps : List ℤ). pos (get_or (naturals ps) i 0)) s.parameters_first ∙ naturals_at parameters n i)

pub starts_initial : (a : Automaton) (parameters counts values : List ℤ) → length counts ≡ length a.initial → AllByRecursion Value parameters
    → AllByRecursion Value values → StartsAt a parameters counts values → MayStart a parameters counts → Initial a (model_of a values)
starts_initial a parameters counts values same n e s may =
    let whole = model_whole a values s.places in
    let fits = fits_whole a (model_of a values) whole in
    let points = parameter_points a parameters counts values n s in
    let sum = starts_sum a parameters counts values same s in
    record {
      admissible = record {
        count = whole.parameters;
        resilience = subst (λ (f : ℕ → ℤ). HoldsAt f a.resilience) (sym points) (holds_from (point_of parameters) a.resilience may.resilience);
      };
      shared_count = whole.shared;
      locations_count = whole.counters;
      others_empty = λ l none. pos_same _ 0
          (sym (value_at-location a (model_of a values) l fits) ∙ model_at a values e (location_place a l) ∙ s.others_empty l none);
      processes = sum_naturals (counters_of a values) (each_drop Value (length a.parameters + length a.shared) values e) ∙ sum ∙ sym may.same
          ∙ ap (λ (f : ℕ → ℤ). value_of f a.processes) (sym points);
      shared_zero = λ x. elim (cases_lt x (length a.shared)) [
        | inl b ↦ pos_same _ 0 (sym (value_at-shared a (model_of a values) x fits b) ∙ model_at a values e (length a.parameters + x) ∙ s.shared_zero x b)
        | inr b ↦ get_or_past (model_of a values).shared x 0 (omega (arith, whole.shared))
      ];
    }

-- values that start so are natural and in range
pub starts_natural : (a : Automaton) (parameters counts values : List ℤ) → length parameters ≡ length a.parameters → length counts ≡ length a.initial
    → AllByRecursion Value parameters → AllByRecursion Value counts → StartsAt a parameters counts values → AllByRecursion Value values
starts_natural a parameters counts values many same n m s = recursion_from_All Value values
    (All-from_get_or Value values (pos 0) (λ i b. elim (place_cases a i) [
      | inl p ↦ subst Value (sym (first_points a parameters counts values s i p)) (each_get_or Value parameters i (pos 0) n (omega arith))
      | inr (inl w) ↦ subst Value (sym (ap (point_of values) w.2 ∙ s.shared_zero w.0 w.1)) zero_value
      | inr (inr w) ↦ elim (in_or w.0 a.initial) [
        | inl is ↦ let at = place_of w.0 a.initial is in subst Value (sym (ap (point_of values) w.1 ∙ s.counts_there at.0 w.0 at.1))
            (each_get_or Value counts at.0 (pos 0) m (omega (arith, slice_get_within a.initial at.0 w.0 at.1)))
        | inr none ↦ subst Value (sym (ap (point_of values) w.1 ∙ s.others_empty w.0 (λ c. none (in_of a.initial w.0 c)))) zero_value
      ]
    ]))

-- a configuration that isn't initial
pub no_start : (a : Automaton) (parameters counts : List ℤ) (fault : StartFault) → length parameters ≡ length a.parameters → length counts ≡ length a.initial
    → AllByRecursion Value parameters → AllByRecursion Value counts → StartChecked a parameters counts (Err fault) → NoStart a parameters counts fault
no_start a parameters counts (Resilience k) many same n m stop = λ values s initial.
    fails_from (point_of parameters) a.resilience k stop
    (subst (λ (f : ℕ → ℤ). HoldsAt f a.resilience) (parameter_points a parameters counts values n s) initial.admissible.resilience)
no_start a parameters counts Processes many same n m other = λ values s initial.
    let e = starts_natural a parameters counts values many same n m s in
    let sum = sum_naturals (counters_of a values) (each_drop Value (length a.parameters + length a.shared) values e)
    ∙ starts_sum a parameters counts values same s in
    let points = parameter_points a parameters counts values n s in
    other.differ (sym (ap (λ (f : ℕ → ℤ). value_of f a.processes) points) ∙ sym initial.processes ∙ sum)
no_start a parameters counts OutOfRange many same n m h = tt
