-- the values at the start, count by count
use Rattle.ta_counter.proofs.Common.{◌≡◌, inl, inr, ℕ, ◌+◌, ◌<◌, ◌≤◌, ℤ, pos, List, ◌++◌, length, set, replicate, arith, sym, ap, ◌∙◌, get_or, slice_get, Some}
use Rattle.ta_counter.proofs.Common.{length-append, ints, cases_lt, get_or-set_same, get_or-set_other, length-set, take-set-le, take_at, length-replicate}
use Rattle.ta_counter.proofs.Common.{same_Some, slice_get_within, get_or_from_slice_get, AllByRecursion, each_append, each_copies, each_set, zeros_past}
use Rattle.ta_counter.proofs.Common.{Automaton, location_place, Value, StartsAt, Filling}
use Rattle.ta_base.proofs.Ranges.{rises_apart, rises_within}

pub zero_value : Value (pos 0)
zero_value = record { natural = omega (arith, ints); fits = omega arith }

pub fill_start : (a : Automaton) (parameters counts : List ℤ) (n : ℕ) → length parameters ≡ length a.parameters → AllByRecursion Value parameters
    → n ≡ length a.shared + length a.locations → Filling a parameters counts (parameters ++ replicate n (pos 0)) 0
fill_start a parameters counts n same h is = record {
  natural = each_append Value parameters (replicate n (pos 0)) h (each_copies Value n (pos 0) zero_value);
  places = omega (arith, length-append parameters (replicate n (pos 0)), length-replicate n (pos 0));
  parameters_first = take_at parameters (replicate n (pos 0)) (length a.parameters) same;
  shared_zero = λ x b. zeros_past parameters n (length a.parameters + x) (omega arith);
  counts_there = λ j l b e. absurd (omega arith);
  others_empty = λ l none. zeros_past parameters n (location_place a l) (omega arith);
}

pub location_exists : (a : Automaton) (i l : ℕ) → slice_get a.initial i ≡ Some l → l < length a.locations
location_exists a i l at = (rises_within 0 (length a.locations) a.initial a.shape.initial_rises i l at).1

pub fill_next : (a : Automaton) (parameters counts values : List ℤ) (i l place : ℕ) (v : ℤ) → Filling a parameters counts values i
    → slice_get a.initial i ≡ Some l → place ≡ location_place a l → v ≡ get_or counts i (pos 0) → Value v
    → Filling a parameters counts (set values place v) (i + 1)
fill_next a parameters counts values i l place v f at here is value =
    let base = length a.parameters + length a.shared in
    let exists = location_exists a i l at in
    record {
      natural = each_set Value values place v f.natural value;
      places = length-set values place v ∙ f.places;
      parameters_first = take-set-le (length a.parameters) values place v (omega arith) ∙ f.parameters_first;
      shared_zero = λ x b. get_or-set_other values place (length a.parameters + x) v (pos 0) (λ e. omega arith) ∙ f.shared_zero x b;
      counts_there = λ j k b e. elim (cases_lt j i) [
        | inl c ↦ (
            let apart = rises_apart 0 (length a.locations) a.initial a.shape.initial_rises i j l k c at e in
            get_or-set_other values place (location_place a k) v (pos 0) (λ q. omega arith) ∙ f.counts_there j k c e)
        | inr c ↦ (
            let same : j ≡ i = omega arith in
            let location : l ≡ k = same_Some l k (sym at ∙ ap (slice_get a.initial) (sym same) ∙ e) in
            let there : location_place a k ≡ place = omega arith in
            ap (λ n. get_or (set values place v) n (pos 0)) there ∙ get_or-set_same values place v (pos 0) (omega (arith, f.places)) ∙ is
            ∙ ap (λ n. get_or counts n (pos 0)) (sym same))
      ];
      others_empty = λ k none. get_or-set_other values place (location_place a k) v (pos 0)
          (λ q. none i (omega arith) (at ∙ ap Some (let e : l ≡ k = omega arith in e))) ∙ f.others_empty k (λ j b e. none j (omega arith) e);
    }

pub fill_end : (a : Automaton) (parameters counts values : List ℤ) (i : ℕ) → Filling a parameters counts values i → length a.initial ≤ i
    → StartsAt a parameters counts values
fill_end a parameters counts values i f past = record {
  places = f.places;
  parameters_first = f.parameters_first;
  shared_zero = f.shared_zero;
  counts_there = λ j l e. f.counts_there j l (omega (arith, slice_get_within a.initial j l e)) e;
  others_empty = λ l none. f.others_empty l (λ j b e. none (j, slice_get_within a.initial j l e, get_or_from_slice_get a.initial j l l e));
}
