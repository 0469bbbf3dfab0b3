-- the move of processes
use Rattle.ta_counter.proofs.Common.{◌≡◌, ◌≢◌, inl, inr, ℕ, ◌+◌, ◌<◌, ℤ, pos, negsuc, ◌+ℤ◌, ◌-ℤ◌, ◌*ℤ◌, ◌≤ℤ◌, List, length, set, arith, sym, ap, ◌∙◌, subst}
use Rattle.ta_counter.proofs.Common.{FitsSigned, ints, fits_signed_from_abs, w128, eqb_tells, get_or-set_same, get_or-set_other, length-set, *ℤ-zero}
use Rattle.ta_counter.proofs.Common.{AllByRecursion, each_drop, each_set, by_one, times_minus_one, InRange, point_of, Rule, Automaton, one_if, location_place}
use Rattle.ta_counter.proofs.Common.{one_if-ne, Value, places_of, counters_of, sum_of, Enough, each_get_or}
use Rattle.ta_base.proofs.Totals.{one_if-one}
use Rattle.ta_counter.proofs.Starting.{counter_at}
use Rattle.ta_counter.proofs.Adding.{range_below, item_below}
use Rattle.ta_counter.proofs.Updating.{Within, moved_values, counters-set-sum}

-- what stays of the counter of the source fits, and so does what the counter of the target becomes
pub record MayMove (a : Automaton) (from to : ℕ) (k : ℤ) (values : List ℤ) : Type 0 where
  pub apart : from ≢ to
  pub from_exists : from < length a.locations
  pub to_exists : to < length a.locations
  pub some : pos 1 ≤ℤ k
  pub enough : k ≤ℤ point_of values (location_place a from)
  pub places : length values ≡ places_of a
  pub natural : AllByRecursion Value values
  pub fits : InRange (sum_of (counters_of a values))

value_there : (a : Automaton) (values : List ℤ) (l : ℕ) → length values ≡ places_of a → AllByRecursion Value values → l < length a.locations
    → Value (point_of values (location_place a l))
value_there a values l places natural b = each_get_or Value values (location_place a l) (pos 0) natural (omega arith)

pub left_value : (a : Automaton) (from to : ℕ) (k : ℤ) (values : List ℤ) → MayMove a from to k values → Value (point_of values (location_place a from) -ℤ k)
left_value a from to k values m =
    let v = value_there a values from m.places m.natural m.from_exists in
    let low : pos 0 ≤ℤ (point_of values (location_place a from) -ℤ k) = omega (arith, ints, m.enough) in
    record {
      natural = low;
      fits = range_below (point_of values (location_place a from) -ℤ k) (point_of values (location_place a from)) low (omega (arith, ints, m.some)) v.fits;
    }

pub left_natural : (a : Automaton) (from to : ℕ) (k : ℤ) (values : List ℤ) → MayMove a from to k values
    → AllByRecursion Value (set values (location_place a from) (point_of values (location_place a from) -ℤ k))
left_natural a from to k values m = each_set Value values (location_place a from) _ m.natural (left_value a from to k values m)

pub target_same : (a : Automaton) (from to : ℕ) (k : ℤ) (values : List ℤ) → MayMove a from to k values
    → point_of (set values (location_place a from) (point_of values (location_place a from) -ℤ k)) (location_place a to) ≡ point_of values (location_place a to)
target_same a from to k values m = get_or-set_other values (location_place a from) (location_place a to) _ (pos 0) (λ e. m.apart (omega arith))

left_sum : (a : Automaton) (from to : ℕ) (k : ℤ) (values : List ℤ) → MayMove a from to k values
    → sum_of (counters_of a (set values (location_place a from) (point_of values (location_place a from) -ℤ k))) ≡ (sum_of (counters_of a values) -ℤ k)
left_sum a from to k values m =
    omega (arith, ints, counters-set-sum a values from (point_of values (location_place a from) -ℤ k) m.places m.from_exists)

pub right_value : (a : Automaton) (from to : ℕ) (k : ℤ) (values : List ℤ) → MayMove a from to k values → Value (point_of values (location_place a to) +ℤ k)
right_value a from to k values m =
    let v = value_there a values to m.places m.natural m.to_exists in
    let left = set values (location_place a from) (point_of values (location_place a from) -ℤ k) in
    let below = item_below (counters_of a left) (each_drop Value (length a.parameters + length a.shared) left (left_natural a from to k values m)) to in
    let at = counter_at a left to in
    let low : pos 0 ≤ℤ (point_of values (location_place a to) +ℤ k) = omega (arith, ints, v.natural, m.some) in
    record {
      natural = low;
      fits = range_below (point_of values (location_place a to) +ℤ k) (sum_of (counters_of a values)) low
          (omega (arith, ints, below, at, target_same a from to k values m, left_sum a from to k values m)) m.fits;
    }

pub moved_natural : (a : Automaton) (from to : ℕ) (k : ℤ) (values : List ℤ) → MayMove a from to k values
    → AllByRecursion Value (moved_values a from to k values)
moved_natural a from to k values m =
    each_set Value (set values (location_place a from) (point_of values (location_place a from) -ℤ k)) (location_place a to) _
    (left_natural a from to k values m) (right_value a from to k values m)

pub moved_sum : (a : Automaton) (from to : ℕ) (k : ℤ) (values : List ℤ) → MayMove a from to k values
    → sum_of (counters_of a (moved_values a from to k values)) ≡ sum_of (counters_of a values)
moved_sum a from to k values m =
    let left = set values (location_place a from) (point_of values (location_place a from) -ℤ k) in
    let places : length left ≡ places_of a = length-set values (location_place a from) _ ∙ m.places in
    omega (
      arith,
      ints,
      counters-set-sum a left to (point_of values (location_place a to) +ℤ k) places m.to_exists,
      target_same a from to k values m,
      left_sum a
          from to k values m,
    )

pub moved_at : (a : Automaton) (from to : ℕ) (k : ℤ) (values : List ℤ) → MayMove a from to k values → (place : ℕ)
    → point_of (moved_values a from to k values) place ≡
    (point_of values place +ℤ (k *ℤ (one_if (location_place a to) place -ℤ one_if (location_place a from) place)))
moved_at a from to k values m place =
    let f = location_place a from in
    let t = location_place a to in
    let left = set values f (point_of values f -ℤ k) in
    let apart : f ≢ t = λ e. m.apart (omega arith) in
    elim (eqb_tells t place) [
      | inl at ↦ (
          let here = get_or-set_same left t (point_of values t +ℤ k) (pos 0)
          (omega (arith, length-set values f (point_of values f -ℤ k), m.places, m.to_exists)) in
          let one = one_if-one t in
          let none = one_if-ne f t apart in
          let change : (one_if t t -ℤ one_if f t) ≡ pos 1 = omega (arith, ints) in
          let whole : point_of (moved_values a from to k values) t ≡ (point_of values t +ℤ (k *ℤ (one_if t t -ℤ one_if f t))) = omega
          (arith, ints, here, ap (λ z. k *ℤ z) change, by_one k) in
          subst (λ p. point_of (moved_values a from to k values) p ≡ (point_of values p +ℤ (k *ℤ (one_if t p -ℤ one_if f p)))) at.1 whole)
      | inr nt ↦ elim (eqb_tells f place) [
        | inl at ↦ (
            let other = get_or-set_other left t f (point_of values t +ℤ k) (pos 0) apart in
            let here = get_or-set_same values f (point_of values f -ℤ k) (pos 0) (omega (arith, m.places, m.from_exists)) in
            let one = one_if-one f in
            let none = one_if-ne t f (λ e. apart (sym e)) in
            let change : (one_if t f -ℤ one_if f f) ≡ negsuc 0 = omega (arith, ints) in
            let whole : point_of (moved_values a from to k values) f ≡ (point_of values f +ℤ (k *ℤ (one_if t f -ℤ one_if f f))) = omega
            (arith, ints, other, here, ap (λ z. k *ℤ z) change, times_minus_one k) in
            subst (λ p. point_of (moved_values a from to k values) p ≡ (point_of values p +ℤ (k *ℤ (one_if t p -ℤ one_if f p)))) at.1 whole)
        | inr nf ↦ (
            let other = get_or-set_other left t place (point_of values t +ℤ k) (pos 0) (λ e. nt.1 (sym e)) in
            let same = get_or-set_other values f place (point_of values f -ℤ k) (pos 0) (λ e. nf.1 (sym e)) in
            let no_to = one_if-ne t place nt.1 in
            let no_from = one_if-ne f place nf.1 in
            let change : (one_if t place -ℤ one_if f place) ≡ pos 0 = omega (arith, ints) in
            omega (arith, ints, other, same, ap (λ z. k *ℤ z) change, *ℤ-zero k))
      ]
    ]

pub value_fits : (z : ℤ) → Value z → FitsSigned w128 z
value_fits z v = fits_signed_from_abs w128 z v.fits

pub may_move : (a : Automaton) (rule : Rule) (k : ℤ) (values : List ℤ) → rule.from ≢ rule.to → Within a rule → pos 1 ≤ℤ k → length values ≡ places_of a
    → AllByRecursion Value values → Enough a rule k values → InRange (sum_of (counters_of a values)) → MayMove a rule.from rule.to k values
may_move a rule k values apart w some places natural enough fits = record {
  apart = apart;
  from_exists = w.from;
  to_exists = w.to;
  some = some;
  enough = elim (eqb_tells rule.from rule.to) [ inl same ↦ absurd (apart same.1) | inr ne ↦ rw ne.0 at enough ];
  places = places;
  natural = natural;
  fits = fits;
}

pub from_value : (a : Automaton) (from to : ℕ) (k : ℤ) (values : List ℤ) → MayMove a from to k values → Value (point_of values (location_place a from))
from_value a from to k values m = value_there a values from m.places m.natural m.from_exists

pub to_value : (a : Automaton) (from to : ℕ) (k : ℤ) (values : List ℤ) → MayMove a from to k values → Value (point_of values (location_place a to))
to_value a from to k values m = value_there a values to m.places m.natural m.to_exists
