use Rattle.ta_counter.proofs.Common.{◌≡◌, rules, arith, ℕ, ℤ, pos, ◌+◌, ◌<◌, List, length, ap, refl, subst, get_or, slice_get, Some, FitsSigned, to_z-of_z}
use Rattle.ta_counter.proofs.Common.{length-set, slice_get-get_or, w128, location_place, Value, Filling, each_get_or}
use Rattle.ta_counter.proofs.Filling.{fill_next, location_exists}
use Rattle.ta_counter.proofs.start.fill_counts.Goals as goal

pub bounds-values-first : goal.bounds-values-first
bounds-values-first c =
    let a = c.args.automaton.now in
    let l = get_or c.as_slice-location-items.result.now c.loop-number.number 0 in
    let at : slice_get a.initial c.loop-number.number ≡ Some l = subst (λ (zs : List ℕ). slice_get zs c.loop-number.number ≡ Some l)
    c.as_slice-location-items.ensures (slice_get-get_or c.as_slice-location-items.result.now c.loop-number.number 0 c.loop-number-test.true) in
    let exists = location_exists a c.loop-number.number l at in
    let parameters = ap (λ (xs : List (List ℕ)). length xs) c.as_slice.ensures in
    let shared = ap (λ (xs : List (List ℕ)). length xs) c.as_slice-2.ensures in
    omega (arith, c.loop-number.invariant.places)

pub loop-number-preserved : goal.loop-number-preserved
loop-number-preserved c =
    let a = c.args.automaton.now in
    let l = get_or c.as_slice-location-items.result.now c.loop-number.number 0 in
    let at : slice_get a.initial c.loop-number.number ≡ Some l = subst (λ (zs : List ℕ). slice_get zs c.loop-number.number ≡ Some l)
    c.as_slice-location-items.ensures (slice_get-get_or c.as_slice-location-items.result.now c.loop-number.number 0 c.loop-number-test.true) in
    let parameters = ap (λ (xs : List (List ℕ)). length xs) c.as_slice.ensures in
    let shared = ap (λ (xs : List (List ℕ)). length xs) c.as_slice-2.ensures in
    let initial = ap (λ (xs : List ℕ). length xs) c.as_slice-location-items.ensures in
    let within : c.loop-number.number < length c.args.counts.now = (let t = c.loop-number-test.true in let n = c.requires.counts in omega arith) in
    let fits : FitsSigned w128 (get_or c.args.counts.now c.loop-number.number (pos 0)) = search rules in
    let at_place : length c.as_slice.result.now + length c.as_slice-2.result.now + l ≡ location_place a l = omega arith in
    record {
      places = omega (arith, c.loop-number.invariant.places, length-set {A = ℤ});
      filling = λ parameters h. simp to_z-of_z
          (fill_next a parameters c.args.counts.now c.loop-number.values c.loop-number.number l
          (length c.as_slice.result.now + length c.as_slice-2.result.now + l) (get_or c.args.counts.now c.loop-number.number (pos 0))
          (c.loop-number.invariant.filling parameters h) at at_place refl
          (each_get_or Value c.args.counts.now c.loop-number.number (pos 0) c.requires.counts_natural within));
    }

pub returns : goal.returns
returns c =
    let a = c.args.automaton.now in
    let initial = ap (λ (xs : List ℕ). length xs) c.as_slice-location-items.ensures in
    let end : c.loop-number.number ≡ length a.initial = (let past = c.loop-number-test.false in omega arith) in
    λ parameters h. subst (λ n. Filling a parameters c.args.counts.now c.loop-number.values n) end (c.loop-number.invariant.filling parameters h)
