use Rattle.ta_counter.proofs.Common.{◌≡◌, ◌≤◌, ◌<◌, rules, arith, ℕ, ℤ, pos, ◌+◌, List, length, ap, refl, subst, get_or, slice_get, Some, FitsSigned, to_z-of_z}
use Rattle.ta_counter.proofs.Common.{slice_get-get_or, w128, Value, each_get_or}
use Rattle.ta_counter.proofs.Moving.{value_fits}
use Rattle.ta_counter.proofs.Updating.{update_start, update_next, update_leaves, update_place, update_all, update_end}
use Rattle.ta_counter.proofs.updates.add_updates.Goals as goal

pub loop-variable-init : goal.loop-variable-init
loop-variable-init c =
    let times : FitsSigned w128 c.args.times = c.ranges.times in
    simp to_z-of_z (update_start c.args.automaton.now c.args.rule.now c.args.times c.args.values.now c.requires.places c.requires.natural)

pub loop-variable-preserved : goal.loop-variable-preserved
loop-variable-preserved c =
    let a = c.args.automaton.now in
    let rule = c.args.rule.now in
    let i = c.loop-variable.variable-index in
    let u = get_or c.as_slice-variable-items.result.now i (0, pos 0) in
    let at : slice_get rule.updates i ≡ Some u = subst (λ (ts : List (ℕ × ℤ)). slice_get ts i ≡ Some u) c.as_slice-variable-items.ensures
    (slice_get-get_or c.as_slice-variable-items.result.now i (0, pos 0) c.loop-variable-test.true) in
    let times : FitsSigned w128 c.args.times = c.ranges.times in
    let amount : FitsSigned w128 u.1 = search rules in
    let inv = simp to_z-of_z at c.loop-variable.invariant in
    let count = ap (λ (xs : List (List ℕ)). length xs) c.as_slice.ensures in
    let place = length c.as_slice.result.now + u.0 in
    let here : place ≡ length a.parameters + u.0 = omega arith in
    let exists = update_place a rule i u c.requires.within at in
    let within : place < length c.loop-variable.values = omega (arith, inv.places) in
    let number : FitsSigned w128 (get_or c.loop-variable.values place (pos 0)) = value_fits (get_or c.loop-variable.values place (pos 0))
    (each_get_or Value c.loop-variable.values place (pos 0) inv.natural within) in
    let sum : FitsSigned w128 c.in-Some.sum = search rules in
    let told = simp to_z-of_z at c.in-Some.ensures in
    simp to_z-of_z (update_next a rule c.args.times c.args.values.now c.loop-variable.values i place u c.in-Some.sum c.requires.within c.requires.times inv at
    here (told.0).0 (told.0).1 told.1)

pub returns-in_default-clause-leaves : goal.returns-in_default-clause-leaves
returns-in_default-clause-leaves c =
    let a = c.args.automaton.now in
    let rule = c.args.rule.now in
    let i = c.loop-variable.variable-index in
    let u = get_or c.as_slice-variable-items.result.now i (0, pos 0) in
    let at : slice_get rule.updates i ≡ Some u = subst (λ (ts : List (ℕ × ℤ)). slice_get ts i ≡ Some u) c.as_slice-variable-items.ensures
    (slice_get-get_or c.as_slice-variable-items.result.now i (0, pos 0) c.loop-variable-test.true) in
    let times : FitsSigned w128 c.args.times = c.ranges.times in
    let amount : FitsSigned w128 u.1 = search rules in
    let inv = simp to_z-of_z at c.loop-variable.invariant in
    let count = ap (λ (xs : List (List ℕ)). length xs) c.as_slice.ensures in
    let place = length c.as_slice.result.now + u.0 in
    let here : place ≡ length a.parameters + u.0 = omega arith in
    let exists = update_place a rule i u c.requires.within at in
    let within : place < length c.loop-variable.values = omega (arith, inv.places) in
    let number : FitsSigned w128 (get_or c.loop-variable.values place (pos 0)) = value_fits (get_or c.loop-variable.values place (pos 0))
    (each_get_or Value c.loop-variable.values place (pos 0) inv.natural within) in (
      place,
      refl,
      update_leaves a rule c.args.times c.args.values.now c.loop-variable.values i place u c.requires.within inv at here
          (simp to_z-of_z at c.in_default.ensures),
    )

pub returns-clause-grow : goal.returns-clause-grow
returns-clause-grow c =
    let times : FitsSigned w128 c.args.times = c.ranges.times in
    let inv = simp to_z-of_z at c.loop-variable.invariant in
    let count = ap (λ (xs : List (ℕ × ℤ)). length xs) c.as_slice-variable-items.ensures in
    let past : length c.args.rule.now.updates ≤ c.loop-variable.variable-index = (let t = c.loop-variable-test.false in omega arith) in
    update_all c.args.automaton.now c.args.rule.now c.args.times c.args.values.now c.loop-variable.values c.loop-variable.variable-index inv past

pub returns-clause-shifted : goal.returns-clause-shifted
returns-clause-shifted c =
    let times : FitsSigned w128 c.args.times = c.ranges.times in
    let inv = simp to_z-of_z at c.loop-variable.invariant in
    let count = ap (λ (xs : List (ℕ × ℤ)). length xs) c.as_slice-variable-items.ensures in
    let past : length c.args.rule.now.updates ≤ c.loop-variable.variable-index = (let t = c.loop-variable-test.false in omega arith) in
    update_end c.args.automaton.now c.args.rule.now c.args.times c.args.values.now c.loop-variable.values c.loop-variable.variable-index inv past
