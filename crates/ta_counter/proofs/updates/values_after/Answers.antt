use Rattle.ta_counter.proofs.Common.{◌≡◌, ℕ, ℤ, pos, ◌-ℤ◌, List, length, drop, ap, ◌∙◌, sym, subst, FitsSigned, to_z-of_z, err_is, w128, fun_ext, refill}
use Rattle.ta_counter.proofs.Common.{less_fits, front_back, twice_back, InRange, point_of, sum_of, AllGrow, Enough, UpdateOutOfRange, shifted, before_last}
use Rattle.ta_counter.proofs.Stepping.{no_leave, updates_fail, guards_fail, enough_after, counters_after, taken, of_after}
use Rattle.ta_counter.proofs.updates.values_after.Goals as goal
use Rattle.ta_counter.proofs.updates.values_after.Goals.{After-as_mut_slice, After-as_mut_slice-2, After-as_mut_slice-3, After-as_slice, In_ok-add_updates}

-- both copies are of the values, of which there are enough
old : (c : After-as_mut_slice) → c.as_mut_slice.result.now ≡ c.args.values.now
old c = c.as_mut_slice.ensures.value ∙ c.copy_of-after.ensures

also : (c : After-as_mut_slice-2) → c.as_mut_slice-2.result.now ≡ c.args.values.now
also c = c.as_mut_slice-2.ensures.value ∙ c.copy_of-before_last.ensures

many_enough : (c : After-as_mut_slice) → Enough c.args.automaton.now c.args.rule.now c.args.factor c.args.values.now
many_enough c =
    let factor : FitsSigned w128 c.args.factor = c.ranges.factor in
    let test = simp to_z-of_z at c.has_enough.ensures in
    test.0 c.if-not-has_enough.false

-- the updates are in range
all_grow : (c : In_ok-add_updates) → c.as_mut_slice.result.now ≡ c.args.values.now
    → AllGrow c.args.automaton.now c.args.rule.now c.args.factor c.args.values.now
all_grow c same =
    let factor : FitsSigned w128 c.args.factor = c.ranges.factor in
    let told = simp to_z-of_z at c.in_ok-add_updates.ensures.grow in
    subst (AllGrow c.args.automaton.now c.args.rule.now c.args.factor) same told

-- the values before the last firing
last_before : (c : After-as_slice) → c.as_mut_slice-2.result.now ≡ c.args.values.now
    → point_of c.as_slice.result.now ≡ before_last c.args.automaton.now c.args.rule.now c.args.factor c.args.values.now
last_before c same =
    let factor : FitsSigned w128 c.args.factor = c.ranges.factor in
    let less : FitsSigned w128 (c.args.factor -ℤ pos 1) = less_fits c.args.factor c.requires.factor factor in
    let count = c.add_updates-2.auto.values ∙ ap (λ (xs : List ℤ). length xs) c.as_mut_slice-2.ensures.value in
    let whole = c.as_slice.ensures.value ∙ front_back c.copy_of-before_last.result.items c.add_updates-2.new.values count in
    let shift = simp to_z-of_z at c.in_ok-add_updates-2.ensures.shifted in
    ap point_of whole ∙ fun_ext shift ∙ ap (shifted c.args.automaton.now c.args.rule.now (c.args.factor -ℤ pos 1)) same

-- the values before processes move
counted : (c : After-as_mut_slice-3) → length c.add_updates.new.values ≡ length c.copy_of-after.result.items
counted c = c.add_updates.auto.values ∙ ap (λ (xs : List ℤ). length xs) c.as_mut_slice.ensures.value

whole : (c : After-as_mut_slice-3) → c.as_mut_slice-3.result.now ≡ c.add_updates.new.values
whole c = c.as_mut_slice-3.ensures.value ∙ front_back c.copy_of-after.result.items c.add_updates.new.values (counted c)

all_counted : (c : After-as_mut_slice-3) → length c.as_mut_slice-3.result.now ≡ length c.args.values.now
all_counted c = ap (λ (xs : List ℤ). length xs) (whole c) ∙ counted c ∙ ap (λ (xs : List ℤ). length xs) c.copy_of-after.ensures

middle : (c : After-as_mut_slice-3) → c.as_mut_slice.result.now ≡ c.args.values.now → (place : ℕ)
    → point_of c.as_mut_slice-3.result.now place ≡ shifted c.args.automaton.now c.args.rule.now c.args.factor c.args.values.now place
middle c same place =
    let factor : FitsSigned w128 c.args.factor = c.ranges.factor in
    let shift = simp to_z-of_z at c.in_ok-add_updates.ensures.shifted in
    ap (λ vs. point_of vs place) (whole c) ∙ shift place ∙ ap (λ vs. shifted c.args.automaton.now c.args.rule.now c.args.factor vs place) same

pub returns-in_err-add_updates-clause-fails : goal.returns-in_err-add_updates-clause-fails
returns-in_err-add_updates-clause-fails c =
    let a = c.args.automaton.now in
    let rule = c.args.rule.now in
    let at = (goal.at.returns-in_err-add_updates-clause-fails c).After-as_mut_slice in
    let factor : FitsSigned w128 c.args.factor = c.ranges.factor in
    let leaves = simp to_z-of_z at c.in_err-add_updates.ensures.leaves in
    rw (err_is c.from_residual.result _ c.from_residual.ensures.1)
    (updates_fail a rule c.args.factor c.args.values.now _ (many_enough at)
    (leaves.0, leaves.1, subst (λ vs. UpdateOutOfRange a rule c.args.factor vs leaves.0) (old at) leaves.2))

pub returns-in_err-add_updates-2-clause-fails : goal.returns-in_err-add_updates-2-clause-fails
returns-in_err-add_updates-2-clause-fails c =
    let a = c.args.automaton.now in
    let rule = c.args.rule.now in
    let at = goal.at.returns-in_err-add_updates-2-clause-fails c in
    let factor : FitsSigned w128 c.args.factor = c.ranges.factor in
    let less : FitsSigned w128 (c.args.factor -ℤ pos 1) = less_fits c.args.factor c.requires.factor factor in
    let grow = all_grow at.In_ok-add_updates (old at.After-as_mut_slice) in
    let leaves = simp to_z-of_z at c.in_err-add_updates-2.ensures.leaves in
    absurd (no_leave a rule c.args.factor c.args.values.now leaves.0 c.requires.within c.requires.factor c.requires.is_of.places c.requires.natural grow
    (subst (λ vs. UpdateOutOfRange a rule (c.args.factor -ℤ pos 1) vs leaves.0) (also at.After-as_mut_slice-2) leaves.2))

pub returns-in_err-check_guards-clause-fails : goal.returns-in_err-check_guards-clause-fails
returns-in_err-check_guards-clause-fails c =
    let at = goal.at.returns-in_err-check_guards-clause-fails c in
    let grow = all_grow at.In_ok-add_updates (old at.After-as_mut_slice) in
    let last = last_before at.After-as_slice (also at.After-as_mut_slice-2) in
    rw (err_is c.from_residual-in_err-check_guards.result _ c.from_residual-in_err-check_guards.ensures.1)
    (guards_fail c.args.automaton.now c.args.rule.now c.args.factor c.args.values.now (point_of c.as_slice.result.now) _ (many_enough at.After-as_mut_slice)
    grow last c.in_err-check_guards.ensures.fails)

pub move_processes-requires-clause-enough : goal.move_processes-requires-clause-enough
move_processes-requires-clause-enough c =
    let at = goal.at.move_processes-requires-clause-enough c in
    let factor : FitsSigned w128 c.args.factor = c.ranges.factor in
    let before = middle at.After-as_mut_slice-3 (old at.After-as_mut_slice) in
    simp to_z-of_z (enough_after c.args.automaton.now c.args.rule.now c.args.factor c.args.values.now c.as_mut_slice-3.result.now before
    (many_enough at.After-as_mut_slice))

pub move_processes-requires-clause-fits : goal.move_processes-requires-clause-fits
move_processes-requires-clause-fits c =
    let at = goal.at.move_processes-requires-clause-fits c in
    let before = middle at.After-as_mut_slice-3 (old at.After-as_mut_slice) in
    let same = counters_after c.args.automaton.now c.args.rule.now c.args.factor c.args.values.now c.as_mut_slice-3.result.now
    (all_counted at.After-as_mut_slice-3) before in
    subst (λ cs. InRange (sum_of cs)) (sym same) c.requires.is_of.fits

pub returns-clause-ok : goal.returns-clause-ok
returns-clause-ok c =
    let a = c.args.automaton.now in
    let rule = c.args.rule.now in
    let at = goal.at.returns-clause-ok c in
    let factor : FitsSigned w128 c.args.factor = c.ranges.factor in
    let grow = all_grow at.In_ok-add_updates (old at.After-as_mut_slice) in
    let last = last_before at.After-as_slice (also at.After-as_mut_slice-2) in
    let before = middle at.After-as_mut_slice-3 (old at.After-as_mut_slice) in
    let moved = simp to_z-of_z at c.move_processes.ensures.moved in
    let also_count = c.move_processes.auto.values ∙ ap (λ (xs : List ℤ). length xs) (whole at.After-as_mut_slice-3) ∙ counted at.After-as_mut_slice-3 in
    let many : length c.move_processes.new.values ≡ length c.args.values.now = also_count ∙ ap (λ (xs : List ℤ). length xs) c.copy_of-after.ensures in
    rw (twice_back c.copy_of-after.result.items c.add_updates.new.values c.move_processes.new.values _ (counted at.After-as_mut_slice-3) also_count)
    (taken a rule c.args.factor c.args.values.now c.as_mut_slice-3.result.now c.move_processes.new.values (point_of c.as_slice.result.now)
    (many_enough at.After-as_mut_slice) grow last (c.in_ok-check_guards.ensures.rise, c.in_ok-check_guards.ensures.fall) many before moved)

pub returns-clause-is_of : goal.returns-clause-is_of
returns-clause-is_of c =
    let a = c.args.automaton.now in
    let rule = c.args.rule.now in
    let at = goal.at.returns-clause-is_of c in
    let factor : FitsSigned w128 c.args.factor = c.ranges.factor in
    let before = middle at.After-as_mut_slice-3 (old at.After-as_mut_slice) in
    let also_count = c.move_processes.auto.values ∙ ap (λ (xs : List ℤ). length xs) (whole at.After-as_mut_slice-3) ∙ counted at.After-as_mut_slice-3 in
    let rest = drop (length c.move_processes.new.values) (refill (length c.copy_of-after.result.items) c.copy_of-after.result.items c.add_updates.new.values) in
    let back = twice_back c.copy_of-after.result.items c.add_updates.new.values c.move_processes.new.values rest (counted at.After-as_mut_slice-3) also_count in
    let t = rw back at (returns-clause-ok c) in
    let sum = c.move_processes.ensures.sum ∙ ap sum_of
    (counters_after a rule c.args.factor c.args.values.now c.as_mut_slice-3.result.now (all_counted at.After-as_mut_slice-3) before) in
    rw back (of_after a rule c.args.factor c.args.values.now c.move_processes.new.values c.requires.is_of t sum)
