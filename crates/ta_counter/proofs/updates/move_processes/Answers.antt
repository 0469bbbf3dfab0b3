use Rattle.ta_counter.proofs.Common.{pos, ◌+ℤ◌, ◌-ℤ◌, get_or, FitsSigned, to_z-of_z, w128, location_place}
use Rattle.ta_counter.proofs.Moving.{may_move, value_fits, from_value, to_value, left_value, right_value, moved_at, moved_natural, moved_sum}
use Rattle.ta_counter.proofs.updates.move_processes.Goals as goal

pub overflow_sub-left : goal.overflow_sub-left
overflow_sub-left c =
    let a = c.args.automaton.now in
    let rule = c.args.rule.now in
    let k : FitsSigned w128 c.args.factor = c.ranges.factor in
    let m = may_move a rule c.args.factor c.args.values.now c.if-rule.true c.requires.within c.requires.factor c.requires.places c.requires.natural
    c.requires.enough c.requires.fits in
    let here : FitsSigned w128 (get_or c.args.values.now c.place_of-from.result (pos 0)) = rw c.place_of-from.ensures
    (value_fits (get_or c.args.values.now (location_place a rule.from) (pos 0)) (from_value a rule.from rule.to c.args.factor c.args.values.now m)) in
    simp to_z-of_z (rw c.place_of-from.ensures
    (value_fits (get_or c.args.values.now (location_place a rule.from) (pos 0) -ℤ c.args.factor)
    (left_value a rule.from rule.to c.args.factor c.args.values.now m)))

pub overflow_add-arrived : goal.overflow_add-arrived
overflow_add-arrived c =
    let a = c.args.automaton.now in
    let rule = c.args.rule.now in
    let k : FitsSigned w128 c.args.factor = c.ranges.factor in
    let m = may_move a rule c.args.factor c.args.values.now c.if-rule.true c.requires.within c.requires.factor c.requires.places c.requires.natural
    c.requires.enough c.requires.fits in
    let there : FitsSigned w128 (get_or c.args.values.now c.place_of-to.result (pos 0)) = rw c.place_of-to.ensures
    (value_fits (get_or c.args.values.now (location_place a rule.to) (pos 0)) (to_value a rule.from rule.to c.args.factor c.args.values.now m)) in
    simp to_z-of_z (rw c.place_of-to.ensures
    (value_fits (get_or c.args.values.now (location_place a rule.to) (pos 0) +ℤ c.args.factor)
    (right_value a rule.from rule.to c.args.factor c.args.values.now m)))

pub returns-then-rule : goal.returns-then-rule
returns-then-rule c =
    let a = c.args.automaton.now in
    let rule = c.args.rule.now in
    let k : FitsSigned w128 c.args.factor = c.ranges.factor in
    let m = may_move a rule c.args.factor c.args.values.now c.if-rule.true c.requires.within c.requires.factor c.requires.places c.requires.natural
    c.requires.enough c.requires.fits in
    let here : FitsSigned w128 (get_or c.args.values.now c.place_of-from.result (pos 0)) = rw c.place_of-from.ensures
    (value_fits (get_or c.args.values.now (location_place a rule.from) (pos 0)) (from_value a rule.from rule.to c.args.factor c.args.values.now m)) in
    let there : FitsSigned w128 (get_or c.args.values.now c.place_of-to.result (pos 0)) = rw c.place_of-to.ensures
    (value_fits (get_or c.args.values.now (location_place a rule.to) (pos 0)) (to_value a rule.from rule.to c.args.factor c.args.values.now m)) in
    let left : FitsSigned w128 (get_or c.args.values.now c.place_of-from.result (pos 0) -ℤ c.args.factor) = rw c.place_of-from.ensures
    (value_fits (get_or c.args.values.now (location_place a rule.from) (pos 0) -ℤ c.args.factor)
    (left_value a rule.from rule.to c.args.factor c.args.values.now m)) in
    let arrived : FitsSigned w128 (get_or c.args.values.now c.place_of-to.result (pos 0) +ℤ c.args.factor) = rw c.place_of-to.ensures
    (value_fits (get_or c.args.values.now (location_place a rule.to) (pos 0) +ℤ c.args.factor)
    (right_value a rule.from rule.to c.args.factor c.args.values.now m)) in
    record {
      moved = simp to_z-of_z (rw (c.place_of-from.ensures, c.place_of-to.ensures) (moved_at a rule.from rule.to c.args.factor c.args.values.now m));
      natural = simp to_z-of_z (rw (c.place_of-from.ensures, c.place_of-to.ensures) (moved_natural a rule.from rule.to c.args.factor c.args.values.now m));
      sum = simp to_z-of_z (rw (c.place_of-from.ensures, c.place_of-to.ensures) (moved_sum a rule.from rule.to c.args.factor c.args.values.now m));
    }
