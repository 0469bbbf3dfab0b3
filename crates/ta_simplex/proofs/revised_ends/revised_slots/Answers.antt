use Rattle.ta_simplex.proofs.Common.{◌≡◌, ◌<◌, ◌+◌, length, pos, neg_ℤ, ◌-ℤ◌, arith, rules, sym, ap, ◌∙◌, subst, to_z-of_z, with_items_is, SFits, w128}
use Rattle.ta_simplex.proofs.Common.{zero_minus, InRange, replicate, length-replicate, w16, minus_fits, narrow_view}
use Rattle.ta_simplex.proofs.SlotLemmas.{Filled, length-put}
use Rattle.ta_simplex.proofs.RevisedSlots.{slots_first, slots_next, slots_last}
use Rattle.ta_simplex.proofs.revised_ends.revised_slots.Goals as goal

pub loop-column-init : goal.loop-column-init
loop-column-init c =
    let s = c.args.system.now in
    let r = narrow_view c.args.chosen.now in
    let fd : SFits w16 c.args.chosen.now.denominator = search rules in
    let fe : SFits w128 c.args.chosen.now.denominator = search rules in
    let told = simp to_z-of_z at c.put_slack.ensures in
    let empty : c.in_ok-multipliers.multipliers.items ≡ replicate (length s.rows) (pos 0) = search rules in
    let is = with_items_is c.in_ok-multipliers.multipliers c.put_slack.new.multipliers
    (c.put_slack.auto.multipliers ∙ ap length c.deref_mut.ensures.value ∙ search rules) ∙ (rw c.deref_mut.ensures.value at told) in
    record {
      long = ap length is ∙ length-put s.unknowns c.in_ok-multipliers.multipliers.items _ _ ∙ ap length empty ∙ length-replicate (length s.rows) (pos 0);
      filled = λ t row stuck. subst (Filled s.unknowns (length s.rows) t row 0) (sym is)
          (slots_first s c.args.dictionary.now t r row c.args.chosen.now.bound c.in_ok-multipliers.multipliers.items stuck c.requires.narrow.bounded
          c.requires.narrow.fits empty);
    }

pub loop-column-preserved : goal.loop-column-preserved
loop-column-preserved c =
    let s = c.args.system.now in
    let d = c.args.dictionary.now in
    let r = narrow_view c.args.chosen.now in
    let column = c.loop-column.column in
    let fa : SFits w16 c.at.result = search rules in
    let fb : SFits w128 c.at.result = search rules in
    let range : InRange c.at.result = search rules in
    let fm : SFits w128 (pos 0 -ℤ c.at.result) = minus_fits w128 c.at.result range in
    let told = simp to_z-of_z at c.put_slack-in-loop-column.ensures in
    let value = zero_minus c.at.result ∙ ap neg_ℤ c.at.ensures in
    let inside : c.loop-column.column < length c.args.dictionary.now.non_basic =
    (let e = ap length c.non_basic_variables-non_basic.ensures.value in let b = c.loop-column-test.true in omega arith) in
    let is = with_items_is c.loop-column.multipliers c.put_slack-in-loop-column.new.multipliers
    (c.put_slack-in-loop-column.auto.multipliers ∙ ap length c.deref_mut-in-loop-column.ensures.value ∙ search rules)
    ∙ (rw (value, c.deref_mut-in-loop-column.ensures.value, c.non_basic_variables-non_basic.ensures.value) at told) in
    record {
      long = ap length is ∙ length-put s.unknowns c.loop-column.multipliers.items _ _ ∙ c.loop-column.invariant.long;
      filled = λ t row stuck. subst (Filled s.unknowns (length s.rows) t row (column + 1)) (sym is)
          (slots_next s d t r row c.args.chosen.now.bound column c.loop-column.multipliers.items stuck c.requires.narrow.bounded c.requires.narrow.fits
          c.requires.narrow.proper.long inside (c.loop-column.invariant.filled t row stuck));
    }

pub returns-clause-fills : goal.returns-clause-fills
returns-clause-fills c = λ t row stuck.
    slots_last c.args.system.now c.args.dictionary.now t (narrow_view c.args.chosen.now) row c.loop-column.column c.loop-column.multipliers.items stuck
    (let e = ap length c.non_basic_variables-non_basic.ensures.value in let b = c.loop-column-test.false in omega arith)
    (c.loop-column.invariant.filled t row stuck)
