use Rattle.ta_encode.proofs.Common.{◌≡◌, ℕ, List, length, reverse, take, ap, arith, sym, ◌∙◌, subst, take-length, reverse_more, Element, IsDraft, IsDraftOf}
use Rattle.ta_encode.proofs.Common.{Mark, length-append}
use Rattle.ta_encode.proofs.Adding.{behind_join}
use Rattle.ta_encode.proofs.Marking.{marks_push}
use Rattle.ta_encode.proofs.growing.push_from.Goals as goal

pub loop-number-preserved : goal.loop-number-preserved
loop-number-preserved c =
    let inv = c.loop-number.invariant in
    let o = c.args.origin.now in
    let a = o.task.automaton.now in
    let p = o.task.pattern.now in
    let xs = c.args.elements.now in
    let before = c.loop-number.draft in
    let after = c.push_element.new.self in
    let marks = c.loop-number.marks.items in
    let number = c.loop-number.number in
    let items = c.in_ok-push.ensures.items in
    let long = ap (λ (ms : List Mark). length ms) items ∙ length-append marks _ in
    let count = inv.marked in
    let step = c.in_ok-push_element.ensures in
    let drafted = subst (λ (w : List Element). IsDraft o w after) (sym (reverse_more xs number _ c.loop-number-test.true)) step.drafted in
    record {
      marked = omega arith;
      within = (let inside = c.loop-number-test.true in omega arith);
      marks = marks_push a p o.start_mask xs before.meanings.items after.meanings.items before.rows.items after.rows.items marks c.push.new.self.items
          c.mark_of.result inv.marks step.unknowns step.rows items c.mark_of.ensures.unknowns c.mark_of.ensures.rows
          (subst (λ (i : ℕ). IsDraftOf a p o.start_mask (reverse (take i xs)) after.meanings.items after.rows.items) (sym count) drafted.is);
      drafted = drafted;
      rows = behind_join c.args.draft.now.rows.items before.rows.items after.rows.items inv.rows step.rows;
    }

pub returns-clause-drafted : goal.returns-clause-drafted
returns-clause-drafted c =
    let inv = c.loop-number.invariant in
    let low = c.loop-number-test.false in
    let high = inv.within in
    let end : c.loop-number.number ≡ length c.args.elements.now = omega arith in
    subst (λ (w : List Element). IsDraft c.args.origin.now (reverse w) c.loop-number.draft)
    (ap (λ (n : ℕ). take n c.args.elements.now) end ∙ take-length c.args.elements.now) inv.drafted
