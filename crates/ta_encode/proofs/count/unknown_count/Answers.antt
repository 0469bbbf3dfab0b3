use Rattle.ta_encode.proofs.Common.{refl, ◌≡◌, ◌+◌, ◌<◌, ◌^◌, List, length, reverse, take, arith, sym, ap, ◌∙◌, take-length, length-reverse, length-take-le}
use Rattle.ta_encode.proofs.Common.{reverse_more, Element, meanings}
use Rattle.ta_encode.proofs.Drafts.{meanings_few, word_few}
use Rattle.ta_encode.proofs.count.unknown_count.Goals as goal

pub loop-number-init : goal.loop-number-init
unfolding meanings
loop-number-init c = c.start_count-count.ensures.value

pub overflow_add-count : goal.overflow_add-count
overflow_add-count c =
    let items = c.args.elements.now in
    let short = word_few c.args.task c.args.start_mask items items c.requires refl in
    let below = c.loop-number-test.true in
    let part = take c.loop-number.number items in
    let taken = length-take-le c.loop-number.number items (omega arith) in
    let back = length-reverse part in
    let few = meanings_few c.args.task.automaton.now c.args.task.pattern.now c.args.start_mask (reverse part) in
    let is = c.loop-number.invariant in
    let more = c.element_count-count.ensures.few in
    let small : c.loop-number.count + c.element_count-count.result < 2 ^ 32 = omega arith in
    record { fits = small }

pub loop-number-preserved : goal.loop-number-preserved
loop-number-preserved c =
    let items = c.args.elements.now in
    ap (λ n. n + c.element_count-count.result) c.loop-number.invariant ∙ sym c.element_count-count.ensures.value
    ∙ ap (λ (w : List Element). length (meanings c.args.task.automaton.now c.args.task.pattern.now c.args.start_mask w))
    (sym (reverse_more items c.loop-number.number _ c.loop-number-test.true))

pub returns : goal.returns
returns c =
    let items = c.args.elements.now in
    let end : c.loop-number.number ≡ length items = (let low = c.loop-number-test.false in let high = c.loop-number.auto.number-end in omega arith) in
    c.loop-number.invariant ∙ ap (λ (w : List Element). length (meanings c.args.task.automaton.now c.args.task.pattern.now c.args.start_mask (reverse w)))
    (ap (λ n. take n items) end ∙ take-length items)
