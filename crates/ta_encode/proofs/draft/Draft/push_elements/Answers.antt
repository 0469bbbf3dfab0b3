use Rattle.ta_encode.proofs.Common.{◌≡◌, List, length, reverse, take, arith, sym, ap, ◌∙◌, subst, take-length, reverse_more, Element, IsDraft}
use Rattle.ta_encode.proofs.draft.Draft.push_elements.Goals as goal

pub loop-number-preserved : goal.loop-number-preserved
loop-number-preserved c = subst (λ (w : List Element). IsDraft c.args.origin.now w c.push_element.new.self)
    (sym (reverse_more c.args.elements.now c.loop-number.number _ c.loop-number-test.true)) c.in_ok-push_element.ensures.drafted

pub returns : goal.returns
returns c =
    let end : c.loop-number.number ≡ length c.args.elements.now =
    (let low = c.loop-number-test.false in let high = c.loop-number.auto.number-end in omega arith) in
    subst (λ (w : List Element). IsDraft c.args.origin.now (reverse w) c.loop-number.self)
    (ap (λ n. take n c.args.elements.now) end ∙ take-length c.args.elements.now) c.loop-number.invariant
