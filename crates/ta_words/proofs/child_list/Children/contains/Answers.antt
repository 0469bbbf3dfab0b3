use Rattle.ta_words.proofs.Common.{◌≡◌, refl, sym, subst, ◌∙◌, length, arith, false≢true, In, in_get_or, not_listed, not_yet}
use Rattle.ta_words.proofs.child_list.Children.contains.Goals as goal

pub returns-then-is : goal.returns-then-is
returns-then-is c =
    let same = c.is.ensures.0 c.if-is.true in
    let here = in_get_or c.elements-child-items.result.now c.loop-child.child-index _ c.loop-child-test.true in
    ((λ _. subst (In c.args.element) c.elements-child-items.ensures (subst (λ x. In x c.elements-child-items.result.now) same here)), λ _. refl)

pub loop-child-preserved : goal.loop-child-preserved
loop-child-preserved c = not_yet c.args.element c.elements-child-items.result.now c.loop-child.child-index _ c.loop-child-test.true c.loop-child.invariant
    (λ e. false≢true (sym c.if-is.false ∙ c.is.ensures.1 e))

pub returns : goal.returns
returns c =
    let end : c.loop-child.child-index ≡ length c.elements-child-items.result.now =
    (let low = c.loop-child-test.false in let high = c.loop-child.auto.child-index-end in omega arith) in (
      (λ h. absurd (false≢true h)),
      λ h. absurd
          (not_listed c.args.element c.elements-child-items.result.now c.loop-child.child-index end c.loop-child.invariant
          (subst (In c.args.element) (sym c.elements-child-items.ensures) h)),
    )
