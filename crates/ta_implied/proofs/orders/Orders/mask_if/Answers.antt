use Rattle.ta_implied.proofs.Common.{◌≡◌, ◌∙◌, true, false, sym, subst, false≢true, has_bit, has_none}
use Rattle.ta_implied.proofs.orders.Orders.mask_if.Goals as goal

pub returns-then-contains : goal.returns-then-contains
returns-then-contains c j =
    let in_set : has_bit c.args.set c.args.guard ≡ true = subst (λ s. has_bit s c.args.guard ≡ true) c.from.ensures
    (sym c.contains.ensures.bit ∙ c.if-contains.true) in
    (λ h. (in_set, (c.mask.ensures j).0 h), λ h. (c.mask.ensures j).1 h.1)

pub returns-else-contains : goal.returns-else-contains
returns-else-contains c j =
    let not_in : has_bit c.args.set c.args.guard ≡ false = subst (λ s. has_bit s c.args.guard ≡ false) c.from.ensures
    (sym c.contains.ensures.bit ∙ c.if-contains.false) in
    (λ h. absurd (false≢true (sym (has_none j) ∙ h)), λ h. absurd (false≢true (sym not_in ∙ h.0)))
