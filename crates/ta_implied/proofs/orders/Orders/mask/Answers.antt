use Rattle.ta_implied.proofs.Common.{◌∙◌, sym, ap, subst, arith, false≢true, get_or_past, In, has_bit, has_none}
use Rattle.ta_implied.proofs.Pairs.{pair_of_bit, bit_of_pair}
use Rattle.ta_implied.proofs.orders.Orders.mask.Goals as goal

pub returns-then-guard-lt64 : goal.returns-then-guard-lt64
returns-then-guard-lt64 c j =
    let masks = c.self.inside.masks in
    let guard = c.args.guard in (
      (λ has. subst (In (j, guard)) c.self.view_is (pair_of_bit masks j guard c.self.invariant.fit has)),
      (λ i. bit_of_pair masks j guard (subst (In (j, guard)) (sym c.self.view_is) i)),
    )

pub returns-else-guard-lt64 : goal.returns-else-guard-lt64
returns-else-guard-lt64 c j =
    let masks = c.self.inside.masks in
    let guard = c.args.guard in
    let past = get_or_past masks guard 0 (let l = c.self.told in let b = c.if-guard-lt64.false in omega arith) in (
      (λ has. absurd (false≢true (sym (has_none j) ∙ has))),
      (λ i. sym (ap (λ m. has_bit m j) past) ∙ bit_of_pair masks j guard (subst (In (j, guard)) (sym c.self.view_is) i)),
    )
