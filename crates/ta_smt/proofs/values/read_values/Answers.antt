use Rattle.ta_smt.proofs.Common.{[], ◌∷◌, ◌++◌, subst, sym, stored}
use Rattle.ta_smt.proofs.ValueTexts.{Read, read_more}
use Rattle.ta_smt.proofs.values.read_values.Goals as goal

pub lines-preserved : goal.lines-preserved
lines-preserved c =
    let next = rw c.in-Some.is at c.in_ok-value.ensures.read in
    rw c.in_ok-push.ensures.items
    (subst (λ v. Read c.args.bytes.now (c.lines.values.items ++ v ∷ []) c.in-Some.behind.now) (sym (stored c.in-Some.value next.number))
    (read_more c.args.bytes.now c.lines.rest.now c.in-Some.behind.now c.lines.values.items c.in-Some.value c.lines.invariant next))
