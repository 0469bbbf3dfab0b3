use Rattle.ta_walk.proofs.Common.{◌∙◌, Bool, Some, None, ap, sym}
use Rattle.std.proofs.Common.{cond}
use Rattle.ta_walk.proofs.scaling.taken.Goals as goal

pub returns-then-may : goal.returns-then-may
returns-then-may c candidate is = ap (λ (b : Bool). cond b (Some c.args.vertex.numbers) None) (sym c.if-may.true ∙ c.in_ok-may.ensures candidate is)

pub returns-else-may : goal.returns-else-may
returns-else-may c candidate is = ap (λ (b : Bool). cond b (Some c.args.vertex.numbers) None) (sym c.if-may.false ∙ c.in_ok-may.ensures candidate is)
