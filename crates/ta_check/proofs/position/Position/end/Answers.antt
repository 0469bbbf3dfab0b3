use Rattle.ta_check.proofs.Common.{refl, sym, ◌∙◌, false≢true}
use Rattle.ta_check.proofs.position.Position.end.Goals as goal

pub returns-then-is_free-clause-taken : goal.returns-then-is_free-clause-taken
returns-then-is_free-clause-taken c = λ subject at is. (at, record { free = (c.is_free.ensures subject at is).0 c.if-is_free.true; leads = refl }, is)

pub returns-else-is_free-clause-taken : goal.returns-else-is_free-clause-taken
returns-else-is_free-clause-taken c = λ subject at is. (refl, λ free. false≢true (sym c.if-is_free.false ∙ (c.is_free.ensures subject at is).1 free))
