use Rattle.std.proofs.lemmas.Nat.{le_or_l}
use Rattle.ta_scope.proofs.path.with_target.Goals as goal

pub returns-then-contains-2-clause-grows : goal.returns-then-contains-2-clause-grows
returns-then-contains-2-clause-grows c = le_or_l _ _
