use Rattle.ta_search.proofs.Common.{AllByRecursion, IsPlaced}
use Rattle.ta_search.proofs.beside.try_part.Given as goal

abbrev pub invariant-vectors : goal.invariant-vectors
invariant-vectors g l = AllByRecursion (IsPlaced l.fn.template l.fn.terms) l.placed.items
