use Rattle.ta_syntax.proofs.Common.{length}
use Rattle.ta_syntax.proofs.ListSteps.{ListSoFar}
use Rattle.ta_syntax.proofs.lists.read_list.Given as goal

abbrev pub invariant-items : goal.invariant-items
invariant-items g l = ListSoFar g.T.Item.grammar g.T.Item.spelled g.T.Item.stated l.limit l.items.items l.tokens l.rest

abbrev pub decreases-items : goal.decreases-items
decreases-items g l = length l.rest
