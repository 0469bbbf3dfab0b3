use Rattle.ta_syntax.proofs.Common.{length}
use Rattle.ta_syntax.proofs.ListSteps.{BlocksSoFar}
use Rattle.ta_syntax.proofs.blocks.read_blocks.Given as goal

abbrev pub invariant-turns : goal.invariant-turns
invariant-turns g l = BlocksSoFar l.mark (g.T.Block.grammar l.limits) g.T.Block.spelled g.T.Block.stated l.limit l.items.items l.tokens l.rest

abbrev pub decreases-turns : goal.decreases-turns
decreases-turns g l = length l.rest
