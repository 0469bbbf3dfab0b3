use Rattle.std.proofs.Common.{length}
use Rattle.ta_search.proofs.object.+push_choice.Given as goal

abbrev pub decreases-push_choice : goal.decreases-push_choice
decreases-push_choice l = length l.holes.now
