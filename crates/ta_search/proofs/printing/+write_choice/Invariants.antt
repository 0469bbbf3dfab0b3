use Rattle.std.proofs.Common.{length}
use Rattle.ta_search.proofs.printing.+write_choice.Given as goal

abbrev pub decreases-write_choice : goal.decreases-write_choice
decreases-write_choice l = length l.holes.now
