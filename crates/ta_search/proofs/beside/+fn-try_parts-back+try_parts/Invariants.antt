use Rattle.std.proofs.Common.{◌+◌, ◌*◌}
use Rattle.ta_search.proofs.beside.+fn-try_parts-back+try_parts.Given as goal

abbrev pub decreases-back : goal.decreases-back
decreases-back g l = 2 * l.others + 1

abbrev pub decreases-try_parts : goal.decreases-try_parts
decreases-try_parts g l = 2 * l.parts
