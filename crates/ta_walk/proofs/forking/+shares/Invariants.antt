use Rattle.ta_walk.proofs.Common.{◌+◌, ◌*◌}
use Rattle.ta_walk.proofs.forking.+shares.Given as goal

abbrev pub decreases-visit_on : goal.decreases-visit_on
decreases-visit_on g l = 3 * l.nodes

abbrev pub decreases-visit_shared : goal.decreases-visit_shared
decreases-visit_shared g l = 3 * l.nodes + 2

abbrev pub decreases-visit_shared-front : goal.decreases-visit_shared-front
decreases-visit_shared-front g l = 3 * l.nodes + 1

abbrev pub decreases-visit_shared-back : goal.decreases-visit_shared-back
decreases-visit_shared-back g l = 3 * l.nodes + 1
