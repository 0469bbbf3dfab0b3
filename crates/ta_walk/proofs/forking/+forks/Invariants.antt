use Rattle.ta_walk.proofs.Common.{◌+◌, ◌*◌, vec_len}
use Rattle.ta_walk.proofs.forking.+forks.Given as goal

abbrev pub decreases-visit_list : goal.decreases-visit_list
decreases-visit_list g l = 4 * vec_len l.starts + 4

abbrev pub decreases-visit_halves : goal.decreases-visit_halves
decreases-visit_halves g l = 4 * (vec_len l.starts + vec_len l.others) + 3

abbrev pub decreases-visit_beside : goal.decreases-visit_beside
decreases-visit_beside g l = 4 * (vec_len l.starts + vec_len l.others) + 2

abbrev pub decreases-visit_beside-front : goal.decreases-visit_beside-front
decreases-visit_beside-front g l = 4 * vec_len l.starts + 5

abbrev pub decreases-visit_beside-back : goal.decreases-visit_beside-back
decreases-visit_beside-back g l = 4 * vec_len l.others + 5

abbrev pub decreases-visit_in_turn : goal.decreases-visit_in_turn
decreases-visit_in_turn g l = 4 * (vec_len l.starts + vec_len l.others) + 2
