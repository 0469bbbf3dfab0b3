use Rattle.ta_moment_tree.proofs.Common.{ap, Err}
use Rattle.ta_moment_tree.proofs.Forms.{sum_same, sum_stays}
use Rattle.ta_moment_tree.proofs.form.plus.Goals as goal

pub unreachable-requires : goal.unreachable-requires
unreachable-requires c = sum_stays c.args.x.now c.args.y.now c.requires.left c.requires.right
    (c.in-Err-Overflow.ensures.overflow (ap Err c.in-Err-Overflow.field-0-is))

pub returns-in-Ok : goal.returns-in-Ok
returns-in-Ok c = sum_same c.in-Ok.sum c.args.x.now c.args.y.now c.in-Ok.ensures.ok
