use Rattle.ta_moment_tree.proofs.Common.{ap, negsuc, Err}
use Rattle.ta_linear.proofs.TermLemmas.{negative_stays}
use Rattle.ta_moment_tree.proofs.Forms.{multiple_same}
use Rattle.ta_moment_tree.proofs.form.turned.Goals as goal

pub unreachable-requires : goal.unreachable-requires
unreachable-requires c = negative_stays c.args.x.now (c.in-Err-Overflow.ensures.overflow (ap Err c.in-Err-Overflow.field-0-is))

pub returns-in-Ok : goal.returns-in-Ok
returns-in-Ok c = multiple_same c.in-Ok.turned c.args.x.now (negsuc 0) c.in-Ok.ensures.ok
