use Rattle.ta_moment_tree.proofs.Common.{to_z_range}
use Rattle.std.proofs.Common.{rules}
use Rattle.ta_moment_tree.proofs.Copies.{row_same}
use Rattle.ta_moment_tree.proofs.system.copy_row.Goals as goal

pub returns : goal.returns
returns c = row_same _ c.args.row.now (to_z_range c.args.row.now.form.constant c.args.row.now.form.constant_fits) (search rules)
