use Rattle.ta_moment_tree.proofs.Common.{◌∙◌, ap, forms_of}
use Rattle.ta_moment_tree.proofs.Beginning.{start_forms}
use Rattle.ta_moment_tree.proofs.first.start.Goals as goal

pub returns-clause-rows : goal.returns-clause-rows
returns-clause-rows c =
    ap forms_of c.into_vec.ensures
    ∙ start_forms c.args.task.automaton.now c.args.task.pattern.now c.in_ok-system.field-0.system.rows c.in_ok-system.ensures.rows
