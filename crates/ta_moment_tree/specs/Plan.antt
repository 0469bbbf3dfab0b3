-- What is kept of a pattern while rows are written.
use Rattle.std.specs.Prelude.{◌≡◌}
use Rattle.ta_encode.specs.Unknowns.{start_meanings}
use Rattle.ta_moments.specs.Facts.{moving_rules}
use Rattle.ta_moment_tree.specs.declared.plan.Plan.{Plan}

-- the moving rules of the pattern, and the unknowns at the start
pub record IsPlan (plan : Plan) : Type 0 where
  pub moving : plan.moving.items ≡ moving_rules plan.task.automaton.now plan.task.pattern.now
  pub starts : plan.starts ≡ start_meanings plan.task.automaton.now plan.task.pattern.now
