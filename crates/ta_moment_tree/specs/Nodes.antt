-- When an encoding is that of a node.
use Rattle.std.specs.Prelude.{ℕ, List, Option}
use Rattle.ta_base.specs.Masks.{In}
use Rattle.ta_moments.specs.Facts.{candidates}
use Rattle.ta_moments.specs.declared.fact.Fact.{Fact}
use Rattle.ta_moment_tree.specs.Draft.{IsDraft}
use Rattle.ta_moment_tree.specs.Plan.{IsPlan}
use Rattle.ta_moment_tree.specs.declared.encoding.MomentEncoding.{MomentEncoding}

-- the node of a candidate with facts, the newest first, with these silent places
pub record IsNode (silent : List ℕ) (candidate : Option ℕ) (past : List Fact) (node : MomentEncoding) : Type 0 where
  pub plan : IsPlan node.plan
  pub listed : In candidate (candidates node.plan.task.pattern.now)
  pub draft : IsDraft node.plan.task.automaton.now node.plan.task.pattern.now silent candidate past node.draft

pub record IsSomeNode (silent : List ℕ) (node : MomentEncoding) : Type 0 where
  pub candidate : Option ℕ
  pub past : List Fact
  pub is : IsNode silent candidate past node

-- the same with some silent places
pub record IsAnyNode (node : MomentEncoding) : Type 0 where
  pub silent : List ℕ
  pub is : IsSomeNode silent node
