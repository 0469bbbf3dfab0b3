-- The mark of a node: how many unknowns, moments and rows it has.
use Rattle.std.specs.Prelude.{◌≡◌, length}
use Rattle.ta_moments.specs.Moments.{Known}
use Rattle.ta_moment_tree.specs.declared.mark.NodeMark.{NodeMark}

-- how many unknowns, moments and rows are known
pub record IsMark (k : Known) (mark : NodeMark) : Type 0 where
  pub unknowns : mark.unknowns ≡ k.unknowns
  pub moments : mark.moments ≡ length k.moments
  pub rows : mark.rows ≡ length k.rows
