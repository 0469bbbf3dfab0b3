use Rattle.ta_encode.proofs.Common.{ℤ, Sparse}
use Rattle.ta_encode.proofs.Blocks.{block}
use Rattle.ta_encode.proofs.rows.block.Given as goal

abbrev pub invariant-loop-unknown : goal.invariant-loop-unknown
invariant-loop-unknown l = Sparse (λ (z : ℤ). z) (block l.from l.to l.fn.sense) l.unknown l.terms.items
