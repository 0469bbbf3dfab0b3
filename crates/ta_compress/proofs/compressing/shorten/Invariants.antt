use Rattle.ta_compress.proofs.Shortening.{Going}
use Rattle.ta_compress.proofs.compressing.shorten.Given as goal

-- the earlier lines are followed
abbrev pub invariant-loop-number : goal.invariant-loop-number
invariant-loop-number l = Going l.scoped.file l.run l.number l.draft
