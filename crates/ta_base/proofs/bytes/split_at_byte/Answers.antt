use Rattle.std.proofs.Common.{arith}
use Rattle.ta_base.proofs.bytes.split_at_byte.Goals as goal
use Rattle.ta_base.proofs.Lists.{avoids_all, parted_at}

pub returns-then-b-byte : goal.returns-then-b-byte
returns-then-b-byte c = parted_at c.args.byte c.args.bytes.now c.loop-at.at (omega arith) c.if-b-byte.true c.loop-at.invariant

pub returns : goal.returns
returns c = avoids_all c.args.byte c.args.bytes.now c.loop-at.at (omega arith) c.loop-at.invariant
