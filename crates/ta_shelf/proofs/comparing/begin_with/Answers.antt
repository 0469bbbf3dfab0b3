use Rattle.ta_shelf.proofs.Common.{rules}
use Rattle.ta_shelf.proofs.Alike.{begins_by}
use Rattle.ta_shelf.proofs.comparing.begin_with.Goals as goal

pub returns-then-first-bytes : goal.returns-then-first-bytes
returns-then-first-bytes c = begins_by c.eq.result c.args.bytes.now c.args.first.now (search rules)
