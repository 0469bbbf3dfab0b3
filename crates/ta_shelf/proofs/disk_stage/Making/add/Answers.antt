use Rattle.ta_shelf.proofs.Common.{bytes_put}
use Rattle.ta_shelf.proofs.CallLemmas.{bytes_put-then}
use Rattle.ta_shelf.proofs.Handed.{added_to}
use Rattle.ta_shelf.proofs.disk_stage.Making.add.Goals as goal

pub returns-in-Beside-clause-added : goal.returns-in-Beside-clause-added
returns-in-Beside-clause-added g c =
    let done = c.put_for-count in
    rw c.in-Beside.is (added_to done.result.1 c.args.bytes.now (bytes_put c.in-Beside.taken.calls) (bytes_put c.put.new.self.calls) done.result.0
    done.ensures.count done.ensures.whole (bytes_put-then c.in-Beside.taken.calls c.put.new.self.calls _ c.put.ensures))
