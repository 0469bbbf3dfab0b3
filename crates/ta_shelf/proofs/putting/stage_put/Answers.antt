use Rattle.ta_shelf.proofs.ShellCommon.{◌∷◌, [], AreStaging, contains_here}
use Rattle.ta_shelf.proofs.OutputCalls.{added_all, changed_one, changed_behind}
use Rattle.ta_shelf.proofs.putting.stage_put.Goals as goal

pub returns-in-Err-clause-log : goal.returns-in-Err-clause-log
returns-in-Err-clause-log g c = rw (← c.as_str.ensures)
    (changed_one (AreStaging (c.as_str.result.now ∷ [])) _ _ _ c.in-Err.ensures.log ((contains_here c.as_str.result.now [], tt), tt))

pub returns-in-Ok-fill-clause-log : goal.returns-in-Ok-fill-clause-log
returns-in-Ok-fill-clause-log g c =
    added_all c.args.put.now.name _ _ _ _ (rw c.as_str.ensures at c.in-Ok.ensures.log)
    (rw (c.in-Ok.ensures.named, c.as_str.ensures) at c.in-Ok-fill.ensures.log)

pub returns-in-Err-fill-clause-log : goal.returns-in-Err-fill-clause-log
returns-in-Err-fill-clause-log g c =
    changed_behind c.args.put.now.name _ _ _ _ (rw c.as_str.ensures at c.in-Ok.ensures.log)
    (rw (c.in-Ok.ensures.named, c.as_str.ensures) at c.in-Err-fill.ensures.log)
    (rw (c.fill.ensures.named, c.in-Ok.ensures.named, c.as_str.ensures) at c.abandon.ensures.log)
