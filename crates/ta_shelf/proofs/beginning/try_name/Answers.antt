use Rattle.ta_shelf.proofs.ShellCommon.{◌∷◌, [], AreStaging, contains_here, each_append}
use Rattle.ta_shelf.proofs.OutputCalls.{changed_one, changed_then}
use Rattle.ta_shelf.proofs.beginning.try_name.Goals as goal

pub returns-in-Ok-clause-log : goal.returns-in-Ok-clause-log
returns-in-Ok-clause-log g c =
    changed_then (AreStaging (c.args.name.now ∷ [])) (AreStaging (c.args.name.now ∷ [])) _ _ _ _
    (changed_one (AreStaging (c.args.name.now ∷ [])) _ _ _ c.in-Ok.ensures.log ((contains_here c.args.name.now [], tt), tt)) c.abandon.ensures.log
    (λ first are. each_append _ first _ are ((rw c.in-Ok.ensures.named (contains_here c.args.name.now []), tt), tt))

pub returns-in-Err-Failed-clause-log : goal.returns-in-Err-Failed-clause-log
returns-in-Err-Failed-clause-log g c = changed_one _ _ _ _ c.in-Err-Failed.ensures.log ((contains_here c.args.name.now [], tt), tt)

pub returns-in-Err-Memory-clause-log : goal.returns-in-Err-Memory-clause-log
returns-in-Err-Memory-clause-log g c = changed_one _ _ _ _ c.in-Err-Memory.ensures.log ((contains_here c.args.name.now [], tt), tt)
