use Rattle.ta_shelf.proofs.ShellCommon.{◌∷◌, [], refl, sym, append-nil, contains_here}
use Rattle.ta_shelf.proofs.OutputCalls.{changed_one}
use Rattle.ta_shelf.proofs.putting.add_bytes.Goals as goal

pub returns-in-Ok-clause-log : goal.returns-in-Ok-clause-log
returns-in-Ok-clause-log g c = changed_one _ _ _ _ c.in-Ok.ensures.log (c.args.bytes.now ∷ [], sym (append-nil c.args.bytes.now), refl)

pub returns-in-Err-clause-log : goal.returns-in-Err-clause-log
returns-in-Err-clause-log g c = changed_one _ _ _ _ c.in-Err.ensures.log ((contains_here (g.S.Shelf.stage_name c.args.stage.now) [], tt), tt)
