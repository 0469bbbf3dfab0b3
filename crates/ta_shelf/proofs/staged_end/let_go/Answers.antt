use Rattle.ta_shelf.proofs.ShellCommon.{refl, rules}
use Rattle.ta_shelf.proofs.StagedMore.{log_gone, log_lost}
use Rattle.ta_shelf.proofs.staged_end.let_go.Goals as goal

pub returns-in-Some-clause-staged : goal.returns-in-Some-clause-staged
returns-in-Some-clause-staged g c = λ begun called h.
    log_gone g.S.Shelf.stage_name g.S.Shelf.stage_bytes begun c.args.file _ h c.args.name.now called c.in-Some.stage c.in-Some.is _ _ c.abandon.ensures.log
    c.abandon.ensures.faults

pub returns-in-None-clause-staged : goal.returns-in-None-clause-staged
returns-in-None-clause-staged g c = λ begun called h.
    log_lost g.S.Shelf.stage_name g.S.Shelf.stage_bytes begun c.args.file _ h c.args.name.now called c.in-None.is c.args.name refl
