use Rattle.ta_shelf.proofs.ShellCommon.{refl, rules}
use Rattle.ta_shelf.proofs.StagedMore.{in_part, log_long, log_lost, settles_long, too_long}
use Rattle.ta_shelf.proofs.staged_end.let_long_go.Goals as goal

pub returns-in-Some-clause-settles : goal.returns-in-Some-clause-settles
returns-in-Some-clause-settles g c = λ number text written begun h.
    settles_long g.S.Shelf.stage_name g.S.Shelf.stage_bytes number text c.args.name.now written c.long_certificate.result c.long_certificate.ensures
    (too_long _ _ begun c.args.file _ written h c.requires)

pub returns-in-Some-clause-staged : goal.returns-in-Some-clause-staged
returns-in-Some-clause-staged g c = λ begun written called h.
    log_long g.S.Shelf.stage_name g.S.Shelf.stage_bytes begun c.args.file _ (in_part _ _ begun c.args.file _ written h) c.args.name.now called c.in-Some.stage
    c.in-Some.is c.long_certificate.result c.long_certificate.ensures _ _ c.abandon.ensures.log c.abandon.ensures.faults

pub returns-in-None-clause-staged : goal.returns-in-None-clause-staged
returns-in-None-clause-staged g c = λ begun written called h.
    log_lost g.S.Shelf.stage_name g.S.Shelf.stage_bytes begun c.args.file _ (in_part _ _ begun c.args.file _ written h) c.args.name.now called c.in-None.is
    c.args.name refl
