use Rattle.ta_program.specs.Values.{limits_of}
use Rattle.ta_program.proofs.Common.{false, [], refl, subst, Ok, Subject, claiming, Grew, Accepted, Stage, replies, grew_none, grew_then, replies_monotone}
use Rattle.ta_program.proofs.Common.{certificate_kind}
use Rattle.ta_program.specs.CheckSeen.{check_seen}
use Rattle.ta_program.specs.Proofs.{SaysProofs}
use Rattle.ta_rest.specs.declared.claim.Claim.TheVariants as claim
use Rattle.ta_program.proofs.check.judge_certificate.Goals as goal

pub returns-in-Ok-clause-says : goal.returns-in-Ok-clause-says
returns-in-Ok-clause-says g c =
    let file = c.args.scoped.now.file in
    let asked = check_seen c.args.asked.now in
    let stage = subst (λ (s : Subject). Grew
    (Stage (certificate_kind s) (λ (a : Accepted). a.patterns) (g.S.Shelf.files c.args.shelf.now) asked.other (Ok c.in-Ok.accepted))
    (g.S.Shelf.calls c.args.shelf.now) (g.S.Shelf.calls c.read_certificate.new.shelf)) (rw c.limits_of-limits.ensures at c.new-checker.ensures.subject)
    c.in-Ok.ensures.stage in
    let options = asked.options in
    let says = c.answer_proofs.ensures.says (g.S.Shelf.files c.args.shelf.now) in
    grew_then (certificate_kind (claiming claim.Safe file (limits_of asked.wide).line_bytes)) asked.other []
    (λ numbers. replies [] (SaysProofs false file options numbers))
    (λ numbers. replies_monotone [] (SaysProofs false file options numbers)) (λ (a : Accepted). a.patterns) _ c.in-Ok.accepted c.answer_proofs.result _ _ _
    (λ v. refl)
    stage (grew_none _ _ c.answer_proofs.result _ (rw (c.file.ensures, c.as_slice-numbers.ensures) at says))
