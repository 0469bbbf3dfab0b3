use Rattle.ta_program.specs.Values.{limits_of}
use Rattle.ta_program.proofs.Common.{true, [], refl, Accepted, claiming_with, replies, grew_none, grew_then, replies_monotone, certificate_kind}
use Rattle.ta_rest.specs.declared.claim.Claim.TheVariants.{RestSafe}
use Rattle.ta_program.proofs.ProofsSaid.{said_own}
use Rattle.ta_program.specs.Proofs.{SaysProofs}
use Rattle.ta_program.specs.RestSeen.{rest_check_seen}
use Rattle.ta_program.proofs.rest_check.judge_rest.Goals as goal

pub returns-in-Ok-clause-says : goal.returns-in-Ok-clause-says
returns-in-Ok-clause-says g c = λ file ends.
    let ending = c.args.rest.now.ending.file in
    let numbers = c.in-Ok.accepted.patterns in
    let asked = rest_check_seen c.args.asked.now in
    let options = asked.options in
    let files = g.S.Shelf.files c.args.shelf.now in
    let says = rw c.as_slice-numbers.ensures at (c.answer_proofs.ensures.says files) in
    let own = said_own file ending c.args.rest.now.added ends options numbers files c.answer_proofs.result says in
    grew_then (certificate_kind (claiming_with RestSafe ending c.args.silent.now (limits_of asked.wide).line_bytes)) asked.other [] (λ ns. replies []
    (SaysProofs true file options ns))
    (λ ns. replies_monotone [] (SaysProofs true file options ns)) (λ (a : Accepted). a.patterns) _ c.in-Ok.accepted c.answer_proofs.result _ _ _ (λ v. refl)
    (rw (c.resting_silently-checker.ensures.subject, c.limits_of-limits.ensures) at c.in-Ok.ensures.stage) (grew_none _ _ c.answer_proofs.result _ own)
