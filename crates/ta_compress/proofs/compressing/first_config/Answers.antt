use Rattle.ta_compress.proofs.Common.{ℤ, List, subst, StartFails}
use Rattle.ta_compress.proofs.AlwaysStarts.{always_starts}
use Rattle.ta_compress.proofs.compressing.first_config.Goals as goal

pub returns-in-Err-clause-always : goal.returns-in-Err-clause-always
returns-in-Err-clause-always c =
    let a = c.args.file.now.automaton in
    let fault = c.in-Err.field-0 in
    let here = subst (λ (ps : List ℤ). StartFails a ps c.as_slice.result.now fault) c.as_slice-parameters.ensures c.in-Err.ensures.answer in
    let there = subst (λ (cs : List ℤ). StartFails a c.args.run.now.parameters cs fault) c.as_slice.ensures here in
    absurd (always_starts c.args.file.now c.args.run.now fault c.requires.fits c.requires.admitted.replayed there)
