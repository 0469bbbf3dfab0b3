use Rattle.ta_replay.proofs.Common.{ℤ, List, refl, subst, StartFails}
use Rattle.ta_replay.proofs.replaying.first_config.Goals as goal

pub returns-in-Err-OutOfRange-clause-refuses : goal.returns-in-Err-OutOfRange-clause-refuses
returns-in-Err-OutOfRange-clause-refuses c =
    let a = c.args.automaton.now in
    let fault = c.in-Err-OutOfRange.field-0 in
    let here = subst (λ (ps : List ℤ). StartFails a ps c.as_slice.result.now fault) c.as_slice-parameters.ensures c.in-Err-OutOfRange.ensures.answer in
    let there = subst (λ (cs : List ℤ). StartFails a c.args.run.now.parameters cs fault) c.as_slice.ensures here in
    (refl, subst (StartFails a c.args.run.now.parameters c.args.run.now.counts) c.in-Err-OutOfRange.field-0-is there)
