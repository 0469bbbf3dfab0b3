use Rattle.ta_compress.proofs.Common.{◌≢◌, inl, subst, File, Fits, FirstRefusal, ReplayFault, RunFault, Run}
use Rattle.ta_replay.specs.declared.fault.RunFault.TheVariants.{Memory}
use Rattle.ta_compress.proofs.compressing.admit.Goals as goal

-- no check of a replay wants memory
no_want : (file : File) (run : Run) (fault : RunFault) → Fits file run → ReplayFault file run fault → fault ≢ Memory
no_want file run fault fits first is = subst (λ (f : RunFault). FirstRefusal file.automaton fits.pattern run f) is (first fits.pattern fits.named)

pub returns-in-Err-clause-fault : goal.returns-in-Err-clause-fault
returns-in-Err-clause-fault c =
    let first = c.in-Err.ensures.fault in
    let no_memory = no_want c.args.file.now c.args.run.now c.in-Err.fault c.requires first in
    inl (record { first = first; no_memory = no_memory; not_replayed = λ r. no_memory (c.in-Err.ensures.only r.shows r.stays) })
