use Rattle.ta_program.specs.Values.{limits_of}
use Rattle.ta_program.proofs.Common.{◌≢◌, refl, inl, inr, rules}
use Rattle.ta_meaning.specs.FirstFault.{FirstFault}
use Rattle.ta_syntax.specs.declared.fault.FileFault.TheVariants as fault
use Rattle.ta_program.proofs.reading.legal_of.Goals as goal

pub returns-in-Err-clause-meant : goal.returns-in-Err-clause-meant
returns-in-Err-clause-meant c =
    let other : c.in-Err.fault ≢ fault.Memory = search rules in
    let found : FirstFault (limits_of c.args.is_wide) c.args.bytes.now c.in-Err.fault = elim (rw c.limits_of-limits.ensures at c.in-Err.ensures.reads)
    [ inl memory ↦ absurd (other memory) | inr first ↦ first ] in
    (refl, refl, c.in-Err.fault, found, c.file_fault_phrase.ensures)
