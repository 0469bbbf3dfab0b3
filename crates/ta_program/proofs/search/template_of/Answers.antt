use Rattle.ta_program.proofs.Common.{◌≢◌, List, ℕ, TemplateFault, FaultOf, FirstTemplateFault, refl, rules}
use Rattle.ta_search.specs.declared.fault.TemplateFault.TheVariants as fault
use Rattle.ta_program.proofs.search.template_of.Goals as goal

first_of : (bytes : List ℕ) (e : TemplateFault) → e ≢ fault.Memory → FaultOf bytes e → FirstTemplateFault bytes e
first_of bytes (fault.Line number) other is = is
first_of bytes (fault.Repeated number) other is = is
first_of bytes (fault.Range number) other is = is
first_of bytes (fault.TooMany number) other is = is
first_of bytes (fault.UnknownHole offset) other is = is
first_of bytes fault.Memory other is = absurd (other (λ i. fault.Memory))

pub returns-in-Err-clause-meant : goal.returns-in-Err-clause-meant
returns-in-Err-clause-meant c = λ l.
    let other : c.in-Err.fault ≢ fault.Memory = search rules in
    (refl, refl, c.in-Err.fault, first_of c.args.bytes.now c.in-Err.fault other c.in-Err.ensures.fault, c.template_fault_phrase.ensures)
