-- Texts and runs have one answer.
use Rattle.ta_replay.proofs.Common.{◌≡◌, ℕ, List, refl, sym, ap, subst, File, Run, RunFault, Fits, FirstRefusal, ReplayFault, ReplayStays, Shows, TextFault}
use Rattle.ta_replay.proofs.Common.{◌≢◌}
use Rattle.ta_replay.specs.declared.fault.RunFault.TheVariants as fault
use Rattle.ta_replay.specs.Determined.{RefusalsAreDetermined, TextsAreDetermined}
use Rattle.ta_replay.proofs.Naming.{fits_read}
use Rattle.ta_replay.proofs.OneFault.{not_both, one_malformed, one_misnamed}
use Rattle.ta_replay.proofs.OneRefusal.{one_refusal}
use Rattle.ta_replay.proofs.OneRun.{no_fault, one_run}
use Rattle.ta_replay.proofs.Refusing.{denied, only_memory}

pub text_fault_once : (file : File) (bytes : List ℕ) (e f : RunFault) → e ≢ fault.Memory → f ≢ fault.Memory → TextFault file bytes e → TextFault file bytes f
    → e ≡ f
text_fault_once file bytes (fault.Line m) (fault.Line n) some other s t = ap fault.Line (one_malformed file bytes m n s t)
text_fault_once file bytes (fault.Line m) (fault.Name n) some other s t = absurd (not_both file bytes m n s t)
text_fault_once file bytes (fault.Name m) (fault.Line n) some other s t = absurd (not_both file bytes n m t s)
text_fault_once file bytes (fault.Name m) (fault.Name n) some other s t = ap fault.Name (one_misnamed file bytes m n s t)
text_fault_once file bytes (fault.Line m) fault.Memory some other s t = absurd (other refl)
text_fault_once file bytes (fault.Name m) fault.Memory some other s t = absurd (other refl)
text_fault_once file bytes (fault.Line m) _ some other s t = absurd t
text_fault_once file bytes (fault.Name m) _ some other s t = absurd t
text_fault_once file bytes fault.Memory f some other s t = absurd (some refl)
text_fault_once file bytes _ f some other s t = absurd s

-- a text has one answer
pub texts_once : TextsAreDetermined
texts_once = record {
  run = λ file bytes run other is are. sym (one_run file bytes run other is are);
  fault = text_fault_once;
  apart = λ file bytes run e is some h. some (no_fault file run bytes e is h);
}

none_where_shown : (file : File) (run : Run) (e : RunFault) → Fits file run → Shows file run → ReplayStays file run → ¬ ReplayFault file run e
none_where_shown file run e fits shown stays refused =
    let p = shown.pattern in
    let first = refused p shown.named in
    let memory = only_memory file.automaton p run (stays p shown.named) e
    (denied file.automaton p run (fits_read file run p fits shown.named) shown.shows e first) in
    subst (FirstRefusal file.automaton p run) memory first

-- a run has one answer
pub refusals_once : RefusalsAreDetermined
refusals_once = record { one = one_refusal; none = none_where_shown }
