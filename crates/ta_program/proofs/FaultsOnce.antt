-- Bytes have one error of each kind.
use Rattle.ta_program.proofs.Common.{◌≡◌, ◌∙◌, ℕ, List, sym, ap, subst, inl, inr, File, IsFirstFaultFor, Subject, Run, IsRunText, Kind, admit_faults_once}
use Rattle.ta_program.proofs.Common.{values_kind, CompressFaultIn, IsRefusedRun, IsTextFault, long_kind, of_run, OneFault, IsReplayFault, certificate_kind}
use Rattle.ta_program.proofs.Common.{run_kind, ◌≢◌, AskedWord}
use Rattle.ta_check.proofs.Lasting.{first_of_lasting, lasting_more}
use Rattle.ta_check.proofs.OneFault.{one_fault}
use Rattle.ta_compress.specs.declared.fault.CompressFault.{CompressFault}
use Rattle.ta_compress.specs.Faults.{CompressFaultOf}
use Rattle.ta_compress.proofs.Once.{refusals_once as compressed_once}
use Rattle.ta_replay.specs.declared.fault.RunFault.{RunFault}
use Rattle.ta_replay.specs.declared.fault.RunFault.TheVariants as runs
use Rattle.ta_replay.specs.ReplayFaults.{ReplayFault}
use Rattle.ta_replay.specs.TextFaults.{TextFault}
use Rattle.ta_replay.proofs.OneRefusal.{one_refusal}
use Rattle.ta_replay.proofs.Once.{text_fault_once, texts_once}
use Rattle.ta_program.proofs.OneLine.{Settled}

-- a text of a run has no fault as a text
text_or_run : (file : File) (bytes : List ℕ) (run : Run) (e : RunFault) → IsRunText file run bytes → e ≢ runs.Memory → TextFault file bytes e → ⊥
text_or_run file bytes run e text some bad = texts_once.apart file bytes run e text some bad

replays_once : (file : File) (bytes : List ℕ) (e f : RunFault) → IsReplayFault file bytes e → IsReplayFault file bytes f → e ≡ f
replays_once file bytes e f s t =
    let same = texts_once.run file bytes s.run t.run s.text t.text in
    one_refusal file t.run e f t.text.fits (subst (λ (run : Run). ReplayFault file run e) same s.first) t.first

pub run_once : (file : File) → OneFault (run_kind file)
run_once file bytes e f a b = elim a.first [
  | inl s ↦ elim b.first [
    | inl t ↦ text_fault_once file bytes e f a.no_memory b.no_memory s t
    | inr t ↦ absurd
        (text_or_run file bytes t.run e t.text a.no_memory s)
  ]
  | inr s ↦ elim b.first [ inl t ↦ absurd (text_or_run file bytes s.run f s.text b.no_memory t) | inr t ↦ replays_once file bytes e f s t ]
]

-- a fault that isn't want of memory isn't that of a text either
no_memory : (file : File) (bytes : List ℕ) (f : CompressFault) → CompressFaultIn file bytes f → (s : IsTextFault file bytes f) → s.first ≢ runs.Memory
no_memory file bytes f found s is = found.no_memory (s.is ∙ ap of_run is)

refused_once : (file : File) (bytes : List ℕ) (e f : CompressFault) → CompressFaultIn file bytes e → CompressFaultIn file bytes f → IsRefusedRun file bytes e
    → IsRefusedRun file bytes f → e ≡ f
refused_once file bytes e f a b s t =
    let same = texts_once.run file bytes s.run t.run s.text t.text in
    compressed_once.one file t.run e f a.no_memory b.no_memory t.text.fits (subst (λ (run : Run). CompressFaultOf file run e) same s.first) t.first

pub long_once : (file : File) → OneFault (long_kind file)
long_once file bytes e f a b = elim a.first [
  | inl s ↦ elim b.first [
    | inl t ↦ s.is ∙ ap of_run (text_fault_once file bytes s.first t.first (no_memory file bytes e a s) (no_memory file bytes f b t) s.text t.text) ∙ sym t.is
    | inr t ↦ absurd (text_or_run file bytes t.run s.first t.text (no_memory file bytes e a s) s.text)
  ]
  | inr s ↦ elim b.first [
    | inl t ↦ absurd (text_or_run file bytes s.run t.first s.text (no_memory file bytes f b t) t.text)
    | inr t ↦ refused_once file bytes e f a b s t
  ]
]

pub values_once : (file : File) (word : AskedWord) → OneFault (values_kind file word)
values_once file word bytes e f a b = admit_faults_once file word bytes e f a.no_memory b.no_memory a.first b.first

pub certificate_once : (subject : Subject) → OneFault (certificate_kind subject)
certificate_once subject bytes e f a b = one_fault subject bytes e f a.first b.first

pub certificate_settled : (subject : Subject) → Settled (certificate_kind subject)
certificate_settled subject = record {
  First = IsFirstFaultFor subject;
  one = one_fault subject;
  of_fault = λ bytes f h. h.first;
  of_broken = first_of_lasting subject;
  lasts = lasting_more subject;
}

-- of a kind that is read whole before it is judged
pub settled : {A F : Type 0} (kind : Kind A F) → ((bytes : List ℕ) (f : F) → ¬ kind.broken bytes f) → OneFault kind → Settled kind
settled kind none one = record {
  First = kind.at_fault;
  one = one;
  of_fault = λ bytes f h. h;
  of_broken = λ bytes f h. absurd (none bytes f h);
  lasts = λ bytes more f h. absurd (none bytes f h);
}
