-- what an answer with a certificate says
use Rattle.std.specs.Prelude.{IfErr, IfOk, OnOk}
use Rattle.ta_automaton.specs.Narrow.{IsWithin}
use Rattle.ta_base.specs.declared.limits.Limits.{Limits}
use Rattle.ta_program.specs.Certified.{PutsCertificate}
use Rattle.ta_program.specs.Inside.Certifying.{CertifiesReport, IsPlain, SaysStaged}
use Rattle.ta_program.specs.Inside.Reported.{ReportedTo}
use Rattle.ta_program.specs.declared.telling.Form.{Form}
use Rattle.ta_program.specs.declared.telling.Report.{Report}
use Rattle.ta_shelf.specs.declared.answer.Content.TheVariants.{Bytes}
use Rattle.ta_program.proofs.Common.{◌≡◌, ◌∙◌, ◌≤◌, ◌<◌, ◌&&◌, ◌==◌, ℕ, Bool, true, false, List, [], ◌∷◌, length, Option, None, Some, Result, Ok, Err, refl}
use Rattle.ta_program.proofs.Common.{sym, ap, subst}
use Rattle.ta_program.proofs.Common.{arith, rules, Contains, if◌then◌else◌, list_any, File, Pick, Certificate, ReportSample, Verdict, Told, Answer, Put}
use Rattle.ta_program.proofs.Common.{Refusal, Refused}
use Rattle.ta_program.proofs.Common.{ReadFailed, PutFailed, Memory, Says, settles, may_put, PutsWithin, CertificateOn, safe_among, ReportsAndPuts, Certifies}
use Rattle.ta_program.proofs.Common.{HindersCertificate}
use Rattle.ta_program.proofs.Common.{Reports, SampleReported, VerifyWords, report_meaning, report_number, tells_nothing, verdicts_number, AreVerdictsOn}
use Rattle.ta_program.proofs.Common.{long_line, CERTIFICATE}
use Rattle.ta_program.proofs.Common.{AllocError, AreStaging, Begun, Changed, Event, HasNoAnswer, PutCall, ReadCause, SettlesFile, ShelfState, StagedAnswer}
use Rattle.ta_program.proofs.Common.{StagedBy, StagedFile}
use Rattle.ta_program.proofs.Common.{StagedInPart, StagedOr, StagedSoFar, append-nil, inl, result_seen}

low_by : (some unknown : Bool) → (if some then 1 else (if unknown then 2 else 0)) ≤ 2
low_by true unknown = omega arith
low_by false true = omega arith
low_by false false = omega arith

puts_within : (out : List ℕ) (put : Put) (puts : List Put) → puts ≡ put ∷ [] → put.name ≡ out → PutsWithin (out ∷ []) puts
puts_within out put puts only named =
    let among : Contains (out ∷ []) out = search rules in
    subst (PutsWithin (out ∷ [])) (sym only) (subst (Contains (out ∷ [])) (sym named) among, tt)

-- an answer that puts a text in the file of a name is such, or the text is too long, and that hinders
pub settled : (Such : Answer → Type 0) (Wrong : ℕ → List ℕ → Type 0) (number : ℕ) (report out text : List ℕ) → number ≤ 2
    → ((answer : Answer) → ReportsAndPuts number report out text answer → Such answer)
    → ((n : ℕ) (line : List ℕ) → n ≡ CERTIFICATE.number → line ≡ long_line out → CERTIFICATE.bytes < length text → Wrong n line)
    → (files : Option Told) (result : Result Answer Refusal) → Certifies number report out text result → Says (settles (out ∷ []) Such Wrong) files result []
settled Such Wrong number report out text few such wrong files (Ok answer) c = record {
  opened = refl;
  judges = record { low = subst (λ (n : ℕ). n ≤ 2) (sym c.numbered) few; holds = such answer c; within = puts_within out c.put answer.puts c.only c.named };
}
settled Such Wrong number report out text few such wrong files (Err (Refused n who why)) c =
    let four = c.0 in
    record { opened = refl; judges = (omega (arith, four), omega (arith, four), wrong n _ c.0 c.1 c.2) }
settled Such Wrong number report out text few such wrong files (Err (ReadFailed who)) c = absurd c
settled Such Wrong number report out text few such wrong files (Err (PutFailed who)) c = absurd c
settled Such Wrong number report out text few such wrong files (Err Memory) c = record { opened = refl; judges = tt }

-- the number of verdicts is low, and so is that of a report
few_by : (vs : List Verdict) → verdicts_number vs ≤ 2
few_by vs = low_by (list_any _ vs) (list_any _ vs)

chosen_low : (b : Bool) (n : ℕ) → n ≤ 2 → (if b then 2 else n) ≤ 2
chosen_low true n low = omega arith
chosen_low false n low = low

pub few_told : (all : Bool) (s : ReportSample) (vs : List Verdict) (number : ℕ) → number ≡ report_number all s vs → number ≤ 2
few_told all s vs number numbered =
    subst (λ (n : ℕ). n ≤ 2) (sym numbered) (chosen_low (all && (verdicts_number vs == 0 && tells_nothing s vs)) (verdicts_number vs) (few_by vs))

-- how the report of `verify` is told
abbrev form_of : VerifyWords → Form
form_of asked = record { rest = false; json = asked.json; all = asked.all }

module _ (asked : VerifyWords) (file : File) (pick : Pick) (vs : List Verdict) (are : AreVerdictsOn file pick asked.budget vs) (number : ℕ) (report : List ℕ)
    (reported : SampleReported (form_of asked) file pick asked.budget.nodes vs number report) where
  few : number ≤ 2
  few = few_told asked.all reported.sample vs number reported.numbered

  -- without a certificate
  plain_reports : asked.out ≡ None → Reports asked file pick (record { number = number; text = report; puts = [] })
  plain_reports none = record {
    sample = reported.sample;
    is_sample = reported.is_sample;
    verdicts = vs;
    are = are;
    numbered = reported.numbered;
    written = reported.written;
    puts = subst (λ (o : Option (List ℕ)). PutsCertificate file pick asked.budget vs o []) (sym none) refl;
  }

  module _ (out : List ℕ) (given : asked.out ≡ Some out) (text : List ℕ) (certificate : CertificateOn file pick asked.budget vs text)
      (accepted : (l : Limits) → IsWithin l file.automaton → Certificate file l.line_bytes text (safe_among file pick vs)) where
    reports : (answer : Answer) → ReportsAndPuts number report out text answer → Reports asked file pick answer
    reports answer c = record {
      sample = reported.sample;
      is_sample = reported.is_sample;
      verdicts = vs;
      are = are;
      numbered = c.numbered ∙ reported.numbered;
      written = c.written ∙ reported.written;
      puts = subst (λ (o : Option (List ℕ)). PutsCertificate file pick asked.budget vs o answer.puts) (sym given) (record {
        put = c.put;
        only = c.only;
        named = c.named;
        certificate = subst (CertificateOn file pick asked.budget vs) (sym c.holds) certificate;
        within = (let few = c.within in let same = c.holds in omega (arith, ap length same));
        accepted = λ l few. subst (λ (t : List ℕ). Certificate file l.line_bytes t (safe_among file pick vs)) (sym c.holds) (accepted l few);
      });
    }

    certified_says : (files : Option Told) (result : Result Answer Refusal) → Certifies number report out text result
        → Says (settles (out ∷ []) (Reports asked file pick) (HindersCertificate file pick asked.budget (Some out))) files result []
    certified_says =
        settled (Reports asked file pick) (HindersCertificate file pick asked.budget (Some out)) number report out text few reports
        (λ n line same said longer. record
        { numbered = same; said = said; long = record { verdicts = vs; are = are; text = text; certificate = certificate; longer = longer } })

-- what a staged file settles is a certificate that is put, or is too long
pub certifies_of : {T : Type 0} (bytes : T → List ℕ) (number : ℕ) (text name written : List ℕ) (result : Result (StagedAnswer T) Refusal)
    → SettlesFile bytes number text name written result → Certifies number text name written (result_seen bytes written result)
certifies_of bytes number text name written (Ok answer) s = record
    { numbered = s.0; written = s.1; put = record { name = name; content = Bytes written }; only = s.2; named = refl; holds = refl; within = s.3 }
certifies_of bytes number text name written (Err (Refused n who why)) s = (s.0.0, s.0.1, s.1)
certifies_of bytes number text name written (Err (ReadFailed who)) s = absurd s
certifies_of bytes number text name written (Err (PutFailed who)) s = tt
certifies_of bytes number text name written (Err Memory) s = absurd s

-- without an answer nothing is said of files
pub no_answer_seen : {T : Type 0} (bytes : T → List ℕ) (written : List ℕ) (refusal : Refusal) → HasNoAnswer refusal
    → result_seen {T = T} bytes written (Err refusal) ≡ Err Memory
no_answer_seen bytes written (Refused n who why) none = absurd none
no_answer_seen bytes written (ReadFailed who) none = absurd none
no_answer_seen bytes written (PutFailed who) none = refl
no_answer_seen bytes written Memory none = refl

-- a file that can't be read is told as it is, and nothing is staged
pub unread_seen : {T : Type 0} (U : Type 0) (bytes : T → List ℕ) (written : List ℕ) (refusal : Refusal) (before after : ℕ)
    → ReadCause {T = U} (Err refusal) before after → result_seen {T = T} bytes written (Err refusal) ≡ Err refusal
unread_seen U bytes written (Refused n who why) before after cause = refl
unread_seen U bytes written (ReadFailed who) before after cause = refl
unread_seen U bytes written (PutFailed who) before after cause = absurd cause
unread_seen U bytes written Memory before after cause = refl

pub unread_staged : {T : Type 0} (U : Type 0) (outs : List (List ℕ)) (named bytes : T → List ℕ) (refusal : Refusal) (before after : ℕ)
    → ReadCause {T = U} (Err refusal) before after → StagedBy {T = T} outs named bytes (Err refusal) before after []
unread_staged U outs named bytes (Refused n who why) before after cause = (inl refl, cause)
unread_staged U outs named bytes (ReadFailed who) before after cause = (refl, cause)
unread_staged U outs named bytes (PutFailed who) before after cause = absurd cause
unread_staged U outs named bytes Memory before after cause = (tt, cause)

-- no call is made
pub none_staged : (Such : List PutCall → Type 0) (calls : List Event) → Such [] → Changed Such calls calls
none_staged Such calls such = record { made = []; grown = sym (append-nil calls); such = such }

-- a plain answer stages nothing
pub plain_staged : {T : Type 0} (named bytes : T → List ℕ) (report : Result Report AllocError) (result : Result (StagedAnswer T) Refusal) (faults : ℕ)
    → IsPlain report result → StagedBy [] named bytes result faults faults []
plain_staged {T} named bytes (Ok r) result faults is = subst (λ (x : Result (StagedAnswer T) Refusal). StagedBy [] named bytes x faults faults []) (sym is)
    (refl, refl)
plain_staged {T} named bytes (Err e) result faults is = subst (λ (x : Result (StagedAnswer T) Refusal). StagedBy [] named bytes x faults faults []) (sym is)
    (tt, refl)

-- where memory ran out, any command says so that settles
pub memory_says : {T : Type 0} (puts : List (List ℕ)) (Such : Answer → Type 0) (Wrong : ℕ → List ℕ → Type 0) (bytes : T → List ℕ) (files : Option Told)
    → SaysStaged {T = T} (settles puts Such Wrong) bytes files (Err Memory)
memory_says puts Such Wrong bytes files = record { lost = []; says = record { opened = refl; judges = tt } }

-- a plain answer says what holds of its number and its text
pub plain_says : {T : Type 0} (Such : Answer → Type 0) (Wrong : ℕ → List ℕ → Type 0) (bytes : T → List ℕ) (report : Result Report AllocError)
    (result : Result (StagedAnswer T) Refusal) → IfOk report (λ r. (r.number ≤ 2) × Such (record { number = r.number; text = r.text; puts = [] }))
    → IsPlain report result → (files : Option Told) → SaysStaged (settles [] Such Wrong) bytes files result
plain_says {T} Such Wrong bytes (Ok r) result holds is files =
    subst (SaysStaged (settles [] Such Wrong) bytes files) (sym is)
    (record { lost = []; says = record { opened = refl; judges = record { low = holds.0; holds = holds.1; within = tt } } })
plain_says {T} Such Wrong bytes (Err e) result holds is files = subst (SaysStaged (settles [] Such Wrong) bytes files) (sym is)
    (memory_says [] Such Wrong bytes files)

-- a certified answer says what holds of its number, its text and its certificate
pub staged_says : {T : Type 0} (out : List ℕ) (Such : Answer → Type 0) (Wrong : ℕ → List ℕ → Type 0) (bytes : T → List ℕ) (report : Result Report AllocError)
    (result : Result (StagedAnswer T) Refusal) (Has : List ℕ → Type 0)
    → IfOk report (λ r. (written : List ℕ) × Has written
    × ((files : Option Told) (seen : Result Answer Refusal) → Certifies r.number r.text out written seen → Says (settles (out ∷ []) Such Wrong) files seen []))
    → ((written : List ℕ) → OnOk report (Has written) → CertifiesReport report out written (result_seen bytes written result)) → (files : Option Told)
    → SaysStaged (settles (out ∷ []) Such Wrong) bytes files result
staged_says out Such Wrong bytes (Ok r) result Has holds certifies files = record
    { lost = holds.0; says = holds.2 files (result_seen bytes holds.0 result) (certifies holds.0 holds.1) }
staged_says out Such Wrong bytes (Err e) result Has holds certifies files =
    record {
      lost = [];
      says = subst (λ (seen : Result Answer Refusal). Says (settles (out ∷ []) Such Wrong) files seen []) (sym (certifies [] tt))
          (record { opened = refl; judges = tt });
    }

-- what was staged, as far as it goes
pub staged_or : {T : Type 0} (named bytes : T → List ℕ) (begun : Begun) (report : Result Report AllocError) (file : StagedFile T) (shelf : ShelfState)
    → IfOk report (λ r. (written : List ℕ) × StagedSoFar named bytes begun file shelf written) → IfErr report (λ e. StagedInPart named begun file shelf)
    → (written : List ℕ) × StagedOr named bytes begun report file shelf written
staged_or named bytes begun (Ok r) file shelf done stopped = done
staged_or named bytes begun (Err e) file shelf done stopped = ([], stopped)

-- the report of a file that is told with its certificate
module _ (asked : VerifyWords) (file : File) (pick : Pick) (Has : List ℕ → Type 0) where
  -- what was told, if there was memory
  abbrev Tells : Result Report AllocError → Type 0
  Tells report = IfOk report (λ r. ReportedTo (form_of asked) file pick asked.budget r.number r.text Has)

  told_plain : asked.out ≡ None → (report : Result Report AllocError) → Tells report
      → IfOk report (λ r. (r.number ≤ 2) × Reports asked file pick (record { number = r.number; text = r.text; puts = [] }))
  told_plain none (Ok r) to = (
    few asked file pick to.verdicts to.are r.number r.text to.reported,
    plain_reports asked file pick to.verdicts to.are r.number
        r.text to.reported none,
  )
  told_plain none (Err e) to = tt

  told_certified : (out : List ℕ) → asked.out ≡ Some out → (report : Result Report AllocError) → Tells report
      → IfOk report (λ r. (written : List ℕ) × Has written
      × ((files : Option Told) (seen : Result Answer Refusal) → Certifies r.number r.text out written seen
      → Says (settles (out ∷ []) (Reports asked file pick) (HindersCertificate file pick asked.budget (Some out))) files seen []))
  told_certified out given (Ok r) to =
      let c = to.certified in
      (c.text, c.has, certified_says asked file pick to.verdicts to.are r.number r.text to.reported out given c.text c.certificate c.accepted)
  told_certified out given (Err e) to = tt

  pub told_text : (report : Result Report AllocError) → Tells report → IfOk report (λ r. (written : List ℕ) × Has written)
  told_text (Ok r) to = (to.certified.text, to.certified.has)
  told_text (Err e) to = tt

  -- what the answer without a certificate says
  pub picked_plain : {T : Type 0} (bytes : T → List ℕ) (report : Result Report AllocError) (result : Result (StagedAnswer T) Refusal) → asked.out ≡ None
      → Tells report → IsPlain report result → (files : Option Told) → SaysStaged (report_meaning asked file pick) bytes files result
  picked_plain bytes report result none to is files =
      subst (λ (o : Option (List ℕ)). SaysStaged (settles (may_put o) (Reports asked file pick) (HindersCertificate file pick asked.budget o)) bytes files
      result) (sym none)
      (plain_says (Reports asked file pick) (HindersCertificate file pick asked.budget None) bytes report result (told_plain none report to) is files)

  -- what the answer with one says
  pub picked_certified : {T : Type 0} (out : List ℕ) (bytes : T → List ℕ) (report : Result Report AllocError) (result : Result (StagedAnswer T) Refusal)
      → asked.out ≡ Some out → Tells report →
      ((written : List ℕ) → OnOk report (Has written) → CertifiesReport report out written (result_seen bytes written result)) → (files : Option Told)
      → SaysStaged (report_meaning asked file pick) bytes files result
  picked_certified out bytes report result given to certifies files =
      subst (λ (o : Option (List ℕ)). SaysStaged (settles (may_put o) (Reports asked file pick) (HindersCertificate file pick asked.budget o)) bytes files
      result) (sym given)
      (staged_says out (Reports asked file pick) (HindersCertificate file pick asked.budget (Some out)) bytes report result Has
      (told_certified out given report to) certifies files)

-- whatever came of a report, no file is changed
pub kept_or : {T : Type 0} (named bytes : T → List ℕ) (begun : Begun) (report : Result Report AllocError) (file : StagedFile T) (shelf : ShelfState)
    (written : List ℕ) → StagedOr named bytes begun report file shelf written → shelf.files ≡ begun.before.files
kept_or named bytes begun (Ok r) file shelf written h = h.kept
kept_or named bytes begun (Err e) file shelf written h = h.kept

-- a file that can't be begun for want of memory
pub refused_staged : {T : Type 0} (out : List ℕ) (named bytes : T → List ℕ) (faults faults' : ℕ) (before after : List Event)
    → Changed (AreStaging (out ∷ [])) before after → faults' ≡ faults
    → Changed (StagedBy {T = T} (out ∷ []) named bytes (Err Memory) faults faults') before after
refused_staged out named bytes faults faults' before after refused calm = record { made = refused.made; grown = refused.grown; such = (refused.such, calm) }

-- in memory it doesn't matter where a file was begun
pub nowhere : Begun
nowhere = record { name = []; before = record { files = None; calls = []; faults = 0 } }
