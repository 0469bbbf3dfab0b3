-- what the commands on runs that come to rest make of FILE's endings
use Rattle.std.specs.Prelude.{IfOk, OnOk}
use Rattle.ta_automaton.specs.Narrow.{IsWithin}
use Rattle.ta_base.specs.declared.limits.Limits.{Limits}
use Rattle.ta_program.specs.Inside.Certifying.{CertifiesReport, IsPlain, SaysStaged}
use Rattle.ta_program.specs.Inside.Found.{PickRefused}
use Rattle.ta_program.specs.Inside.Reported.{RestReportedTo}
use Rattle.ta_program.specs.Rest.{PutsRest}
use Rattle.ta_smt.specs.Named.{IsNamed}
use Rattle.ta_verdict.proofs.rest.VerdictsTold.{ending_of_own, ending_there}
use Rattle.ta_program.specs.declared.telling.Form.{Form}
use Rattle.ta_program.specs.declared.telling.Report.{Report}
use Rattle.ta_program.proofs.Common.{AllocError, ◌≤◌, ◌≡◌, ◌∙◌, ℕ, true, List, [], ◌∷◌, Option, None, Some, Result, Ok, Err, refl, sym, ap, subst}
use Rattle.ta_program.proofs.Common.{arith, length, Automaton, File, Pattern, report_of, ReportSample, Verdict}
use Rattle.ta_program.proofs.Common.{AreRestVerdicts, RestCertificateOf, Told, Answer, Refusal, Refused, ReadFailed, PutFailed, Memory, Meaning, Says}
use Rattle.ta_program.proofs.Common.{ReadCause, finds, finds_memory, finds_wrong, safe_among, IsSample, NoSample, SampleReal, place_of, Certifies}
use Rattle.ta_program.proofs.Common.{EndsRefused, ReportsAndPuts, RestReports, HindersRest, rest_report_meaning, CycleHinders, FileEndings, IsEnds, ends_of}
use Rattle.ta_program.proofs.Common.{QuietRestCertificate, RestBudget, SampleReported, Pick, IsPick, PickHinders, RestWords, StagedAnswer}
use Rattle.ta_program.proofs.Common.{endings_count, file_line, may_put, phrase_text, result_seen, settles, slice_get_within, some_at}
use Rattle.ta_report.specs.declared.verdict.ReportSample.TheVariants as sample
use Rattle.ta_rest.specs.Faults.{EndingsOf}
use Rattle.ta_rest.specs.declared.rest_file.RestFile.{RestFile}
use Rattle.ta_verdict.proofs.rest.TextsAlike.{texts_alike}
use Rattle.ta_walk.specs.Samples.{IsSampleEnd}
use Rattle.ta_walk.specs.declared.end.SampleEnd.TheVariants as samples
use Rattle.ta_program.proofs.Certifying.{few_told, plain_says, settled, staged_says}

-- a file without endings is told of, and nothing more is read
pub ends_refused : (name : List ℕ) (file : File) (puts : List (List ℕ)) (rest : FileEndings → Meaning) (files : Option Told) (refusal : Refusal)
    → EndsRefused name file refusal → Says (finds (IsEnds file) (CycleHinders name file) puts rest) files (Err refusal) []
ends_refused name file puts rest files (Refused number who why) h = let three : number ≡ 3 = h.numbered in finds_wrong (IsEnds file) (CycleHinders name file)
    puts rest files number who why (omega (arith, three)) (omega (arith, three)) h
ends_refused name file puts rest files (ReadFailed who) h = absurd h
ends_refused name file puts rest files (PutFailed who) h = absurd h
ends_refused name file puts rest files Memory h = finds_memory (IsEnds file) (CycleHinders name file) puts rest files

pub refused_cause : (T : Type 0) (name : List ℕ) (file : File) (refusal : Refusal) (count : ℕ) → EndsRefused name file refusal
    → ReadCause {T = T} (Err refusal) count count
refused_cause T name file (Refused number who why) count h = refl
refused_cause T name file (ReadFailed who) count h = absurd h
refused_cause T name file (PutFailed who) count h = absurd h
refused_cause T name file Memory count h = refl

-- what is said of the parameters of an ending's automaton is said of the file's
pub sample_own : (file ending : File) (budget : ℕ) (s : ReportSample) → ending.automaton ≡ file.automaton → IsSample ending budget s → IsSample file budget s
sample_own file ending budget (sample.Sample values) e h = record {
  holds = subst (λ (a : Automaton). SampleReal a budget values) e h.holds;
  fits = (h.fits.0 ∙ ap (λ (a : Automaton). length a.parameters) e, h.fits.1);
}
sample_own file ending budget sample.Empty e h = record { holds = subst (λ (a : Automaton). NoSample a budget) e h.holds; fits = tt }
sample_own file ending budget (sample.Spent count) e h = record
    { holds = subst (λ (a : Automaton). IsSampleEnd a budget (samples.Spent count)) e h.holds; fits = h.fits }
sample_own file ending budget (sample.Overflow node kind) e h = record
    { holds = subst (λ (a : Automaton). IsSampleEnd a budget (samples.Overflow node (place_of kind))) e h.holds; fits = h.fits }

-- a file has the patterns that its endings have, by their names
module _ (file ending : File) (added : ℕ) (ends : EndingsOf file ending added) where
  own_named : (name : List ℕ) (number : ℕ) (q : Pattern) → IsNamed ending.patterns name number q → (p : Pattern) × IsNamed file.patterns name number p
  own_named name number q is =
      let own = some_at file.patterns number
      (omega (arith, slice_get_within ending.patterns number q is.at, endings_count file.patterns ending.patterns ends.patterns)) in
      let of = ending_of_own file.patterns ending.patterns ends.patterns number own.0 q own.1 is.at in
      (own.0, record { at = own.1; named = sym of.name ∙ is.named })

  ending_named : (name : List ℕ) (number : ℕ) (p : Pattern) → IsNamed file.patterns name number p → (q : Pattern) × IsNamed ending.patterns name number q
  ending_named name number p is =
      let there = ending_there file.patterns ending.patterns ends.patterns number p is.at in
      (there.ending, record { at = there.named; named = there.is.name ∙ is.named })

  pub own_pick : (given : Option (List ℕ)) (pick : Pick) → IsPick ending given pick → IsPick file given pick
  own_pick None pick is = is
  own_pick (Some name) pick is =
      let own = own_named name is.number is.pattern is.is in
      record { number = is.number; pattern = own.0; is = own.1; one = is.one }

  own_hinders : (file_name : List ℕ) (given : Option (List ℕ)) (number : ℕ) (line : List ℕ) → PickHinders file_name ending given number line
      → PickHinders file_name file given number line
  own_hinders file_name None number line h = h
  own_hinders file_name (Some name) number line h = record {
    numbered = h.numbered;
    none = λ k p is. let there = ending_named name k p is in h.none k there.0 there.1;
    said = h.said;
  }

  pub own_refused : (file_name : List ℕ) (given : Option (List ℕ)) (refusal : Refusal) → PickRefused file_name ending given refusal
      → PickRefused file_name file given refusal
  own_refused file_name given (Refused number who why) h = own_hinders file_name given number (file_line who.now (phrase_text why)) h
  own_refused file_name given (ReadFailed who) h = h
  own_refused file_name given (PutFailed who) h = h
  own_refused file_name given Memory h = h

-- how the report of `rest` is told
abbrev rest_form : RestWords → Form
rest_form asked = record { rest = true; json = asked.verify.json; all = asked.verify.all }

-- the report on a file's endings is one on the file
module _ (asked : RestWords) (rest : RestFile) (file : File) (ends : EndingsOf file rest.ending.file rest.added) (budget : RestBudget) (pick : Pick)
    (vs : List Verdict) (are : AreRestVerdicts file rest.ending.file rest.added pick budget vs) (number : ℕ) (report : List ℕ)
    (reported : SampleReported (rest_form asked) rest.ending.file pick budget.nodes vs number report) where
  text_own : report ≡ report_of true asked.verify.json file pick reported.sample vs
  text_own = reported.written ∙ texts_alike file rest.ending.file rest.added ends asked.verify.json pick reported.sample vs are.fit

  plain_rest : asked.verify.out ≡ None → RestReports asked file (ends_of rest) budget pick (record { number = number; text = report; puts = [] })
  plain_rest none = record {
    sample = reported.sample;
    is_sample = sample_own file rest.ending.file budget.nodes reported.sample ends.automaton reported.is_sample;
    verdicts = vs;
    are = are;
    numbered = reported.numbered;
    written = text_own;
    puts = subst (λ (o : Option (List ℕ)). PutsRest rest.ending.file pick budget vs o []) (sym none) refl;
  }

  module _ (out : List ℕ) (given : asked.verify.out ≡ Some out) (text : List ℕ) (certificate : RestCertificateOf rest.ending.file pick budget vs text)
      (accepted : (l : Limits) → IsWithin l rest.ending.file.automaton
      → QuietRestCertificate rest.ending.file budget.silent l.line_bytes text (safe_among rest.ending.file pick vs)) where
    reports : (answer : Answer) → ReportsAndPuts number report out text answer → RestReports asked file (ends_of rest) budget pick answer
    reports answer c = record {
      sample = reported.sample;
      is_sample = sample_own file rest.ending.file budget.nodes reported.sample ends.automaton reported.is_sample;
      verdicts = vs;
      are = are;
      numbered = c.numbered ∙ reported.numbered;
      written = c.written ∙ text_own;
      puts = subst (λ (o : Option (List ℕ)). PutsRest rest.ending.file pick budget vs o answer.puts) (sym given) (record {
        put = c.put;
        only = c.only;
        named = c.named;
        certificate = subst (RestCertificateOf rest.ending.file pick budget vs) (sym c.holds) certificate;
        within = (let few = c.within in let same = c.holds in omega (arith, ap length same));
        accepted = λ l few.
            subst (λ (t : List ℕ). QuietRestCertificate rest.ending.file budget.silent l.line_bytes t (safe_among rest.ending.file pick vs)) (sym c.holds)
            (accepted l few);
      });
    }

    certified_says : (files : Option Told) (result : Result Answer Refusal) → Certifies number report out text result
        → Says (settles (out ∷ []) (RestReports asked file (ends_of rest) budget pick) (HindersRest file (ends_of rest) budget pick (Some out))) files result []
    certified_says =
        settled (RestReports asked file (ends_of rest) budget pick) (HindersRest file (ends_of rest) budget pick (Some out)) number report out text
        (few_told asked.verify.all reported.sample vs number reported.numbered) reports
        (λ n line same said longer. record
        { numbered = same; said = said; long = record { verdicts = vs; are = are; text = text; certificate = certificate; longer = longer } })

-- the report of a file's endings that is told with its certificate
module _ (asked : RestWords) (rest : RestFile) (budget : RestBudget) (pick : Pick) (Has : List ℕ → Type 0) where
  -- what was told, if there was memory
  abbrev Tells : Result Report AllocError → Type 0
  Tells report = IfOk report (λ r. RestReportedTo (rest_form asked) rest pick budget r.number r.text Has)

  pub rest_text_has : (report : Result Report AllocError) → Tells report → IfOk report (λ r. (written : List ℕ) × Has written)
  rest_text_has (Ok r) to = (to.certified.text, to.certified.has)
  rest_text_has (Err e) to = tt

  module _ (file : File) (ends : EndingsOf file rest.ending.file rest.added) where
    told_plain : asked.verify.out ≡ None → (report : Result Report AllocError) → Tells report
        → IfOk report (λ r. (r.number ≤ 2) × RestReports asked file (ends_of rest) budget pick (record { number = r.number; text = r.text; puts = [] }))
    told_plain none (Ok r) to = (
      few_told asked.verify.all to.reported.sample to.verdicts r.number to.reported.numbered,
      plain_rest asked rest file ends budget pick
          to.verdicts (to.are file ends) r.number r.text to.reported none,
    )
    told_plain none (Err e) to = tt

    told_certified : (out : List ℕ) → asked.verify.out ≡ Some out → (report : Result Report AllocError) → Tells report
        → IfOk report (λ r. (written : List ℕ) × Has written
        × ((files : Option Told) (seen : Result Answer Refusal) → Certifies r.number r.text out written seen
        → Says (settles (out ∷ []) (RestReports asked file (ends_of rest) budget pick) (HindersRest file (ends_of rest) budget pick (Some out))) files seen []))
    told_certified out given (Ok r) to =
        let c = to.certified in (
          c.text,
          c.has,
          certified_says asked rest file ends budget pick to.verdicts (to.are file ends) r.number r.text to.reported out given c.text
              c.certificate c.accepted,
        )
    told_certified out given (Err e) to = tt

    -- what the answer without a certificate says
    pub rest_plain : {T : Type 0} (bytes : T → List ℕ) (report : Result Report AllocError) (result : Result (StagedAnswer T) Refusal) → asked.verify.out ≡ None
        → Tells report → IsPlain report result → (files : Option Told)
        → SaysStaged (rest_report_meaning asked file (ends_of rest) budget pick) bytes files result
    rest_plain bytes report result none to is files =
        subst (λ (o : Option (List ℕ)). SaysStaged
        (settles (may_put o) (RestReports asked file (ends_of rest) budget pick) (HindersRest file (ends_of rest) budget pick o)) bytes files result)
        (sym none)
        (plain_says (RestReports asked file (ends_of rest) budget pick) (HindersRest file (ends_of rest) budget pick None) bytes report result
        (told_plain none report to) is files)

    -- and what that with one says
    pub rest_certified : {T : Type 0} (out : List ℕ) (bytes : T → List ℕ) (report : Result Report AllocError) (result : Result (StagedAnswer T) Refusal)
        → asked.verify.out ≡ Some out → Tells report →
        ((written : List ℕ) → OnOk report (Has written) → CertifiesReport report out written (result_seen bytes written result)) → (files : Option Told)
        → SaysStaged (rest_report_meaning asked file (ends_of rest) budget pick) bytes files result
    rest_certified out bytes report result given to certifies files =
        subst (λ (o : Option (List ℕ)). SaysStaged
        (settles (may_put o) (RestReports asked file (ends_of rest) budget pick) (HindersRest file (ends_of rest) budget pick o)) bytes files result)
        (sym given)
        (staged_says out (RestReports asked file (ends_of rest) budget pick) (HindersRest file (ends_of rest) budget pick (Some out)) bytes report result Has
        (told_certified out given report to) certifies files)
