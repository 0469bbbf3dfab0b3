-- what `check` and `rest-check` say of proved patterns
use Rattle.ta_program.proofs.Common.{◌≡◌, ◌∙◌, ◌≤◌, ◌+◌, ◌∷◌, [], ℕ, Bool, true, false, List, Option, None, Some, Ok, refl, sym, ap, subst, arith}
use Rattle.ta_program.proofs.Common.{if◌then◌else◌, ◌&&◌, not, length, nat_lt, slice_get}
use Rattle.ta_program.proofs.Common.{AllByRecursion, and_parts, false≢true, zero, suc, File, Pattern, ReportSample, Told, Answer, Refusal, Result}
use Rattle.ta_program.proofs.Common.{Err, Refused, ReadFailed, PutFailed, Memory, Says, replies, endings_count}
use Rattle.std.proofs.lemmas.Option.{none-some}
use Rattle.std.specs.Prelude.{IfSome, IsTrue}
use Rattle.ta_automaton.specs.Runs as runs
use Rattle.ta_base.specs.declared.limits.TheConstants.{DEFAULT_NODES}
use Rattle.ta_report.specs.Check.{is_proved, proofs_text}
use Rattle.ta_report.proofs.CheckSayings.{told_proved}
use Rattle.ta_report.specs.CheckJson.{TellsProved, proofs_of}
use Rattle.ta_report.specs.Report.{SampleFits}
use Rattle.ta_report.specs.declared.verdict.ReportSample.TheVariants as sample
use Rattle.ta_rest.specs.Endings.{Endings}
use Rattle.ta_rest.specs.Faults.{EndingsOf}
use Rattle.ta_verdict.proofs.SamplesMade.{samples_once}
use Rattle.ta_report.proofs.SameNames.{SameNames, proofs_alike}
use Rattle.ta_program.proofs.Resting.{sample_own}
use Rattle.ta_program.specs.CheckWords.{no_options}
use Rattle.ta_program.specs.Proofs.{IsSampleFor, SaysProofs, TellsProofs, are_proved, each_proved, has_start, printed_sample, proofs_number, wants_sample}
use Rattle.ta_program.specs.declared.proof_options.ProofOptions.{ProofOptions}

-- ---- a file leaves one sample, so one status and one text
sample_for_once : (wanted : Bool) (file : File) (s t : Option ReportSample) → IsSampleFor wanted file s → IsSampleFor wanted file t → s ≡ t
sample_for_once wanted file None None h k = refl
sample_for_once wanted file None (Some t) h k = absurd (false≢true (sym h ∙ k.0))
sample_for_once wanted file (Some s) None h k = absurd (false≢true (sym k ∙ h.0))
sample_for_once wanted file (Some s) (Some t) h k = ap (λ (x : ReportSample). Some x) (samples_once file DEFAULT_NODES s t h.1 k.1)

pub says_number : (rest : Bool) (file : File) (options : ProofOptions) (ns ms : List ℕ) → ns ≡ ms → (a b : Answer) → SaysProofs rest file options ns a
    → SaysProofs rest file options ms b → a.number ≡ b.number
says_number rest file options ns ms same a b x y =
    let one = sample_for_once (wants_sample options) file x.tells.sample y.tells.sample x.tells.is_sample y.tells.is_sample in
    x.tells.numbered ∙ ap (λ (s : Option ReportSample). proofs_number options.all file s ns) one ∙ ap (proofs_number options.all file y.tells.sample) same
    ∙ sym y.tells.numbered

-- ---- the status is 0 or 2
two_or_none : (b : Bool) → (if b then 2 else 0) ≤ 2
two_or_none true = omega arith
two_or_none false = omega arith

pub proofs_replied : (rest : Bool) (file : File) (options : ProofOptions) (ns : List ℕ) (files : Option Told) (answer : Answer)
    → SaysProofs rest file options ns answer → Says (replies [] (SaysProofs rest file options ns)) files (Ok answer) []
proofs_replied rest file options ns files answer says =
    let t = says.tells in
    let number = t.numbered in
    let most = two_or_none (options.all && not (has_start t.sample && each_proved file ns)) in
    let low : answer.number ≤ 2 = omega (arith, number, most) in
    record { opened = refl; judges = record { low = low; holds = says; within = rw says.no_put tt } }

-- ---- what is printed of a sample fits
pub printed_fits : (printed wanted : Bool) (file : File) (s : Option ReportSample) → IsSampleFor wanted file s
    → IfSome (printed_sample printed s) (SampleFits file)
printed_fits true wanted file None h = tt
printed_fits true wanted file (Some s) h = h.1.fits
printed_fits false wanted file s h = tt

-- a pattern that the text calls proved is one of the proved ones
pub told_in : (rest : Bool) (file : File) (options : ProofOptions) (ns : List ℕ) (number : ℕ) (text : List ℕ) (t : TellsProofs rest file options ns number text)
    (k : ℕ) (p : Pattern) → slice_get file.patterns k ≡ Some p
    → TellsProved options.json rest p.name text → IsTrue (is_proved ns k)
told_in rest file options ns number text t k p named told =
    let s = printed_sample options.parameters t.sample in
    told_proved options.json rest file s ns k p named (printed_fits options.parameters (wants_sample options) file t.sample t.is_sample)
    (subst (TellsProved options.json rest p.name) t.told told)

-- ---- without options
pub says_plain : (rest : Bool) (file : File) (ns : List ℕ)
    → SaysProofs rest file no_options ns (record { number = 0; text = proofs_text rest file None ns; puts = [] })
says_plain rest file ns = record { tells = record { sample = None; is_sample = refl; numbered = refl; told = refl }; no_put = refl }

-- ---- where all is proved
none_left : (all started each : Bool) → all ≡ true → ◌≡◌ {A = ℕ} (if all && not (started && each) then 2 else 0) 0 → (started ≡ true) × (each ≡ true)
none_left true true true h e = (refl, refl)
none_left true true false h e = absurd (omega (arith, e))
none_left true false each h e = absurd (omega (arith, e))
none_left false started each h e = absurd (false≢true h)

pub all_proved : (rest : Bool) (file : File) (options : ProofOptions) (ns : List ℕ) (number : ℕ) (text : List ℕ)
    (t : TellsProofs rest file options ns number text) → options.all ≡ true → number ≡ 0 → (has_start t.sample ≡ true) × (each_proved file ns ≡ true)
all_proved rest file options ns number text t all none = none_left options.all (has_start t.sample) (each_proved file ns) all (sym t.numbered ∙ none)

pub starts : (wanted : Bool) (file : File) (s : Option ReportSample) → IsSampleFor wanted file s → has_start s ≡ true → (first : runs.Config)
    × runs.Initial file.automaton first
starts wanted file None h e = absurd (false≢true e)
starts wanted file (Some (sample.Sample values)) h e = let start = h.1.holds.start in (start.first, start.initial)
starts wanted file (Some sample.Empty) h e = absurd (false≢true e)
starts wanted file (Some (sample.Spent count)) h e = absurd (false≢true e)
starts wanted file (Some (sample.Overflow node kind)) h e = absurd (false≢true e)

-- ---- what is said of a file's endings is said of the file
names_own : (ps qs : List Pattern) → Endings ps qs → SameNames ps qs
names_own [] [] h = tt
names_own [] (q ∷ qs) h = absurd h
names_own (p ∷ ps) [] h = absurd h
names_own (p ∷ ps) (q ∷ qs) h = (h.0.name, names_own ps qs h.1)

either_own : (file ending : File) (added : ℕ) → EndingsOf file ending added → (in_json : Bool) (s : Option ReportSample) (ns : List ℕ)
    → proofs_of in_json true ending s ns ≡ proofs_of in_json true file s ns
either_own file ending added ends in_json s ns = proofs_alike file ending ends.automaton (names_own file.patterns ending.patterns ends.patterns) in_json true s
    ns

sample_for_own : (file ending : File) → ending.automaton ≡ file.automaton → (wanted : Bool) (s : Option ReportSample) → IsSampleFor wanted ending s
    → IsSampleFor wanted file s
sample_for_own file ending e wanted None h = h
sample_for_own file ending e wanted (Some s) h = (h.0, sample_own file ending DEFAULT_NODES s e h.1)

are_own : (ns : List ℕ) (n : ℕ) (ps qs : List Pattern) → Endings ps qs → are_proved ns n qs ≡ are_proved ns n ps
are_own ns n [] [] h = refl
are_own ns n [] (q ∷ qs) h = absurd h
are_own ns n (p ∷ ps) [] h = absurd h
are_own ns n (p ∷ ps) (q ∷ qs) h = ap (λ (b : Bool). is_proved ns n && b) (are_own ns (n + 1) ps qs h.1)

pub says_own : (file ending : File) (added : ℕ) → EndingsOf file ending added → (options : ProofOptions) (ns : List ℕ) (answer : Answer)
    → SaysProofs true ending options ns answer → SaysProofs true file options ns answer
says_own file ending added ends options ns answer says =
    let t = says.tells in
    let count : length ending.patterns ≡ length file.patterns = endings_count file.patterns ending.patterns ends.patterns in
    record {
      tells = record {
        sample = t.sample;
        is_sample = sample_for_own file ending ends.automaton (wants_sample options) t.sample t.is_sample;
        numbered = t.numbered ∙ ap (λ (n : ℕ). if options.all && not (has_start t.sample && (nat_lt 0 n && are_proved ns 0 ending.patterns)) then 2 else 0)
            count
            ∙ ap (λ (b : Bool). if options.all && not (has_start t.sample && (nat_lt 0 (length file.patterns) && b)) then 2 else 0)
            (are_own ns 0 file.patterns ending.patterns ends.patterns);
        told = t.told ∙ either_own file ending added ends options.json (printed_sample options.parameters t.sample) ns;
      };
      no_put = says.no_put;
    }

pub said_own : (file ending : File) (added : ℕ) → EndingsOf file ending added
    → (options : ProofOptions) (ns : List ℕ) (files : Option Told) (result : Result Answer Refusal)
    → Says (replies [] (SaysProofs true ending options ns)) files result [] → Says (replies [] (SaysProofs true file options ns)) files result []
said_own file ending added ends options ns files (Ok answer) says =
    let h = says.judges in
    record { opened = says.opened; judges = record { low = h.low; holds = says_own file ending added ends options ns answer h.holds; within = h.within } }
said_own file ending added ends options ns files (Err (Refused number name why)) says = record { opened = says.opened; judges = says.judges }
said_own file ending added ends options ns files (Err (ReadFailed name)) says = record { opened = says.opened; judges = says.judges }
said_own file ending added ends options ns files (Err (PutFailed name)) says = record { opened = says.opened; judges = says.judges }
said_own file ending added ends options ns files (Err Memory) says = record { opened = says.opened; judges = says.judges }

-- ---- each pattern, from the numbers of all
proved_at : (ns : List ℕ) (n : ℕ) (ps : List Pattern) (k : ℕ) (p : Pattern) → are_proved ns n ps ≡ true → slice_get ps k ≡ Some p → is_proved ns (n + k) ≡ true
proved_at ns n [] k p all named = absurd (none-some p named)
proved_at ns n (q ∷ ps) zero p all named =
    let here : n + 0 ≡ n = omega arith in
    ap (is_proved ns) here ∙ (and_parts (is_proved ns n) (are_proved ns (n + 1) ps) all).0
proved_at ns n (q ∷ ps) (suc k) p all named =
    let there : n + suc k ≡ (n + 1) + k = omega arith in
    ap (is_proved ns) there ∙ proved_at ns (n + 1) ps k p (and_parts (is_proved ns n) (are_proved ns (n + 1) ps) all).1 named

each_by : (P : Pattern → Type 0) (ps : List Pattern) → ((k : ℕ) (p : Pattern) → slice_get ps k ≡ Some p → P p) → AllByRecursion P ps
each_by P [] h = tt
each_by P (p ∷ ps) h = (h zero p refl, each_by P ps (λ k q e. h (suc k) q e))

first_of : (ps : List Pattern) → nat_lt 0 (length ps) ≡ true → (p : Pattern) × (slice_get ps 0 ≡ Some p)
first_of [] e = absurd (false≢true e)
first_of (p ∷ ps) e = (p, refl)

-- so what is so of the proved ones is so of all, and there is one
pub record EveryOne (P : Pattern → Type 0) (file : File) : Type 0 where
  pub first : Pattern
  pub is_first : slice_get file.patterns 0 ≡ Some first
  pub each : AllByRecursion P file.patterns

pub every_one : (P : Pattern → Type 0) (file : File) (ns : List ℕ) → each_proved file ns ≡ true
    → ((k : ℕ) (p : Pattern) → slice_get file.patterns k ≡ Some p → IsTrue (is_proved ns k) → P p) → EveryOne P file
every_one P file ns each of =
    let parts = and_parts (nat_lt 0 (length file.patterns)) (are_proved ns 0 file.patterns) each in
    let first = first_of file.patterns parts.0 in
    record {
      first = first.0;
      is_first = first.1;
      each = each_by P file.patterns (λ k p named.
          let here : 0 + k ≡ k = omega arith in
          of k p named (ap (is_proved ns) (sym here) ∙ proved_at ns 0 file.patterns k p parts.1 named));
    }
