-- what comes of a file by its verdicts
use Rattle.ta_search.proofs.Common.{◌≡◌, ◌≢◌, ◌∙◌, ◌⊎◌, inl, inr, ℕ, suc, ◌+◌, ◌<◌, ◌≤◌, ℤ, false, true, List, [], ◌∷◌, length, Some, None, slice_get, IfOk}
use Rattle.ta_search.proofs.Common.{Result, refl, sym, ap, subst, arith, get_or_from_slice_get, slice_get_within, AllByRecursion, some_at, File, Pattern}
use Rattle.ta_search.proofs.Common.{Certificate, Verdict, Safe, Unsafe, Spent, Overflow, FileFault, CertificateOf, safe_numbers, AreVerdicts, Outcome}
use Rattle.ta_search.proofs.Common.{IsOfPattern, IsFirstNotSafe, HasVerdicts, IsRefusedFilling, IsSafe, IsSampled, OutcomeHolds, is_safe, safe_before}
use Rattle.ta_search.proofs.Common.{VerdictHolds, Terms}
use Rattle.std.proofs.lemmas.List.Sums.{prefix_len_stops}
use Rattle.std.proofs.lemmas.Result.{IfOk-weaker}
use Rattle.ta_base.specs.declared.limits.Limits.{Limits}
use Rattle.ta_meaning.specs.FirstFault.{FirstFault}
use Rattle.ta_report.specs.declared.verdict.ReportSample.TheVariants as sample
use Rattle.ta_syntax.specs.declared.fault.FileFault.TheVariants as fault
use Rattle.ta_verdict.proofs.VerdictsMade.{as_many}
use Rattle.ta_automaton.specs.Numbered.{OfPattern}

-- an error that isn't want of memory refuses a text
pub refused_by :
    (l : Limits) (bytes : List ℕ) (e : FileFault) → length bytes ≤ l.bytes → (e ≡ fault.Memory) ⊎ FirstFault l bytes e → e ≢ fault.Memory
    → IsRefusedFilling l bytes e
refused_by l bytes e within (inl same) other = absurd (other same)
refused_by l bytes e within (inr first) other = record { within = within; first = first; told = other }

-- behind those that are Safe stands one that isn't, or all are
pub other_at : (vs : List Verdict) (v : Verdict) (place : ℕ) → place ≡ safe_before vs → slice_get vs place ≡ Some v → is_safe v ≡ false
other_at vs v place same at =
    let here : slice_get vs (safe_before vs) ≡ Some v = ap (slice_get vs) (sym same) ∙ at in
    let within = slice_get_within vs (safe_before vs) v here in
    ap is_safe (sym (get_or_from_slice_get vs (safe_before vs) v v here)) ∙ prefix_len_stops is_safe vs v within

none_at : (v : Verdict) (vs : List Verdict) → slice_get (v ∷ vs) (1 + safe_before vs) ≡ None → slice_get vs (safe_before vs) ≡ None
none_at v vs none = let e : 1 + safe_before vs ≡ suc (safe_before vs) = omega arith in subst (λ k. slice_get (v ∷ vs) k ≡ None) e none

pub all_before : (vs : List Verdict) → slice_get vs (safe_before vs) ≡ None → AllByRecursion (λ v. is_safe v ≡ true) vs
all_before [] none = tt
all_before (Safe nodes leaves ∷ vs) none = (refl, all_before vs (none_at (Safe nodes leaves) vs none))
all_before (Unsafe nodes run ∷ vs) none = cc
all_before (Spent nodes ∷ vs) none = cc
all_before (Overflow node kind ∷ vs) none = cc

pub numbered :
    (file : File) (terms : Terms) (vs : List Verdict) (v : Verdict) (place : ℕ) → AreVerdicts file terms.budget vs → slice_get vs place ≡ Some v
    → place < length file.patterns
numbered file terms vs v place are at =
    let within = slice_get_within vs place v at in
    let same = as_many (VerdictHolds file terms.budget) 0 file.patterns vs are.hold in
    omega arith

-- the outcome of the pattern that decides holds
decided :
    (bytes : List ℕ) (terms : Terms) (file : File) (vs : List Verdict) (p : Pattern) (v : Verdict) (o : Outcome) → HasVerdicts bytes terms file vs
    → IsFirstNotSafe file vs p v → IsOfPattern file p v o → OutcomeHolds bytes terms o
decided bytes terms file vs p (Safe nodes leaves) o judged decides is = absurd is
decided bytes terms file vs p (Unsafe nodes run) o judged decides is =
    subst (OutcomeHolds bytes terms) (sym is)
    (record { file = file; verdicts = vs; judged = judged; p = p; nodes = nodes; run = run; decides = decides; named = refl; shown = refl })
decided bytes terms file vs p (Spent nodes) o judged decides is =
    subst (OutcomeHolds bytes terms) (sym is) (record { file = file; verdicts = vs; judged = judged; p = p; decides = decides; unknown = refl; named = refl })
decided bytes terms file vs p (Overflow node kind) o judged decides is =
    subst (OutcomeHolds bytes terms) (sym is) (record { file = file; verdicts = vs; judged = judged; p = p; decides = decides; unknown = refl; named = refl })

judged_by :
    (bytes : List ℕ) (terms : Terms) (file : File) (vs : List Verdict) (values : List ℤ) → IsSampled bytes terms file (sample.Sample values)
    → AreVerdicts file terms.budget vs → HasVerdicts bytes terms file vs
judged_by bytes terms file vs values sampled are = record { values = values; sampled = sampled; verdicts = are }

pub pattern_holds :
    {E : Type 0} (bytes : List ℕ) (terms : Terms) (file : File) (vs : List Verdict) (v : Verdict) (place : ℕ) (values : List ℤ) (result : Result Outcome E)
    → IsSampled bytes terms file (sample.Sample values) → AreVerdicts file terms.budget vs → place ≡ safe_before vs → slice_get vs place ≡ Some v
    → OfPattern file place (λ p. IfOk result (IsOfPattern file p v)) → IfOk result (OutcomeHolds bytes terms)
pattern_holds bytes terms file vs v place values result sampled are same at of =
    let here : slice_get vs (safe_before vs) ≡ Some v = ap (slice_get vs) (sym same) ∙ at in
    let p = some_at file.patterns (safe_before vs) (numbered file terms vs v (safe_before vs) are here) in
    let decides : IsFirstNotSafe file vs p.0 v = record { pattern = p.1; verdict = here } in
    IfOk-weaker result (IsOfPattern file p.0 v) (OutcomeHolds bytes terms)
    (λ o is. decided bytes terms file vs p.0 v o (judged_by bytes terms file vs values sampled are) decides is)
    (of p.0 (ap (slice_get file.patterns) same ∙ p.1))

pub safe_holds :
    (bytes : List ℕ) (terms : Terms) (file : File) (vs : List Verdict) (place : ℕ) (values : List ℤ) (text : List ℕ)
    → IsSampled bytes terms file (sample.Sample values) → AreVerdicts file terms.budget vs → place ≡ safe_before vs → slice_get vs place ≡ None
    → CertificateOf file terms.budget vs text → Certificate file terms.limits.line_bytes text (safe_numbers file vs) → IsSafe bytes terms text
safe_holds bytes terms file vs place values text sampled are same none certificate accepted =
    record {
      file = file;
      verdicts = vs;
      judged = judged_by bytes terms file vs values sampled are;
      all = all_before vs (ap (slice_get vs) (sym same) ∙ none);
      certificate = certificate;
      accepted = accepted;
    }
