-- what is found is safe
use Rattle.ta_base.specs.declared.limits.Limits.{Limits}
use Rattle.ta_search.proofs.Common.{◌≡◌, ◌∙◌, inl, inr, ℕ, ◌+◌, true, List, [], ◌∷◌, ◌++◌, length, map, refl, sym, ap, subst, append_assoc, false≢true}
use Rattle.ta_search.proofs.Common.{AllByRecursion, File, Pattern, range_with_len, Certificate, Verdict, Safe, Unsafe, Spent, Overflow, SafeOne, safe_ones}
use Rattle.ta_search.proofs.Common.{VerdictsHold, Outcome, Tried, Template, filled_text, IsSafe, OutcomeHolds, is_safe, AreTried, IsFound, IsSearchEnd, IsTried}
use Rattle.ta_search.proofs.Common.{LastIsFound, is_found, vectors, Terms}
use Rattle.ta_automaton.specs.Runs as runs
use Rattle.ta_search.specs.declared.outcome.Outcome.TheVariants as outcome
use Rattle.ta_search.specs.declared.outcome.SearchEnd.{SearchEnd}
use Rattle.ta_verdict.proofs.VerdictsSaid.{verdict_safe}

-- patterns whose verdicts are Safe are safe, and their numbers are all numbers
all_safe :
    (file : File) (terms : Terms) (number : ℕ) (ps : List Pattern) (vs : List Verdict) → VerdictsHold file terms.budget number ps vs
    → AllByRecursion (λ v. is_safe v ≡ true) vs → AllByRecursion (runs.Safe file.automaton) ps
all_safe file terms number [] vs hold all = tt
all_safe file terms number (p ∷ ps) [] hold all = absurd hold
all_safe file terms number (p ∷ ps) (Safe nodes leaves ∷ vs) hold all =
    (verdict_safe file terms.budget number p nodes leaves hold.0, all_safe file terms (number + 1) ps vs hold.1 all.1)
all_safe file terms number (p ∷ ps) (Unsafe nodes run ∷ vs) hold all = absurd (false≢true all.0)
all_safe file terms number (p ∷ ps) (Spent nodes ∷ vs) hold all = absurd (false≢true all.0)
all_safe file terms number (p ∷ ps) (Overflow node kind ∷ vs) hold all = absurd (false≢true all.0)

all_numbers :
    (file : File) (terms : Terms) (number : ℕ) (ps : List Pattern) (vs : List Verdict) → VerdictsHold file terms.budget number ps vs
    → AllByRecursion (λ v. is_safe v ≡ true) vs → map (λ (one : SafeOne). one.number) (safe_ones number ps vs) ≡ range_with_len number (length ps)
all_numbers file terms number [] vs hold all = refl
all_numbers file terms number (p ∷ ps) [] hold all = absurd hold
all_numbers file terms number (p ∷ ps) (Safe nodes leaves ∷ vs) hold all = ap (λ (ks : List ℕ). number ∷ ks)
    (all_numbers file terms (number + 1) ps vs hold.1 all.1)
all_numbers file terms number (p ∷ ps) (Unsafe nodes run ∷ vs) hold all = absurd (false≢true all.0)
all_numbers file terms number (p ∷ ps) (Spent nodes ∷ vs) hold all = absurd (false≢true all.0)
all_numbers file terms number (p ∷ ps) (Overflow node kind ∷ vs) hold all = absurd (false≢true all.0)

is_found_by : (bytes : List ℕ) (terms : Terms) (certificate : List ℕ) → IsSafe bytes terms certificate → IsFound terms.limits bytes certificate
is_found_by bytes terms certificate h =
    let file = h.file in
    let judged = h.judged in
    let sampled = judged.sampled in
    let sample = sampled.sample in
    let real = sample.holds in
    let verdicts = judged.verdicts in
    let numbers = all_numbers file terms 0 file.patterns h.verdicts verdicts.hold h.all in
    record {
      file = file;
      legal = sampled.legal;
      safe = all_safe file terms 0 file.patterns h.verdicts verdicts.hold h.all;
      parameters = real.parameters;
      start = real.start;
      accepted = subst (Certificate file terms.limits.line_bytes certificate) numbers h.accepted;
    }

-- a found outcome has a certificate
record FoundBy (l : Limits) (bytes : List ℕ) (o : Outcome) : Type 0 where
  certificate : List ℕ
  said : o ≡ outcome.Safe certificate
  found : IsFound l bytes certificate

found_by : (bytes : List ℕ) (terms : Terms) (o : Outcome) → OutcomeHolds bytes terms o → is_found o ≡ true → FoundBy terms.limits bytes o
found_by bytes terms outcome.Long h safe = absurd (false≢true safe)
found_by bytes terms (outcome.Refused e) h safe = absurd (false≢true safe)
found_by bytes terms outcome.Empty h safe = absurd (false≢true safe)
found_by bytes terms (outcome.SampleUnknown s) h safe = absurd (false≢true safe)
found_by bytes terms (outcome.Unsafe name run) h safe = absurd (false≢true safe)
found_by bytes terms (outcome.Unknown name v) h safe = absurd (false≢true safe)
found_by bytes terms (outcome.Safe certificate) h safe = record { certificate = certificate; said = refl; found = is_found_by bytes terms certificate h }

last_of :
    (t : Template) (terms : Terms) (before : List Tried) (v : List ℕ) (x : Tried) (end : SearchEnd) → end.tried ≡ before ++ x ∷ [] → IsTried t terms v x
    → is_found x.outcome ≡ true → LastIsFound t terms.limits end
last_of t terms before v x end whole is safe =
    let by = found_by (filled_text t v) terms x.outcome is.holds safe in
    record {
      before = before;
      last = x;
      whole = whole;
      certificate = by.certificate;
      said = by.said;
      found = subst
          (λ (w : List ℕ). IsFound terms.limits (filled_text t w) by.certificate) (sym is.values) by.found;
    }

-- behind those before, the last of these is found
last_found :
    (t : Template) (terms : Terms) (vs : List (List ℕ)) (before later : List Tried) (end : SearchEnd) → end.tried ≡ before ++ later
    → AreTried t terms vs later true → LastIsFound t terms.limits end
last_found t terms [] before [] end whole h = absurd (false≢true (sym h))
last_found t terms [] before (x ∷ xs) end whole h = absurd h
last_found t terms (v ∷ vs) before [] end whole h = absurd h
last_found t terms (v ∷ vs) before (x ∷ xs) end whole h =
    elim h.1 [
      | inl here ↦ last_of t terms before v x end (whole ∙ ap (λ (ys : List Tried). before ++ x ∷ ys) here.last) h.0 here.safe
      | inr later ↦ last_found t terms vs (before ++ x ∷ []) xs end (whole ∙ sym (append_assoc before (x ∷ []) xs)) later.1
    ]

pub found_is_last : (t : Template) (terms : Terms) (end : SearchEnd) → IsSearchEnd t terms end → end.found ≡ true → LastIsFound t terms.limits end
found_is_last t terms end h found = last_found t terms (vectors t.holes) [] end.tried end refl (subst (AreTried t terms (vectors t.holes) end.tried) found h)
