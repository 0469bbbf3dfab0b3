-- what `search` prints of the values that were tried is so
use Rattle.ta_program.specs.SearchWords.{terms_of}
use Rattle.ta_program.proofs.Common.{verdict_safe, Budget, ◌≡◌, ◌+◌, ℕ, Bool, true, false, List, [], ◌∷◌, Option, refl, sym, subst, inl}
use Rattle.ta_program.proofs.Common.{inr, arith, if◌then◌else◌, list_any, AllByRecursion, File, Pattern, unit_steps, Told, Verdict, Safe, Unsafe}
use Rattle.ta_program.proofs.Common.{Spent, Overflow, VerdictHolds, View, filled_text, held}
use Rattle.ta_base.specs.declared.limits.Limits.{Limits}
use Rattle.ta_search.specs.declared.terms.Terms.{Terms}
use Rattle.ta_program.proofs.UnsafePrinted.{unsafe_occurs}
use Rattle.ta_program.specs.Search.{SearchHolds, leaves_unknown}
use Rattle.ta_program.specs.SearchWords.{SearchWords}
use Rattle.ta_program.specs.Tries.{EachTried, OutcomeMeans}
use Rattle.ta_automaton.specs.Runs as runs
use Rattle.ta_search.specs.Outcomes.{OutcomeHolds, is_safe, safe_before}
use Rattle.ta_search.specs.Searching.{AreTried, IsTried}
use Rattle.ta_search.specs.Vectors.{vectors}
use Rattle.ta_search.specs.declared.outcome.Outcome.{Outcome}
use Rattle.ta_search.specs.declared.outcome.Outcome.TheVariants as outcome
use Rattle.ta_search.specs.declared.outcome.Tried.{Tried}
use Rattle.ta_search.specs.declared.template.Template.{Template}
use Rattle.ta_shelf.specs.Calls.{Put}
use Rattle.ta_verdict.specs.Verdicts.{EachHolds}
use Rattle.std.specs.Prelude.{◌↔◌}

-- patterns whose verdicts all say safe are safe
all_safe : (file : File) (budget : Budget) (number : ℕ) (ps : List Pattern) (vs : List Verdict) → EachHolds (VerdictHolds file budget) number ps vs
    → AllByRecursion (λ v. is_safe v ≡ true) vs → AllByRecursion (runs.Safe file.automaton) ps
all_safe file budget number [] vs h all = tt
all_safe file budget number (p ∷ ps) [] h all = absurd h
all_safe file budget number (p ∷ ps) (Safe nodes leaves ∷ vs) h all =
    (verdict_safe file budget number p nodes leaves h.0, all_safe file budget (number + 1) ps vs h.1 all.1)
all_safe file budget number (p ∷ ps) (Unsafe nodes run ∷ vs) h all = let e = all.0 in absurd (cc)
all_safe file budget number (p ∷ ps) (Spent nodes ∷ vs) h all = let e = all.0 in absurd (cc)
all_safe file budget number (p ∷ ps) (Overflow node kind ∷ vs) h all = let e = all.0 in absurd (cc)

outcome_means : (bytes : List ℕ) (terms : Terms) (o : Outcome) → OutcomeHolds bytes terms o → OutcomeMeans terms.limits bytes o
outcome_means bytes terms outcome.Long h = tt
outcome_means bytes terms (outcome.Refused e) h = tt
outcome_means bytes terms outcome.Empty h = record { file = h.file; legal = h.sampled.legal; none = h.sampled.sample.holds.none }
outcome_means bytes terms (outcome.SampleUnknown s) h = tt
outcome_means bytes terms (outcome.Unsafe name run) h =
    let place = safe_before h.verdicts in
    let here = h.decides.pattern in
    let holds = held (VerdictHolds h.file terms.budget) h.file.patterns h.verdicts h.judged.verdicts.hold place h.p (Unsafe h.nodes h.run) here
    h.decides.verdict in
    let known = unsafe_occurs h.file terms.budget place h.p h.nodes h.run here holds in
    record {
      file = h.file;
      legal = h.judged.sampled.legal;
      number = place;
      pattern = h.p;
      among = here;
      named = h.named;
      first = known.first;
      rules = unit_steps h.run.lines;
      occurs = known.occurs;
    }
outcome_means bytes terms (outcome.Unknown name v) h = tt
outcome_means bytes terms (outcome.Safe certificate) h = record {
  file = h.file;
  legal = h.judged.sampled.legal;
  safe = all_safe h.file terms.budget 0 h.file.patterns h.verdicts h.judged.verdicts.hold h.all;
  parameters = h.judged.sampled.sample.holds.parameters;
  start = h.judged.sampled.sample.holds.start;
}

abbrev MeansSo : Limits → Template → Tried → Type 0
MeansSo l t x = OutcomeMeans l (filled_text t x.values) x.outcome

one_means : (t : Template) (terms : Terms) (v : List ℕ) (x : Tried) → IsTried t terms v x → MeansSo terms.limits t x
one_means t terms v x is = outcome_means (filled_text t x.values) terms x.outcome
    (subst (λ (w : List ℕ). OutcomeHolds (filled_text t w) terms x.outcome) (sym is.values) is.holds)

tries_mean : (t : Template) (terms : Terms) (vs : List (List ℕ)) (xs : List Tried) (found : Bool) → AreTried t terms vs xs found
    → AllByRecursion (MeansSo terms.limits t) xs
tries_mean t terms [] [] found h = tt
tries_mean t terms [] (x ∷ xs) found h = absurd h
tries_mean t terms (v ∷ vs) [] found h = absurd h
tries_mean t terms (v ∷ vs) (x ∷ xs) found h = (
  one_means t terms v x h.0,
  elim h.1 [
    | inl ends ↦ subst (λ (ys : List Tried). AllByRecursion (MeansSo terms.limits t) ys) (sym ends.last) tt
    | inr more ↦ tries_mean t terms vs xs found more.1
  ],
)

found_exactly : (found some : Bool) (n : ℕ) → (if found then 0 else (if some then 2 else 1)) ≡ n → (found ≡ true) ↔ (n ≡ 0)
found_exactly true some n e = (λ is. sym e, λ none. refl)
found_exactly false true n e = (λ is. absurd (cc), λ none. absurd (omega (arith, e, none)))
found_exactly false false n e = (λ is. absurd (cc), λ none. absurd (omega (arith, e, none)))

pub tries_printed : (number : ℕ) (view : View) (asked : SearchWords) (files files' : Option Told) (written written' : Option (List ℕ)) (made : List Put)
    → SearchHolds number view asked files files' written written' made → EachTried number view asked written written'
tries_printed number view asked files files' written written' made h = record {
  template = h.template;
  is_template = h.is_template;
  end = h.end;
  gained = h.wrote;
  means = tries_mean h.template (terms_of asked) (vectors h.template.holes) h.end.tried h.end.found h.is_end;
  found = found_exactly h.end.found (list_any (λ (x : Tried). leaves_unknown x.outcome) h.end.tried) number h.numbered;
}
