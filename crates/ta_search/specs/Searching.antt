-- The search for values of a template's holes with which every pattern is safe.
use Rattle.std.specs.Prelude.{ℕ, ◌≡◌, Bool, true, false, List, [], ◌∷◌, ◌++◌, length, ◌⊎◌}
use Rattle.std.specs.List.{AllByRecursion, range_with_len}
use Rattle.ta_automaton.specs.declared.file.File.{File}
use Rattle.ta_automaton.specs.Runs as runs
use Rattle.ta_check.specs.Certificate.{Certificate}
use Rattle.ta_encode.specs.Sample.{HasStart}
use Rattle.ta_base.specs.declared.limits.Limits.{Limits}
use Rattle.ta_meaning.specs.Reading.{Legal}
use Rattle.ta_search.specs.declared.outcome.Outcome.{Outcome}
use Rattle.ta_search.specs.declared.outcome.Outcome.TheVariants as outcome
use Rattle.ta_search.specs.declared.outcome.SearchEnd.{SearchEnd}
use Rattle.ta_search.specs.declared.outcome.Tried.{Tried}
use Rattle.ta_search.specs.declared.template.Template.{Template}
use Rattle.ta_search.specs.Filling.{filled_text}
use Rattle.ta_search.specs.Outcomes.{OutcomeHolds}
use Rattle.ta_search.specs.Vectors.{vectors}
use Rattle.ta_search.specs.declared.terms.Terms.{Terms}

-- whether an outcome is Safe
abbrev pub is_found : Outcome → Bool
is_found outcome.Long = false
is_found (outcome.Refused e) = false
is_found outcome.Empty = false
is_found (outcome.SampleUnknown s) = false
is_found (outcome.Unsafe name run) = false
is_found (outcome.Unknown name v) = false
is_found (outcome.Safe certificate) = true

-- a vector was tried: it is listed with the outcome that holds
pub record IsTried (t : Template) (terms : Terms) (vector : List ℕ) (x : Tried) : Type 0 where
  pub values : x.values ≡ vector
  pub holds : OutcomeHolds (filled_text t vector) terms x.outcome

-- the outcome is Safe: the values are found, and no later vector is tried
pub record EndsHere (x : Tried) (behind : List Tried) (found : Bool) : Type 0 where
  pub safe : is_found x.outcome ≡ true
  pub last : behind ≡ []
  pub has_found : found ≡ true

-- these vectors are tried in order, each once, up to the first whose outcome is Safe. If none is Safe, all are tried, and nothing is found.
abbrev pub AreTried : Template → Terms → List (List ℕ) → List Tried → Bool → Type 0
AreTried t terms [] [] found = found ≡ false
AreTried t terms [] (x ∷ xs) found = ⊥
AreTried t terms (v ∷ vs) [] found = ⊥
AreTried t terms (v ∷ vs) (x ∷ xs) found = IsTried t terms v x × (EndsHere x xs found ⊎ ((is_found x.outcome ≡ false) × AreTried t terms vs xs found))

-- the end of the search of a template, by its terms: its vectors are tried
abbrev pub IsSearchEnd : Template → Terms → SearchEnd → Type 0
IsSearchEnd t terms end = AreTried t terms (vectors t.holes) end.tried end.found

-- within these limits the text is that of a file whose patterns are all safe, some parameters have an initial configuration, and these bytes
-- are a certificate that the checker accepts as one of all its patterns
pub record IsFound (l : Limits) (bytes certificate : List ℕ) : Type 0 where
  pub file : File
  pub legal : Legal l bytes file
  pub safe : AllByRecursion (runs.Safe file.automaton) file.patterns
  pub parameters : List ℕ
  pub start : HasStart file.automaton parameters
  pub accepted : Certificate file l.line_bytes certificate (range_with_len 0 (length file.patterns))

-- the last vector that was tried is found: it is listed with a certificate
pub record LastIsFound (t : Template) (l : Limits) (end : SearchEnd) : Type 0 where
  pub before : List Tried
  pub last : Tried
  pub whole : end.tried ≡ before ++ last ∷ []
  pub certificate : List ℕ
  pub said : last.outcome ≡ outcome.Safe certificate
  pub found : IsFound l (filled_text t last.values) certificate

-- a template has one end by the same terms
abbrev pub SearchesAreDetermined : Type 0
SearchesAreDetermined = (t : Template) (terms : Terms) (a b : SearchEnd) → IsSearchEnd t terms a → IsSearchEnd t terms b → a ≡ b
