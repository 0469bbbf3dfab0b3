-- What a certificate is checked for: a file, a claim and silent places; and how many bytes a line of it may have.
use Rattle.std.specs.Prelude.{ℕ, ◌==◌, ◌≡◌, ◌≢◌, ◌⊎◌, cond, List, [], ◌∷◌, slice_get, Option, Some, None, ◌≤◌}
use Rattle.ta_words.specs.declared.element.Element.{Element}
use Rattle.ta_automaton.specs.Narrow.{IsNarrow}
use Rattle.ta_automaton.specs.declared.automaton.Automaton.{Automaton}
use Rattle.ta_automaton.specs.declared.file.File.{File}
use Rattle.ta_automaton.specs.declared.pattern.Pattern.{Pattern}
use Rattle.ta_encode.specs.Search.{Search}
use Rattle.ta_moments.specs.declared.fact.Fact.{Fact}
use Rattle.ta_moments.specs.Refutes.{Asking, of_events, of_rest}
pub use Rattle.ta_moment_tree.specs.Makers.{moments_of}
use Rattle.ta_rest.specs.Quiet.{QuietRestSafe}
use Rattle.ta_rest.specs.Claims.{claimed, search_for}
use Rattle.ta_rest.specs.declared.claim.Claim.{Claim}
use Rattle.ta_rest.specs.declared.claim.Claim.TheVariants.{Safe, RestSafe}

-- a file, what is claimed of its patterns, and the silent places, which do not count for rest; and how many bytes a line of a certificate has
-- at most, its line feed aside
pub record Subject : Type 0 where
  pub claim : Claim
  pub file : File
  pub silent : List ℕ
  pub line_bytes : ℕ

abbrev pub claiming_with : Claim → File → List ℕ → ℕ → Subject
claiming_with claim file silent limit = record { claim = claim; file = file; silent = silent; line_bytes = limit }

-- with no silent places
abbrev pub claiming : Claim → File → ℕ → Subject
claiming claim file limit = claiming_with claim file [] limit

-- what the proofs of a certificate refute: schemas in versions 1 and 2, nodes of moments in version 3
pub data Kind : Type 0 where
  Words : Kind
  Moments : Kind

abbrev pub kind_of : ℕ → Kind
kind_of version = cond (version == 3) Moments Words

-- what is added to a node at a time
abbrev pub fact_of : Kind → Type 0
fact_of Words = Element
fact_of Moments = Fact

-- what may be asked of moments for a claim
abbrev pub asking_for : Claim → List ℕ → Asking
asking_for Safe silent = of_events
asking_for RestSafe silent = of_rest silent

-- the search for a claim on a pattern, of either kind; only schemas have pairs
abbrev pub search_of : (kind : Kind) → Subject → List (ℕ × ℕ) → Pattern → Search (fact_of kind)
search_of Words subject pairs p = search_for subject.claim subject.file.automaton p pairs
search_of Moments subject pairs p = moments_of subject.file.automaton p (asking_for subject.claim subject.silent)

abbrev pub search_in : (kind : Kind) → Subject → List (ℕ × ℕ) → Option Pattern → Option (Search (fact_of kind))
search_in kind subject pairs None = None
search_in kind subject pairs (Some p) = Some (search_of kind subject pairs p)

-- the search for the pattern with this number in the file
abbrev pub search_at : (kind : Kind) → Subject → List (ℕ × ℕ) → ℕ → Option (Search (fact_of kind))
search_at kind subject pairs number = search_in kind subject pairs (slice_get subject.file.patterns number)

-- the versions that a certificate may have: for rest none with pairs, and with silent places only the one with proofs of moments
abbrev pub version_for : Claim → List ℕ → ℕ → Type 0
version_for Safe silent version = version ≤ 3
version_for RestSafe [] version = (version ≡ 1) ⊎ (version ≡ 3)
version_for RestSafe (place ∷ silent) version = version ≡ 3

-- so has the one of a file beyond the narrow limits, whose schemas are too many
abbrev pub HasVersion : Subject → ℕ → Type 0
HasVersion subject version = version_for subject.claim subject.silent version × (version ≢ 3 → IsNarrow subject.file.automaton)

-- what is claimed of a pattern, where these places are silent; without silent places it is what the claim says
abbrev pub claimed_with : Claim → List ℕ → Automaton → Pattern → Type 0
claimed_with Safe silent a p = claimed Safe a p
claimed_with RestSafe [] a p = claimed RestSafe a p
claimed_with RestSafe (place ∷ silent) a p = QuietRestSafe a (place ∷ silent) p

-- what is claimed, where these places are silent, holds of the file's pattern with this number
pub record ClaimHolds (claim : Claim) (file : File) (silent : List ℕ) (number : ℕ) : Type 0 where
  pub pattern : Pattern
  pub named : slice_get file.patterns number ≡ Some pattern
  pub safe : claimed_with claim silent file.automaton pattern
