-- What is claimed of a pattern (that it is safe, or safe at rest), and the search whose refutation shows it.
use Rattle.std.specs.Prelude.{ℕ, ◌≤◌, ◌≡◌, List, length, slice_get, Some}
use Rattle.ta_words.specs.declared.element.Element.{Element}
use Rattle.ta_automaton.specs.declared.automaton.Automaton.{Automaton}
use Rattle.ta_automaton.specs.declared.file.File.{File}
use Rattle.ta_automaton.specs.declared.pattern.Pattern.{Pattern}
use Rattle.ta_automaton.specs.Runs.{LoopsPure, Safe as IsSafe}
use Rattle.ta_cert.specs.Tree.{Tree}
use Rattle.ta_implied.specs.Implied.{Good}
use Rattle.ta_encode.specs.PatternSearch.{pattern_search}
use Rattle.ta_encode.specs.Refutes.{IsLeaf, ProofBy}
use Rattle.ta_encode.specs.Search.{Search}
use Rattle.ta_rest.specs.Rest.{RestSafe as IsRestSafe}
use Rattle.ta_rest.specs.RestSearch.{rest_search}
use Rattle.ta_rest.specs.declared.claim.Claim.{Claim}
use Rattle.ta_rest.specs.declared.claim.Claim.TheVariants.{Safe, RestSafe}

-- the search whose schemas are refuted for a claim: a pattern's schemas under pairs of rise guards, or its schemas of rest, which have no
-- pairs
abbrev pub search_for : Claim → Automaton → Pattern → List (ℕ × ℕ) → Search Element
search_for Safe a p pairs = pattern_search a p pairs
search_for RestSafe a p pairs = rest_search a p

-- what is claimed: the pattern occurs in no run, or in no run that comes to rest where the pattern's last event happens
abbrev pub claimed : Claim → Automaton → Pattern → Type 0
claimed Safe a p = IsSafe a p
claimed RestSafe a p = IsRestSafe a p

-- a pattern of which this can be claimed with schemas: for rest it has an event
abbrev pub MayClaim : Claim → Pattern → Type 0
MayClaim Safe p = Unit {0}
MayClaim RestSafe p = 1 ≤ length p.events

-- a proof of a pattern for a claim, under good pairs of rise guards, shows what is claimed
abbrev pub ProofsShowClaims : Type 0
ProofsShowClaims =
    (claim : Claim) (file : File) (number : ℕ) (p : Pattern) → slice_get file.patterns number ≡ Some p
    → MayClaim claim p → LoopsPure file.automaton
    → (pairs : List (ℕ × ℕ)) → Good file.automaton pairs
    → (trees : List Tree) → ProofBy (search_for claim file.automaton p pairs) (IsLeaf (search_for claim file.automaton p pairs)) trees
    → claimed claim file.automaton p
