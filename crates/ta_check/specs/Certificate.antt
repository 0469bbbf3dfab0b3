-- Certificates of a file, and that they are sound: what a certificate claims of a pattern holds. A refutation consists of Farkas
-- certificates and integer branchings (Schrijver, Theory of Linear and Integer Programming, 1986).
use Rattle.std.specs.Prelude.{ℕ, ◌≡◌, ◌<◌, ◌^◌, List, [], ◌∷◌, length, map, slice_get, Some}
use Rattle.std.specs.List.{AllByRecursion}
use Rattle.ta_automaton.specs.Narrow.{IsNarrow}
use Rattle.ta_automaton.specs.declared.automaton.Automaton.{Automaton}
use Rattle.ta_automaton.specs.declared.file.File.{File}
use Rattle.ta_automaton.specs.declared.pattern.Pattern.{Pattern}
use Rattle.ta_base.specs.Lists.{Distinct}
use Rattle.ta_automaton.specs.Runs.{InScope, LoopsPure}
use Rattle.ta_cert.specs.Tree.{Tree}
use Rattle.ta_cert.specs.Laws.{AreShort}
use Rattle.ta_cert.specs.Certificates.{AreOrders, AreWritable, cert_lines, pair_of, proofs_of, question_lines}
use Rattle.ta_cert.specs.Lines.{cert_lines_text}
use Rattle.ta_cert.specs.declared.line.Line.{Line}
use Rattle.ta_cert.specs.declared.line.Order.{Order}
use Rattle.ta_cert.specs.declared.line.Proof.{Proof}
use Rattle.ta_words.specs.declared.element.Element.{Element}
use Rattle.ta_implied.specs.Implied.{Good}
use Rattle.ta_implied.specs.Orders.{IsShown}
use Rattle.ta_encode.specs.Laws.{SolvedUnder}
use Rattle.ta_encode.specs.Search.{Search}
use Rattle.ta_encode.specs.Refutes.{ProofBy}
use Rattle.ta_encode.specs.Range.{IsJudged}
use Rattle.ta_rest.specs.Claims.{MayClaim}
use Rattle.ta_rest.specs.declared.claim.Claim.{Claim}
use Rattle.ta_rest.specs.declared.claim.Claim.TheVariants.{Safe, RestSafe}
use Rattle.ta_check.specs.Subjects.{ClaimHolds, Kind, Words, Moments, Subject, claiming, claiming_with, fact_of, search_at}

-- an order's multipliers show its pair
abbrev pub ShowsPair : Automaton → Order → Type 0
ShowsPair a order = IsShown a (pair_of order) order.multipliers

-- trees of a kind that prove, under pairs, what is claimed of the pattern with this number in the file; the check of no leaf leaves the
-- range
pub record ProvesClaim (kind : Kind) (subject : Subject) (pairs : List (ℕ × ℕ)) (numbered : ℕ × List Tree) : Type 0 where
  pub search : Search (fact_of kind)
  pub searched : search_at kind subject pairs numbered.0 ≡ Some search
  pub proves : ProofBy search (IsJudged search) numbered.1

abbrev pub proof_number : (ℕ × List Tree) → ℕ
proof_number numbered = numbered.0

-- which pairs a certificate may have: none for rest, and none with proofs of moments. Rest with silent places has proofs of moments only
abbrev pub may_have : Kind → Claim → List ℕ → List Order → Type 0
may_have Words Safe silent orders = AreOrders orders
may_have Words RestSafe [] orders = orders ≡ []
may_have Words RestSafe (place ∷ silent) orders = ⊥
may_have Moments claim silent orders = orders ≡ []

abbrev pub MayHave : Kind → Subject → List Order → Type 0
MayHave kind subject orders = may_have kind subject.claim subject.silent orders

-- the lines of a certificate with such proofs
abbrev pub lines_of_kind : Kind → List Order → List Proof → List Line
lines_of_kind Words orders proofs = cert_lines orders proofs
lines_of_kind Moments orders proofs = question_lines proofs

-- the text of a good list of pairs, each with multipliers that show it, and of proofs of a kind: under these pairs they prove what is
-- claimed of distinct patterns of the file, whose numbers are in its order; no line has more than `line_bytes` bytes
pub record CertificateFor (subject : Subject) (text : List ℕ) (numbers : List ℕ) : Type 0 where
  pub kind : Kind
  pub orders : List Order
  pub proofs : List (ℕ × List Tree)
  pub written : text ≡ cert_lines_text (lines_of_kind kind orders (proofs_of proofs))
  pub ordered : MayHave kind subject orders
  pub narrow : kind ≡ Words → IsNarrow subject.file.automaton
  pub legal : AreWritable (proofs_of proofs)
  pub short : AreShort subject.line_bytes (lines_of_kind kind orders (proofs_of proofs))
  pub shown : AllByRecursion (ShowsPair subject.file.automaton) orders
  pub good : Good subject.file.automaton (map pair_of orders)
  pub prove : AllByRecursion (ProvesClaim kind subject (map pair_of orders)) proofs
  pub named : numbers ≡ map proof_number proofs
  pub distinct : Distinct numbers

-- what is claimed holds of all these patterns
abbrev pub AllClaimsHold : Subject → List ℕ → Type 0
AllClaimsHold subject numbers = AllByRecursion (ClaimHolds subject.claim subject.file subject.silent) numbers

-- a certificate that patterns of the file are safe, whose lines have at most this many bytes
abbrev pub Certificate : File → ℕ → List ℕ → List ℕ → Type 0
Certificate file limit text numbers = CertificateFor (claiming Safe file limit) text numbers

-- the file's pattern with this number occurs in no run, for any admissible parameters
abbrev pub PatternSafe : File → ℕ → Type 0
PatternSafe file number = ClaimHolds Safe file [] number

-- each of these patterns occurs in no run
abbrev pub AllSafe : File → List ℕ → Type 0
AllSafe file numbers = AllByRecursion (PatternSafe file) numbers

-- a certificate, without pairs, that no run is at rest where the last event of one of these patterns happens
abbrev pub RestCertificate : File → ℕ → List ℕ → List ℕ → Type 0
RestCertificate file limit text numbers = CertificateFor (claiming RestSafe file limit) text numbers

-- no run comes to rest where the last event of one of these patterns happens, for any admissible parameters
abbrev pub AllRestSafe : File → List ℕ → Type 0
AllRestSafe file numbers = AllByRecursion (ClaimHolds RestSafe file []) numbers

-- such a certificate where these places are silent
abbrev pub QuietRestCertificate : File → List ℕ → ℕ → List ℕ → List ℕ → Type 0
QuietRestCertificate file silent limit text numbers = CertificateFor (claiming_with RestSafe file silent limit) text numbers

-- no run comes to quiet rest where the last event of one of these patterns happens, with these silent places; without any, none comes to
-- rest
abbrev pub AllQuietRestSafe : File → List ℕ → List ℕ → Type 0
AllQuietRestSafe file silent numbers = AllByRecursion (ClaimHolds RestSafe file silent) numbers

-- for the pattern with this number in the file: under no set of fall guards that are false at the start does a complete schema that is
-- legal under pairs have a natural solution of its system
pub record PatternUnsolved (file : File) (pairs : List (ℕ × ℕ)) (number : ℕ) : Type 0 where
  pub pattern : Pattern
  pub named : slice_get file.patterns number ≡ Some pattern
  pub none : (start : ℕ) → start < 2 ^ length file.automaton.fall → (word : List Element) (values : List ℕ)
      → ¬ SolvedUnder file.automaton pattern pairs start word values

-- the same of each of these patterns, under no pairs, that is, for all legal schemas
abbrev pub AllUnsolved : File → List ℕ → Type 0
AllUnsolved file numbers = AllByRecursion (PatternUnsolved file []) numbers

-- a certificate of a file shows that its patterns are safe. With proofs of schemas it also shows that their schemas that are legal under
-- its pairs have no solution, and none of their schemas has if no rule with an update is on a cycle
pub record CertificateShows (file : File) (kind : Kind) (pairs : List (ℕ × ℕ)) (numbers : List ℕ) : Type 0 where
  pub safe : AllSafe file numbers
  pub unsolved : kind ≡ Words → AllByRecursion (PatternUnsolved file pairs) numbers
  pub none_solved : InScope file.automaton → AllUnsolved file numbers

abbrev pub CertificatesShow : Type 0
CertificatesShow = (file : File) (limit : ℕ) (text numbers : List ℕ) → LoopsPure file.automaton → (c : Certificate file limit text numbers)
    → CertificateShows file c.kind (map pair_of c.orders) numbers

-- a text is a certificate of at most one list of patterns
abbrev pub CertificatesNameOneList : Type 0
CertificatesNameOneList = (subject : Subject) (text ns ms : List ℕ) → CertificateFor subject text ns → CertificateFor subject text ms → ns ≡ ms

-- the claim may be made of each pattern of the file
abbrev pub MayClaimAll : Subject → Type 0
MayClaimAll subject = AllByRecursion (MayClaim subject.claim) subject.file.patterns

-- then the claim holds of a certificate's patterns
abbrev pub ClaimsHold : Type 0
ClaimsHold = (subject : Subject) (text numbers : List ℕ) → MayClaimAll subject → LoopsPure subject.file.automaton → CertificateFor subject text numbers
    → AllClaimsHold subject numbers
