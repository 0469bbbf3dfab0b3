-- The certificate of the patterns that are safe.
use Rattle.std.specs.Prelude.{ℕ, ◌+◌, ◌≡◌, Bool, true, false, List, [], ◌∷◌, map, Option, None, Some}
use Rattle.ta_automaton.specs.Narrow.{IsWithin}
use Rattle.ta_base.specs.declared.limits.Limits.{Limits}
use Rattle.ta_automaton.specs.declared.file.File.{File}
use Rattle.ta_automaton.specs.declared.pattern.Pattern.{Pattern}
use Rattle.ta_cert.specs.Certificates.{cert_text, question_text}
use Rattle.ta_cert.specs.declared.line.Node.{Node}
use Rattle.ta_cert.specs.declared.line.Order.{Order}
use Rattle.ta_cert.specs.declared.line.Proof.{Proof}
use Rattle.ta_check.specs.Certificate.{Certificate}
use Rattle.ta_encode.specs.PatternSearch.{pattern_search}
use Rattle.ta_moments.specs.Refutes.{of_events}
use Rattle.ta_moment_tree.specs.Makers.{moments_of}
use Rattle.ta_report.specs.Picked.{first_picked, picked}
use Rattle.ta_report.specs.declared.pick.Pick.{Pick}
use Rattle.ta_report.specs.declared.pick.Pick.TheVariants.{All}
use Rattle.ta_report.specs.declared.verdict.Verdict.{Verdict}
use Rattle.ta_report.specs.declared.verdict.Verdict.TheVariants.{Safe, Unsafe, Spent, Overflow}
use Rattle.ta_walk.specs.Ends.{TreeIs}
use Rattle.ta_walk.specs.FoundOrders.{FoundOrders}
use Rattle.ta_verdict.specs.Verdicts.{AreVerdictsOn, UnderOrders}
use Rattle.ta_verdict.specs.declared.budget.Budget.{Budget}

-- how many nodes the tree of a pattern has that a verdict calls safe
abbrev pub tree_size : Verdict → Option ℕ
tree_size (Safe nodes leaves) = Some nodes
tree_size (Unsafe nodes run) = None
tree_size (Spent nodes) = None
tree_size (Overflow node kind) = None

-- a pattern that is called safe: its number, and how many nodes its tree has
pub record SafeOne : Type 0 where
  pub number : ℕ
  pub pattern : Pattern
  pub nodes : ℕ

abbrev pub with_safe : ℕ → Pattern → Option ℕ → List SafeOne → List SafeOne
with_safe number p None rest = rest
with_safe number p (Some nodes) rest = record { number = number; pattern = p; nodes = nodes } ∷ rest

-- the patterns that verdicts call safe, in order; the first pattern has this number
abbrev pub safe_ones : ℕ → List Pattern → List Verdict → List SafeOne
safe_ones number [] vs = []
safe_ones number (p ∷ ps) [] = []
safe_ones number (p ∷ ps) (v ∷ vs) = with_safe number p (tree_size v) (safe_ones (number + 1) ps vs)

-- the picked patterns of a file that verdicts call safe
abbrev pub safe_picked : File → Pick → List Verdict → List SafeOne
safe_picked file pick vs = safe_ones (first_picked pick) (picked pick file.patterns) vs

-- their numbers
abbrev pub safe_among : File → Pick → List Verdict → List ℕ
safe_among file pick vs = map (λ one. one.number) (safe_picked file pick vs)

-- the numbers of a file's patterns that verdicts call safe
abbrev pub safe_numbers : File → List Verdict → List ℕ
safe_numbers file vs = safe_among file All vs

-- for a pattern that is called safe: a fact about the pattern, the nodes, and how many these are
pub record HasNodes (Tree : Pattern → List Node → ℕ → Type 0) (one : SafeOne) (proof : Proof) : Type 0 where
  pub numbered : proof.pattern ≡ one.number
  pub is : Tree one.pattern proof.nodes one.nodes

-- nodes for each, in order, and no other
abbrev pub AreTreesOf : (Pattern → List Node → ℕ → Type 0) → List SafeOne → List Proof → Type 0
AreTreesOf Tree [] [] = Unit {0}
AreTreesOf Tree [] (proof ∷ proofs) = ⊥
AreTreesOf Tree (one ∷ ones) [] = ⊥
AreTreesOf Tree (one ∷ ones) (proof ∷ proofs) = HasNodes Tree one proof × AreTreesOf Tree ones proofs

-- the nodes are those of a pattern's tree, within this many: of its schemas under the orders that are found, or of its moments
abbrev pub tree_by : Bool → File → ℕ → Pattern → List Node → ℕ → Type 0
tree_by false file most p nodes count = UnderOrders file (λ pairs. TreeIs (pattern_search file.automaton p pairs) most nodes count)
tree_by true file most p nodes count = TreeIs (moments_of file.automaton p of_events) most nodes count

abbrev pub tree_under : File → Budget → Pattern → List Node → ℕ → Type 0
tree_under file budget p nodes count = tree_by budget.lazy file budget.nodes p nodes count

-- a tree for each, in order, and no other
abbrev pub AreTrees : File → Budget → List SafeOne → List Proof → Type 0
AreTrees file budget ones proofs = AreTreesOf (tree_under file budget) ones proofs

-- the text of trees of schemas, with the orders that are found
pub record WordsText (file : File) (trees : List Proof) (text : List ℕ) : Type 0 where
  pub orders : List Order
  pub found : FoundOrders file.automaton orders
  pub written : text ≡ cert_text orders trees

-- the text of trees of schemas or of moments
abbrev pub text_by : Bool → File → List Proof → List ℕ → Type 0
text_by false file trees text = WordsText file trees text
text_by true file trees text = text ≡ question_text trees

-- the certificate of the picked patterns that verdicts call safe: the text of their trees, in the order of the file
pub record CertificateOn (file : File) (pick : Pick) (budget : Budget) (verdicts : List Verdict) (text : List ℕ) : Type 0 where
  pub trees : List Proof
  pub are : AreTrees file budget (safe_picked file pick verdicts) trees
  pub text_is : text_by budget.lazy file trees text

-- that of the patterns that verdicts call safe
abbrev pub CertificateOf : File → Budget → List Verdict → List ℕ → Type 0
CertificateOf file budget verdicts text = CertificateOn file All budget verdicts text

-- what has a text has the certificate of the picked patterns that verdicts call safe, which the checker accepts as one of exactly these, with
-- lines as long as any limits allow within which the file is
pub record Certified (file : File) (pick : Pick) (budget : Budget) (verdicts : List Verdict) (Has : List ℕ → Type 0) : Type 0 where
  pub text : List ℕ
  pub has : Has text
  pub certificate : CertificateOn file pick budget verdicts text
  pub accepted : (l : Limits) → IsWithin l file.automaton → Certificate file l.line_bytes text (safe_among file pick verdicts)

-- a file has one certificate of its picked patterns for a budget
abbrev pub CertificatesAreDetermined : Type 0
CertificatesAreDetermined =
    (file : File) (pick : Pick) (budget : Budget) (vs ws : List Verdict) (text other : List ℕ)
    → AreVerdictsOn file pick budget vs → AreVerdictsOn file pick budget ws
    → CertificateOn file pick budget vs text → CertificateOn file pick budget ws other → text ≡ other
