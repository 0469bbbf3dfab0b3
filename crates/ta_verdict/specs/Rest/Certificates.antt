-- The certificate of the patterns that are safe at rest.
use Rattle.std.specs.Prelude.{ℕ, ◌≡◌, Bool, true, false, List, []}
use Rattle.ta_automaton.specs.Narrow.{IsWithin}
use Rattle.ta_base.specs.declared.limits.Limits.{Limits}
use Rattle.ta_automaton.specs.declared.file.File.{File}
use Rattle.ta_automaton.specs.declared.pattern.Pattern.{Pattern}
use Rattle.ta_cert.specs.Certificates.{cert_text, head_text, question_text}
use Rattle.ta_cert.specs.declared.line.Line.TheVariants as line
use Rattle.ta_cert.specs.declared.line.Node.{Node}
use Rattle.ta_cert.specs.declared.line.Proof.{Proof}
use Rattle.ta_check.specs.Certificate.{QuietRestCertificate}
use Rattle.ta_report.specs.declared.pick.Pick.{Pick}
use Rattle.ta_report.specs.declared.verdict.Verdict.{Verdict}
use Rattle.ta_rest.specs.RestSearch.{rest_search}
use Rattle.ta_verdict.specs.Certificates.{AreTreesOf, safe_among, safe_picked}
use Rattle.ta_verdict.specs.Drafts.{ended_line}
use Rattle.ta_walk.specs.Ends.{TreeIs}
use Rattle.ta_moment_tree.specs.Makers.{moments_of}
use Rattle.ta_moments.specs.Refutes.{of_rest}
use Rattle.ta_verdict.specs.Rest.Budgets.{RestBudget}

-- the nodes are those of the tree of an ending, within the budget: of its schemas of rest, or of its moments
abbrev pub rest_tree_by : Bool → File → RestBudget → Pattern → List Node → ℕ → Type 0
rest_tree_by false ending budget p nodes count = TreeIs (rest_search ending.automaton p) budget.nodes nodes count
rest_tree_by true ending budget p nodes count = TreeIs (moments_of ending.automaton p (of_rest budget.silent)) budget.nodes nodes count

abbrev pub rest_tree : File → RestBudget → Pattern → List Node → ℕ → Type 0
rest_tree ending budget p nodes count = rest_tree_by budget.lazy ending budget p nodes count

-- the text of trees of schemas, without pairs, or of trees of moments
abbrev pub rest_text_by : Bool → List Proof → List ℕ
rest_text_by false trees = cert_text [] trees
rest_text_by true trees = question_text trees

-- what stands in front of the proofs: the first line
abbrev pub rest_head : Bool → List ℕ
rest_head false = head_text []
rest_head true = ended_line (line.Header 3)

-- the certificate of the picked patterns that verdicts say are safe: the text of the trees of their endings, in the order of the file
pub record RestCertificateOf (ending : File) (pick : Pick) (budget : RestBudget) (verdicts : List Verdict) (text : List ℕ) : Type 0 where
  pub trees : List Proof
  pub are : AreTreesOf (rest_tree ending budget) (safe_picked ending pick verdicts) trees
  pub written : text ≡ rest_text_by budget.lazy trees

-- what has a text has the certificate of the picked patterns that verdicts say are safe, which the checker accepts as one of exactly these
pub record RestCertified (ending : File) (pick : Pick) (budget : RestBudget) (verdicts : List Verdict) (Has : List ℕ → Type 0) : Type 0 where
  pub text : List ℕ
  pub has : Has text
  pub certificate : RestCertificateOf ending pick budget verdicts text
  pub accepted : (l : Limits) → IsWithin l ending.automaton → QuietRestCertificate ending budget.silent l.line_bytes text (safe_among ending pick verdicts)

-- a file of endings has one certificate for verdicts within a budget
abbrev pub RestCertificatesAreDetermined : Type 0
RestCertificatesAreDetermined =
    (ending : File) (pick : Pick) (budget : RestBudget) (vs : List Verdict) (text other : List ℕ)
    → RestCertificateOf ending pick budget vs text → RestCertificateOf ending pick budget vs other → text ≡ other
