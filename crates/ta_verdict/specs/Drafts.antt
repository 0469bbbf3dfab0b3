-- A certificate while it is written.
use Rattle.std.specs.List.{concat}
use Rattle.std.specs.Prelude.{ℕ, ◌≡◌, true, List, [], ◌∷◌, ◌++◌, string_bytes, Some}
use Rattle.ta_automaton.specs.declared.pattern.Pattern.{Pattern}
use Rattle.ta_cert.specs.Certificates.{nodes_text, proofs_text}
use Rattle.ta_cert.specs.Lines.{line_text}
use Rattle.ta_cert.specs.declared.line.Line.{Line}
use Rattle.ta_cert.specs.declared.line.Node.{Node}
use Rattle.ta_cert.specs.declared.line.Proof.{Proof}
use Rattle.ta_report.specs.declared.verdict.Verdict.{Verdict}
use Rattle.ta_verdict.specs.declared.pieces.Pieces.{Pieces}
use Rattle.ta_verdict.specs.declared.draft.Draft.{Draft}
use Rattle.ta_verdict.specs.Certificates.{AreTreesOf, SafeOne, tree_size, with_safe}

-- the pieces, and the one that is still open
abbrev pub pieces_text : Pieces → List ℕ
pieces_text pieces = concat pieces.whole.items ++ string_bytes pieces.open

-- if lines are wanted, the draft has these
abbrev pub HasText : Draft → List ℕ → Type 0
HasText draft text = draft.wanted ≡ true → pieces_text draft.lines ≡ text

-- the second draft is the first and the lines of these nodes
pub record DraftKeeps (first now : Draft) (nodes : List Node) : Type 0 where
  pub wanted : now.wanted ≡ first.wanted
  pub text : (begun : List ℕ) → HasText first begun → HasText now (begun ++ nodes_text nodes)

-- the second is a draft of a later part, which has no line so far
pub record DraftBegins (first part : Draft) : Type 0 where
  pub wanted : part.wanted ≡ first.wanted
  pub empty : pieces_text part.lines ≡ []

-- the text of a line, with its line feed
abbrev pub ended_line : Line → List ℕ
ended_line l = line_text l ++ (10 ∷ [])

-- something has a text, which is a certificate before its end: these proofs after a text
abbrev pub HasProofs : (List ℕ → Type 0) → List ℕ → List Proof → Type 0
HasProofs Has head proofs = Has (head ++ proofs_text proofs)

-- the draft has the lines of nodes with a fact about the pattern, if a verdict calls it safe
abbrev pub DraftHasTree : (Pattern → List Node → ℕ → Type 0) → Pattern → Verdict → Draft → Draft → Type 0
DraftHasTree Tree p verdict first now = (nodes : ℕ) → tree_size verdict ≡ Some nodes → (tree : List Node) × Tree p tree nodes × DraftKeeps first now tree

-- after a text there are such nodes of these, and no other proofs
abbrev pub HasTrees : (Pattern → List Node → ℕ → Type 0) → List ℕ → List SafeOne → (List ℕ → Type 0) → Type 0
HasTrees Tree head ones Has = (proofs : List Proof) × AreTreesOf Tree ones proofs × HasProofs Has head proofs

-- such nodes of a pattern were added to what had a text, if a verdict calls it safe
abbrev pub AddsTree : (Pattern → List Node → ℕ → Type 0) → ℕ → Pattern → Verdict → (List ℕ → Type 0) → (List ℕ → Type 0) → Type 0
AddsTree Tree number p verdict Had Has = (head : List ℕ) (proofs : List Proof) → HasProofs Had head proofs → (more : List Proof)
    × AreTreesOf Tree (with_safe number p (tree_size verdict) []) more × HasProofs Has head (proofs ++ more)
