-- Each text has an answer for every row of limits: tokens and a tree, or a first error.
use Rattle.std.specs.Prelude.{ℕ, ◌≤◌, ◌≡◌, ◌≢◌, ◌⊎◌, List, length}
use Rattle.ta_base.specs.declared.limits.Limits.{Limits}
use Rattle.ta_base.specs.declared.limits.TheConstants.{FILE_BYTES}
use Rattle.ta_syntax.specs.Tokens.{AreTokens, IsRefused}
use Rattle.ta_syntax.specs.Grammar.{PlainTree, IsTree, FileText, file_kinds}
use Rattle.ta_base.specs.LimitRows.{wide}
use Rattle.ta_syntax.specs.Limits.{Counts, at_start, StaysWithin, IsTreeWithin}
use Rattle.ta_syntax.specs.Faults.{kinds, IsStopped, FirstGrammarFault}
use Rattle.ta_syntax.specs.TreeOf.{IsTextOf, IsTreeOf}
use Rattle.ta_syntax.specs.PlainTrees.{plain_tree}
use Rattle.ta_syntax.specs.declared.tokens.Kind.{Kind}
use Rattle.ta_syntax.specs.declared.placed.Token.{Token}
use Rattle.ta_syntax.specs.declared.fault.FileFault.{FileFault}
use Rattle.ta_syntax.specs.declared.fault.FileFault.TheVariants as fault
use Rattle.ta_syntax.specs.declared.tree.Tree.{Tree}

-- at least one of the two holds. (The logic is constructive, so this is stated as "not neither": no test tells which of them holds.)
abbrev pub Either : Type 0 → Type 0 → Type 0
Either A B = ¬ A → ¬ B → ⊥

-- each text has tokens, or a first refused byte
abbrev pub TextsHaveTokens : Type 0
TextsHaveTokens = (bytes : List ℕ) → ((ts : List Token) × AreTokens bytes ts) ⊎ ((refused : ℕ) × IsRefused bytes refused)

-- tokens leave the grammar or its limits at a first token
abbrev pub StopsReading : Limits → (List Kind → Type 0) → Counts → ℕ → List Token → Type 0
StopsReading l L c end ts = (e : FileFault) × (e ≢ fault.Memory) × IsStopped l L c end ts e

-- tokens are those of a file and stay within the limits, or they leave the grammar or its limits at a first token
abbrev pub TokensHaveAnswers : Type 0
TokensHaveAnswers = (l : Limits) (end : ℕ) (ts : List Token)
    → Either (FileText (kinds ts) × StaysWithin l at_start (kinds ts)) (StopsReading l FileText at_start end ts)

-- the scan over the tokens of a tree of the grammar finds nothing past a limit exactly if the tree's lists and parentheses are within the
-- limits
abbrev pub LimitsAgree : Type 0
LimitsAgree = (l : Limits) (t : PlainTree) → IsTree t → (StaysWithin l at_start (file_kinds t) → IsTreeWithin l t)
    × (IsTreeWithin l t → StaysWithin l at_start (file_kinds t))

-- a text of the grammar within the limits has a tree
abbrev pub TreesExist : Type 0
TreesExist = (l : Limits) (bytes : List ℕ) (t : PlainTree) → length bytes ≤ FILE_BYTES → IsTextOf bytes t → IsTreeWithin l t → (tree : Tree)
    × IsTreeOf l bytes tree × (plain_tree tree ≡ t)

-- each tree of the program is within the wide limits
abbrev pub TreesAreWithin : Type 0
TreesAreWithin = (tree : Tree) → IsTreeWithin wide (plain_tree tree)

-- a text has a tree
abbrev pub HasTree : Limits → List ℕ → Type 0
HasTree l bytes = (tree : Tree) × IsTreeOf l bytes tree

-- a text has a first error of its tokens or its grammar
abbrev pub HasGrammarFault : Limits → List ℕ → Type 0
HasGrammarFault l bytes = (e : FileFault) × (e ≢ fault.Memory) × FirstGrammarFault l bytes e

-- a text of at most 4,194,304 bytes has a tree, or a first error of its tokens or its grammar
abbrev pub TextsHaveTrees : Type 0
TextsHaveTrees = (l : Limits) (bytes : List ℕ) → length bytes ≤ FILE_BYTES → Either (HasTree l bytes) (HasGrammarFault l bytes)
