-- Proofs read node by node: what is still to be refuted, and which lists of nodes refute it, one tree after another.
use Rattle.std.specs.Prelude.{◌<◌, ◌≡◌, ◌↔◌, List, [], ◌∷◌, ◌++◌}
use Rattle.ta_cert.specs.declared.line.Node.{Node}
use Rattle.ta_cert.specs.declared.line.Node.TheVariants as node
use Rattle.ta_cert.specs.Tree.{Tree, all_preorder}
use Rattle.ta_encode.specs.Refutes.{IsLeaf, ProofBy}
pub use Rattle.ta_encode.specs.Search.{LeafTest, MayAsk, Pending, Search, answered, bounded, longer, parts}
pub use Rattle.ta_encode.specs.PatternSearch.{all_starts, pattern_search}

-- whether a node may stand: a leaf that meets the test, a split of an unknown of the system, or a node that may ask
abbrev pub MayStand : {E : Type 0} → Search E → LeafTest E → Pending E → Node → Type 0
MayStand s test w (node.Leaf ts) = test w ts
MayStand s test w (node.Split unknown floor) = unknown < s.unknowns w.start w.past
MayStand s test w n = MayAsk s w.start w.past n

-- each node stands at the first item that is left, and what the node leaves of it takes its place
abbrev pub RefutedInOrder : {E : Type 0} → Search E → LeafTest E → List (Pending E) → List Node → Type 0
RefutedInOrder s test ws [] = ws ≡ []
RefutedInOrder s test [] (n ∷ ns) = ⊥
RefutedInOrder s test (w ∷ ws) (n ∷ ns) = MayStand s test w n × RefutedInOrder s test (parts s w n ++ ws) ns

-- nodes refute the starts of a search, one after another, exactly if they are those of a proof
abbrev pub ProofsReadInOrder : {E : Type 0} → (Search E → LeafTest E) → Type 0
ProofsReadInOrder {E} test =
    (s : Search E) (nodes : List Node)
    → RefutedInOrder s (test s) s.roots nodes ↔ ((trees : List Tree) × ProofBy s (test s) trees × (all_preorder trees ≡ nodes))

-- two proofs with the same nodes in preorder are one
abbrev pub ProofsAreDetermined : Type 0 → Type 0
ProofsAreDetermined E =
    (s : Search E) (trees others : List Tree) → ProofBy s (IsLeaf s) trees → ProofBy s (IsLeaf s) others
    → all_preorder trees ≡ all_preorder others
    → trees ≡ others
