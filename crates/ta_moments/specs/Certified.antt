-- What the nodes of a certificate say of runs, read as nodes of a search of moments.
use Rattle.std.specs.Prelude.{ℕ, ◌≡◌, ◌≤◌, ◌↔◌, List, length, map, slice_get, Some}
use Rattle.ta_automaton.specs.declared.automaton.Automaton.{Automaton}
use Rattle.ta_automaton.specs.declared.file.File.{File}
use Rattle.ta_automaton.specs.declared.pattern.Pattern.{Pattern}
use Rattle.ta_automaton.specs.Runs.{InScope, LoopsPure, Safe}
use Rattle.ta_cert.specs.declared.line.Node.{Node as TreeNode}
use Rattle.ta_encode.specs.Refutes.{IsLeaf}
use Rattle.ta_encode.specs.InPreorder.{RefutedInOrder as NodesRefute}
use Rattle.ta_encode.specs.Search.{Search}
use Rattle.ta_moments.specs.Facts.{Fact}
use Rattle.ta_moments.specs.InPreorder.{all_lines}
use Rattle.ta_moments.specs.Refutes.{Asking, MomentTree, ProofAsking, of_events, of_rest}
use Rattle.ta_moments.specs.Searched.{Maker, moment_search, node_in}
use Rattle.ta_scope.specs.LongerCycles.{LoopsAlone}
use Rattle.ta_rest.specs.Endings.{IsEnding}
use Rattle.ta_rest.specs.Quiet.{QuietRestSafe}
use Rattle.ta_rest.specs.Rest.{ComeAfterEarlier}
use Rattle.ta_rest.specs.Fair.{FairlySafe}

-- nodes refute the starts of a search in order, with leaves over its rows
abbrev pub RefuteRoots : Search Fact → List TreeNode → Type 0
RefuteRoots s nodes = NodesRefute s (IsLeaf s) s.roots nodes

-- nodes refute the starts exactly if they are those of a proof
abbrev pub MomentNodesAreProofs : Type 0
MomentNodesAreProofs =
    (a : Automaton) (p : Pattern) (asking : Asking) (maker : Maker) (nodes : List TreeNode)
    → RefuteRoots (moment_search a p asking maker) nodes ↔ ((trees : List MomentTree) × ProofAsking a p asking trees × (map node_in (all_lines trees) ≡ nodes))

-- a pattern whose search is refuted occurs in no run, for any admissible parameters and any number of steps
abbrev pub MomentNodesShowSafety : Type 0
MomentNodesShowSafety =
    (file : File) (n : ℕ) (p : Pattern) → slice_get file.patterns n ≡ Some p
    → LoopsPure file.automaton
    → (maker : Maker) (nodes : List TreeNode) → RefuteRoots (moment_search file.automaton p of_events maker) nodes
    → Safe file.automaton p

-- if the search at rest of a pattern with events is refuted, no run in which the pattern occurs comes to quiet rest where its last event
-- happens
abbrev pub MomentRestNodesShowSafety : Type 0
MomentRestNodesShowSafety =
    (a : Automaton) (p : Pattern) → ComeAfterEarlier p → 1 ≤ length p.events → LoopsPure a
    → (silent : List ℕ) (maker : Maker) (nodes : List TreeNode) → RefuteRoots (moment_search a p (of_rest silent) maker) nodes
    → QuietRestSafe a silent p

-- if the search of a pattern's ending is refuted, no run in which the pattern occurs comes to quiet rest
abbrev pub MomentRestNodesShow : Type 0
MomentRestNodesShow =
    (a : Automaton) (p ending : Pattern) → IsEnding p ending → ComeAfterEarlier p → LoopsPure a
    → (silent : List ℕ) (maker : Maker) (nodes : List TreeNode) → RefuteRoots (moment_search a ending (of_rest silent) maker) nodes
    → QuietRestSafe a silent p

-- then the pattern occurs for ever in no fair infinite run, if every cycle of rules is a self-loop
abbrev pub MomentRestNodesShowOfFairRuns : Type 0
MomentRestNodesShowOfFairRuns =
    (file : File) → InScope file.automaton → LoopsAlone file.automaton
    → (n : ℕ) (p ending : Pattern) → slice_get file.patterns n ≡ Some p → IsEnding p ending
    → (silent : List ℕ) (maker : Maker) (nodes : List TreeNode) → RefuteRoots (moment_search file.automaton ending (of_rest silent) maker) nodes
    → FairlySafe file.automaton silent p
