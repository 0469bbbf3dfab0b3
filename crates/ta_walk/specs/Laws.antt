-- What a refuted tree of moments shows.
use Rattle.std.specs.Prelude.{ℕ, ◌≡◌, ◌≤◌, List, slice_get, Some}
use Rattle.ta_automaton.specs.declared.file.File.{File}
use Rattle.ta_automaton.specs.declared.pattern.Pattern.{Pattern}
use Rattle.ta_automaton.specs.Runs.{LoopsPure, Safe}
use Rattle.ta_base.specs.declared.limits.TheConstants.{MOST_NODES}
use Rattle.ta_cert.specs.declared.line.Node.{Node}
use Rattle.ta_moments.specs.Refutes.{of_events, of_rest}
use Rattle.ta_moment_tree.specs.Makers.{moments_of}
use Rattle.ta_rest.specs.Faults.{EndingsOf}
use Rattle.ta_rest.specs.Quiet.{QuietRestSafe}
use Rattle.ta_replay.specs.declared.run.Run.{Run}
use Rattle.ta_moments.specs.Refutes.{Asking}
use Rattle.ta_walk.specs.Ends.{IsProof, TreeIs, most_unknowns}
use Rattle.ta_walk.specs.Found.{Found, RunAt}

-- the nodes of a whole tree of a pattern's moments are a proof that the checker accepts, and the pattern is safe
abbrev pub RefutedMomentsHold : Type 0
RefutedMomentsHold =
    (file : File) (number : ℕ) (p : Pattern) → slice_get file.patterns number ≡ Some p → LoopsPure file.automaton
    → (budget : ℕ) → budget ≤ MOST_NODES
    → (nodes : List Node) (count : ℕ) → TreeIs (moments_of file.automaton p of_events) budget nodes count
    → IsProof (most_unknowns file.automaton) (moments_of file.automaton p of_events) nodes × Safe file.automaton p

-- at rest: the nodes of a whole tree of the ending of a file's own pattern are a proof, and no run in which that pattern occurs comes to
-- quiet rest where its last event happens
abbrev pub RefutedRestMomentsHold : Type 0
RefutedRestMomentsHold =
    (file ending : File) (added : ℕ) → EndingsOf file ending added → LoopsPure file.automaton
    → (number : ℕ) (own p : Pattern) → slice_get file.patterns number ≡ Some own → slice_get ending.patterns number ≡ Some p
    → (silent : List ℕ) (budget : ℕ) → budget ≤ MOST_NODES
    → (nodes : List Node) (count : ℕ) → TreeIs (moments_of ending.automaton p (of_rest silent)) budget nodes count
    → IsProof (most_unknowns ending.automaton) (moments_of ending.automaton p (of_rest silent)) nodes × QuietRestSafe file.automaton silent own

-- a whole node has one run
abbrev pub FoundNodesHaveOneRun : Type 0
FoundNodesHaveOneRun =
    (file : File) (number : ℕ) (asking : Asking) (found : Found) (r s : Run)
    → RunAt file number asking found r → RunAt file number asking found s → r ≡ s
