-- The runs of solutions of systems of rest come to rest.
use Rattle.std.specs.Prelude.{ℕ, ◌≡◌}
use Rattle.std.specs.List.{AllByRecursion}
use Rattle.ta_automaton.specs.declared.file.File.{File}
use Rattle.ta_automaton.specs.Runs.{InScope}
use Rattle.ta_encode.specs.declared.encoded.Solution.{Solution}
use Rattle.ta_rest.specs.Endings.{ComesLast}
use Rattle.ta_rest.specs.Faults.{EndingsOf}
use Rattle.ta_replay.specs.declared.run.Run.{Run}
use Rattle.ta_witness.specs.Witness.{IsSolution, WitnessOf}
use Rattle.ta_witness.specs.Runs.{ComesToRest, EndRests, IsRestSolution, ending_run}

-- a solution of a schema's system of rest solves the schema's system
abbrev pub RestSolutionsSolve : Type 0
RestSolutionsSolve =
    (file : File) (solution : Solution) → IsRestSolution file solution → IsSolution file solution

-- the run of a solution of a system of rest ends in a configuration at rest, where the last event of each pattern comes after all others
abbrev pub RestWitnessesRest : Type 0
RestWitnessesRest =
    (file : File) → InScope file.automaton → AllByRecursion ComesLast file.patterns
    → (solution : Solution) → IsRestSolution file solution
    → (run : Run) → WitnessOf file solution run
    → EndRests file run

-- a run of an ending that comes to rest is, without the mark of an added event, a run of the file's own pattern that comes to rest
abbrev pub OwnRunsRest : Type 0
OwnRunsRest =
    (file ending : File) (added : ℕ) → EndingsOf file ending added
    → (run : Run) → ComesToRest ending (ending_run added run)
    → ComesToRest file run

-- a solution of a system of rest has one run without the mark
abbrev pub RestWitnessesAreDetermined : Type 0
RestWitnessesAreDetermined =
    (ending : File) (added : ℕ) (solution : Solution) (r s : Run) → IsRestSolution ending solution
    → WitnessOf ending solution (ending_run added r) → WitnessOf ending solution (ending_run added s)
    → r ≡ s
