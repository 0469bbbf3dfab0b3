-- The run (counterexample) of a solution of a schema's system.
use Rattle.std.specs.Prelude.{ℕ, ℤ, pos, ◌≡◌, List, [], ◌∷◌, length, map, reverse, slice_get, None, Some}
use Rattle.ta_automaton.specs.declared.automaton.Automaton.{Automaton}
use Rattle.ta_automaton.specs.declared.pattern.Pattern.{Pattern}
use Rattle.ta_automaton.specs.declared.file.File.{File}
use Rattle.std.specs.List.{range_with_len}
use Rattle.ta_automaton.specs.Runs.{InScope}
use Rattle.ta_scope.specs.Arranged.{ArrangedOf}
use Rattle.ta_words.specs.declared.element.Element.{Element}
use Rattle.ta_words.specs.declared.element.Element.TheVariants.{Event, Rise, Fall}
use Rattle.ta_encode.specs.declared.encoded.Solution.{Solution}
use Rattle.ta_encode.specs.declared.meaning.Meaning.{Meaning}
use Rattle.ta_encode.specs.declared.meaning.Meaning.TheVariants.{Parameter, Start, Count, Single}
use Rattle.ta_encode.specs.Unknowns.{meanings}
use Rattle.ta_witness.specs.Values.{unknown_value}
use Rattle.ta_encode.specs.Laws.{SolvedWord}
use Rattle.ta_replay.specs.declared.run.Run.{Run}
use Rattle.ta_replay.specs.Fits.{Fits}
use Rattle.ta_replay.specs.Shows.{Shows}
use Rattle.ta_replay.specs.Replays.{ReplayStays}
use Rattle.ta_replay.specs.Pieces.{Piece, HasFewSteps, pieces_lines}
use Rattle.ta_witness.specs.declared.fault.WitnessFault.{WitnessFault}
use Rattle.ta_witness.specs.declared.fault.WitnessFault.TheVariants.{Overflow, Memory}

-- the schema of a solution is complete and legal for its pattern and start set, and its values are natural numbers that solve the schema's
-- system without bounds
pub record IsSolution (file : File) (solution : Solution) : Type 0 where
  pub pattern : Pattern
  pub named : slice_get file.patterns solution.pattern ≡ Some pattern
  pub values : List ℕ
  pub are : solution.values ≡ map pos values
  pub solved : SolvedWord file.automaton pattern solution.start_mask solution.word values

-- the value that a solution gives the unknown that stands for something; 0 if there is no such unknown
abbrev pub solution_value : Automaton → Pattern → Solution → Meaning → ℤ
solution_value a p solution m = unknown_value (meanings a p solution.start_mask (reverse solution.word)) solution.values m

-- how often each rule fires before element k, if the unknowns have these values
abbrev pub counts_before : Automaton → (Meaning → ℤ) → ℕ → List ℤ
counts_before a value k = map (λ r. value (Count k r)) (range_with_len 0 (length a.rules))

-- how the piece of element k ends: an event is marked; nothing happens at a rise; at a fall the rule whose Single is 1 fires once
abbrev pub EndsPiece : (Meaning → ℤ) → ℕ → Element → Piece → Type 0
EndsPiece value k (Event e) piece = (piece.last ≡ None) × (piece.marks ≡ e ∷ [])
EndsPiece value k (Rise i) piece = (piece.last ≡ None) × (piece.marks ≡ [])
EndsPiece value k (Fall mask) piece = ((r : ℕ) × (piece.last ≡ Some r) × (value (Single k r) ≡ pos 1)) × (piece.marks ≡ [])

-- the piece of element k: the arranged steps of its Counts, and its end
pub record PieceOf (a : Automaton) (value : Meaning → ℤ) (k : ℕ) (element : Element) (piece : Piece) : Type 0 where
  pub steps : ArrangedOf a (counts_before a value k) piece.steps
  pub ends : EndsPiece value k element piece

-- one piece for each element of a schema, in order
pub record PiecesOf (a : Automaton) (value : Meaning → ℤ) (word : List Element) (pieces : List Piece) : Type 0 where
  pub count : length pieces ≡ length word
  pub each : (k : ℕ) (element : Element) (piece : Piece) → slice_get word k ≡ Some element → slice_get pieces k ≡ Some piece → PieceOf a value k element piece

-- the run of a solution: its parameters, its start counts (0 for an initial location that is kept empty), and for each element of its
-- schema the element's piece
pub record WitnessOf (file : File) (solution : Solution) (run : Run) : Type 0 where
  pub pattern : Pattern
  pub named : slice_get file.patterns solution.pattern ≡ Some pattern
  pub same_pattern : run.pattern ≡ solution.pattern
  pub parameters : run.parameters ≡ map (λ i. solution_value file.automaton pattern solution (Parameter i))
      (range_with_len 0 (length file.automaton.parameters))
  pub counts : run.counts ≡ map (λ l. solution_value file.automaton pattern solution (Start l)) file.automaton.initial
  pub pieces : List Piece
  pub are : PiecesOf file.automaton (solution_value file.automaton pattern solution) solution.word pieces
  pub lines : run.lines ≡ pieces_lines pieces

-- a run whose number of steps is at most (guards + events) * (rules + 1), for the pattern that it names
abbrev pub IsShortRun : File → Run → Type 0
IsShortRun file run = (p : Pattern) → slice_get file.patterns run.pattern ≡ Some p → HasFewSteps file.automaton p run.lines

-- the run of a solution shows the pattern, and is short
abbrev pub WitnessesShow : Type 0
WitnessesShow =
    (file : File) → InScope file.automaton
    → (solution : Solution) → IsSolution file solution
    → (run : Run) → WitnessOf file solution run
    → Shows file run × IsShortRun file run

-- a solution has one run
abbrev pub WitnessesAreDetermined : Type 0
WitnessesAreDetermined =
    (file : File) (solution : Solution) (r s : Run) → IsSolution file solution
    → WitnessOf file solution r → WitnessOf file solution s
    → r ≡ s

-- a number of the replay of the solution's run leaves the range
pub record WitnessOutOfRange (file : File) (solution : Solution) : Type 0 where
  pub run : Run
  pub is : WitnessOf file solution run
  pub fits : Fits file run
  pub leaves : ¬ ReplayStays file run

-- why there is no run; "out of memory" is always allowed
abbrev pub WitnessFaultOf : File → Solution → WitnessFault → Type 0
WitnessFaultOf file solution Overflow = WitnessOutOfRange file solution
WitnessFaultOf file solution Memory = Unit {0}
