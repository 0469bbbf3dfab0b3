-- A run while it is made from a solution.
use Rattle.std.specs.Prelude.{ℕ, ℤ, pos, ◌<◌, ◌≤ℤ◌, ◌≡◌, List, ◌++◌, length, map, reverse, slice_get, Option, Some}
use Rattle.std.specs.List.{AllByRecursion, range_with_len}
use Rattle.ta_automaton.specs.declared.automaton.Automaton.{Automaton}
use Rattle.ta_automaton.specs.declared.pattern.Pattern.{Pattern}
use Rattle.ta_automaton.specs.declared.file.File.{File}
use Rattle.ta_counter.specs.Values.{Value}
use Rattle.ta_words.specs.declared.element.Element.{Element}
use Rattle.ta_words.specs.declared.element.Element.TheVariants.{Event, Rise, Fall}
use Rattle.ta_encode.specs.declared.meaning.Meaning.{Meaning}
use Rattle.ta_encode.specs.declared.meaning.Meaning.TheVariants.{Parameter, Start, Single}
use Rattle.ta_encode.specs.declared.encoded.Solution.{Solution}
use Rattle.ta_encode.specs.Unknowns.{meanings}
use Rattle.ta_encode.specs.Laws.{SolvedWord}
use Rattle.ta_replay.specs.declared.run.Run.{Run}
use Rattle.ta_replay.specs.declared.run.RunLine.{RunLine}
use Rattle.ta_replay.specs.declared.run.RunLine.TheVariants.{Mark}
use Rattle.ta_replay.specs.Fits.{LineFits}
use Rattle.ta_replay.specs.Pieces.{Piece, last_lines, piece_lines, pieces_lines}
use Rattle.ta_witness.specs.Values.{unknown_value}
use Rattle.ta_witness.specs.Witness.{EndsPiece, PieceOf, PiecesOf}

-- one natural number for each unknown
pub record AreNaturals (ms : List Meaning) (values : List ℤ) : Type 0 where
  pub count : length values ≡ length ms
  pub natural : AllByRecursion (λ v. pos 0 ≤ℤ v) values

-- numbers that are these values, each natural and in range
pub record AreValues (expected numbers : List ℤ) : Type 0 where
  pub are : numbers ≡ expected
  pub natural : AllByRecursion Value numbers

-- an existing rule is the single step of element k
pub record IsSingle (a : Automaton) (value : Meaning → ℤ) (k r : ℕ) : Type 0 where
  pub exists : r < length a.rules
  pub one : value (Single k r) ≡ pos 1

-- what the end of element k needs: an existing event, or a rule that is the single step
abbrev pub MayEnd : Automaton → Pattern → (Meaning → ℤ) → ℕ → Element → Type 0
MayEnd a p value k (Event e) = e < length p.events
MayEnd a p value k (Rise i) = Unit {0}
MayEnd a p value k (Fall mask) = (r : ℕ) × IsSingle a value k r

-- each element of a schema may end
abbrev pub EachMayEnd : Automaton → Pattern → (Meaning → ℤ) → List Element → Type 0
EachMayEnd a p value word = (k : ℕ) (element : Element) → slice_get word k ≡ Some element → MayEnd a p value k element

-- lines that end the piece of element k are added
pub record AddsPieceEnd (a : Automaton) (p : Pattern) (value : Meaning → ℤ) (k : ℕ) (element : Element) (before after : List RunLine) : Type 0 where
  pub last : Option ℕ
  pub marks : List ℕ
  pub ends : (steps : List (ℕ × ℤ)) → EndsPiece value k element (record { steps = steps; last = last; marks = marks })
  pub added : after ≡ before ++ (last_lines last ++ map Mark marks)
  pub fit : AllByRecursion (LineFits a p) (last_lines last ++ map Mark marks)

-- the lines of the piece of element k are added
pub record AddsPiece (a : Automaton) (p : Pattern) (value : Meaning → ℤ) (k : ℕ) (element : Element) (before after : List RunLine) : Type 0 where
  pub piece : Piece
  pub is : PieceOf a value k element piece
  pub added : after ≡ before ++ piece_lines piece
  pub fit : AllByRecursion (LineFits a p) (piece_lines piece)

-- the lines of the pieces of a schema
pub record AddsPieces (a : Automaton) (p : Pattern) (value : Meaning → ℤ) (word : List Element) (lines : List RunLine) : Type 0 where
  pub pieces : List Piece
  pub are : PiecesOf a value word pieces
  pub made : lines ≡ pieces_lines pieces
  pub fit : AllByRecursion (LineFits a p) lines

-- what a run is made from: the pattern of a solution, what its unknowns stand for, and its values, which solve the schema
pub record IsMadeFrom (file : File) (p : Pattern) (ms : List Meaning) (solution : Solution) : Type 0 where
  pub named : slice_get file.patterns solution.pattern ≡ Some p
  pub unknowns : ms ≡ meanings file.automaton p solution.start_mask (reverse solution.word)
  pub values : List ℕ
  pub are : solution.values ≡ map pos values
  pub solved : SolvedWord file.automaton p solution.start_mask solution.word values

-- the run that is made from it
pub record RunOf (file : File) (p : Pattern) (ms : List Meaning) (solution : Solution) (run : Run) : Type 0 where
  pub asked : IsMadeFrom file p ms solution
  pub same_pattern : run.pattern ≡ solution.pattern
  pub parameters : AreValues (map (λ i. unknown_value ms solution.values (Parameter i)) (range_with_len 0 (length file.automaton.parameters))) run.parameters
  pub counts : AreValues (map (λ l. unknown_value ms solution.values (Start l)) file.automaton.initial) run.counts
  pub lined : AddsPieces file.automaton p (unknown_value ms solution.values) solution.word run.lines
