-- The pieces of a run between two cuts, and the lines that they make.
use Rattle.std.specs.Prelude.{ℕ, ℤ, pos, ◌+◌, ◌*◌, ◌<◌, ◌≤◌, ◌≡◌, List, [], ◌∷◌, ◌++◌, length, map, take, slice_get, Option, None, Some, IsBitSet}
use Rattle.std.specs.List.{AllByRecursion}
use Rattle.ta_automaton.specs.declared.automaton.Automaton.{Automaton}
use Rattle.ta_automaton.specs.declared.pattern.Event.{Event}
use Rattle.ta_automaton.specs.declared.pattern.Pattern.{Pattern}
use Rattle.ta_base.specs.Masks.{In}
use Rattle.ta_base.specs.Sums.{times_in}
use Rattle.ta_automaton.specs.Runs as runs
use Rattle.ta_automaton.specs.Runs.{At, HappensAt, Holds}
use Rattle.ta_pattern.specs.Empty.{KeepsEmpty}
use Rattle.ta_replay.specs.declared.run.Run.{Run}
use Rattle.ta_replay.specs.declared.run.RunLine.{RunLine}
use Rattle.ta_replay.specs.declared.run.RunLine.TheVariants.{Step, Mark}
use Rattle.ta_replay.specs.Shows.{unit_steps, IsFirstConfig, ShowsPattern}

-- a piece between two cuts: steps, each a rule with how often it fires; then, if the piece ends with a fall, the one step that makes it;
-- then the events that are marked at the end of the piece
pub record Piece : Type 0 where
  pub steps : List (ℕ × ℤ)
  pub last : Option ℕ
  pub marks : List ℕ

-- a step as a line
abbrev pub step_line : (ℕ × ℤ) → RunLine
step_line step = Step step.0 step.1

-- the single step of a fall as a line
abbrev pub last_lines : Option ℕ → List RunLine
last_lines None = []
last_lines (Some rule) = Step rule (pos 1) ∷ []

-- the lines of a piece
abbrev pub piece_lines : Piece → List RunLine
piece_lines piece = map step_line piece.steps ++ (last_lines piece.last ++ map Mark piece.marks)

-- the lines of pieces, one after another
abbrev pub pieces_lines : List Piece → List RunLine
pieces_lines [] = []
pieces_lines (piece ∷ pieces) = piece_lines piece ++ pieces_lines pieces

-- the events that are marked, in order
abbrev pub pieces_marks : List Piece → List ℕ
pieces_marks [] = []
pieces_marks (piece ∷ pieces) = piece.marks ++ pieces_marks pieces

-- how many lines are steps, whatever their factors
abbrev pub steps_count : List RunLine → ℕ
steps_count [] = 0
steps_count (Step rule factor ∷ lines) = 1 + steps_count lines
steps_count (Mark event ∷ lines) = steps_count lines

abbrev pub rule_of : (ℕ × ℤ) → ℕ
rule_of step = step.0

-- the steps of a piece are of rules of the automaton, at most one of each
pub record OncePerRule (a : Automaton) (piece : Piece) : Type 0 where
  pub exist : AllByRecursion (λ (step : ℕ × ℤ). step.0 < length a.rules) piece.steps
  pub once : (r : ℕ) → times_in r (map rule_of piece.steps) ≤ 1

-- pieces with at most one step of each rule have each at most one step more than there are rules
abbrev pub PiecesAreShort : Type 0
PiecesAreShort =
    (a : Automaton) (pieces : List Piece) → AllByRecursion (OncePerRule a) pieces
    → steps_count (pieces_lines pieces) ≤ length pieces * (length a.rules + 1)

-- at most (guards + events) * (rules + 1) steps
abbrev pub HasFewSteps : Automaton → Pattern → List RunLine → Type 0
HasFewSteps a p lines = steps_count lines ≤ (length a.rise + length a.fall + length p.events) * (length a.rules + 1)

-- how many unit steps come before the marks of piece k
abbrev pub steps_until : List Piece → ℕ → ℕ
steps_until pieces k = length (unit_steps (pieces_lines (take (k + 1) pieces)))

-- the lines of pieces are a run from the run's configuration: the start condition holds at its beginning, `empty` is kept throughout, and
-- each event that a piece marks happens at the end of that piece
pub record PiecesHappen (a : Automaton) (p : Pattern) (run : Run) (pieces : List Piece) : Type 0 where
  pub lines : run.lines ≡ pieces_lines pieces
  pub first : runs.Config
  pub later : List runs.Config
  pub begins : IsFirstConfig a run first
  pub follows : runs.Run a first (unit_steps run.lines) later
  pub start : Holds p.start first
  pub kept_empty : (k : ℕ) (c : runs.Config) → At first later k c → KeepsEmpty p.empty c
  pub happens : (k e : ℕ) (piece : Piece) (event : Event) → slice_get pieces k ≡ Some piece → In e piece.marks → slice_get p.events e ≡ Some event
      → HappensAt first later event (steps_until pieces k)

-- each event is marked once, and the events that it comes after are marked before it
pub record MarksInOrder (p : Pattern) (marks : List ℕ) : Type 0 where
  pub once : (e : ℕ) → e < length p.events → times_in e marks ≡ 1
  pub in_order : (e f i : ℕ) (event : Event) → slice_get p.events e ≡ Some event → IsBitSet event.after f → slice_get marks i ≡ Some e → (j : ℕ) × (j < i)
      × (slice_get marks j ≡ Some f)

-- such a run shows the pattern
abbrev pub PiecesShow : Type 0
PiecesShow =
    (a : Automaton) (p : Pattern) (run : Run) (pieces : List Piece)
    → PiecesHappen a p run pieces → MarksInOrder p (pieces_marks pieces)
    → ShowsPattern a p run
