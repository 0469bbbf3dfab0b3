-- The compressed run: the run is cut at its marks and where guards change; in each piece the steps are reordered and accelerated. Source of
-- the reordering: Konnov, Lazić, Veith, Widder, POPL 2017.
use Rattle.std.specs.Prelude.{ℕ, ℤ, pos, ◌≡◌, ◌⊎◌, List, [], ◌∷◌, ◌++◌, length, map, take}
use Rattle.ta_base.specs.Sums.{times_in}
use Rattle.ta_automaton.specs.declared.automaton.Automaton.{Automaton}
use Rattle.ta_automaton.specs.declared.file.File.{File}
use Rattle.std.specs.List.{range_with_len}
use Rattle.ta_counter.specs.Starts.{StartsAt}
use Rattle.ta_scope.specs.Arranged.{ArrangedOf}
use Rattle.ta_replay.specs.declared.run.Run.{Run}
use Rattle.ta_replay.specs.declared.run.RunLine.{RunLine}
use Rattle.ta_replay.specs.declared.run.RunLine.TheVariants.{Mark}
use Rattle.ta_replay.specs.Pieces.{step_line}
use Rattle.ta_compress.specs.Units.{unit, unfolded, value_after, EndsAtLastMark, Switches, Drops}

-- a piece between two cuts: the rules of the unit steps that are arranged, and the line that is kept, if there is one
pub record CutPiece : Type 0 where
  pub body : List ℕ
  pub kept : List RunLine

-- the unit steps of rules
abbrev pub units : List ℕ → List RunLine
units rules = map unit rules

-- the lines of a piece, unfolded
abbrev pub lines_in : CutPiece → List RunLine
lines_in piece = units piece.body ++ piece.kept

-- a unit step after some lines changes the truth of a guard
abbrev pub SwitchesAt : Automaton → List ℤ → List RunLine → ℕ → Type 0
SwitchesAt a first done r = Switches a (value_after a first done) (value_after a first (done ++ unit r ∷ []))

-- a unit step after some lines makes a fall guard false
abbrev pub DropsAt : Automaton → List ℤ → List RunLine → ℕ → Type 0
DropsAt a first done r = Drops a (value_after a first done) (value_after a first (done ++ unit r ∷ []))

-- no unit step of these rules, after some lines, changes the truth of a guard
abbrev pub Still : Automaton → List ℤ → List RunLine → List ℕ → Type 0
Still a first done rules = (front : List ℕ) (r : ℕ) (behind : List ℕ) → rules ≡ front ++ r ∷ behind → ¬ SwitchesAt a first (done ++ units front) r

-- a mark ends the piece, and is kept
pub record MarkedEnd (a : Automaton) (first : List ℤ) (done : List RunLine) (piece : CutPiece) : Type 0 where
  pub event : ℕ
  pub kept : piece.kept ≡ Mark event ∷ []
  pub still : Still a first done piece.body

-- a unit step that makes a fall guard false ends the piece, and is kept by itself
pub record FallenEnd (a : Automaton) (first : List ℤ) (done : List RunLine) (piece : CutPiece) : Type 0 where
  pub rule : ℕ
  pub kept : piece.kept ≡ unit rule ∷ []
  pub still : Still a first done piece.body
  pub drops : DropsAt a first (done ++ units piece.body) rule

-- a unit step that makes rise guards true, and no fall guard false, ends the piece, and is one of those that are arranged
pub record RisenEnd (a : Automaton) (first : List ℤ) (done : List RunLine) (piece : CutPiece) : Type 0 where
  pub front : List ℕ
  pub rule : ℕ
  pub body : piece.body ≡ front ++ rule ∷ []
  pub kept : piece.kept ≡ []
  pub still : Still a first done front
  pub switches : SwitchesAt a first (done ++ units front) rule
  pub drops_none : ¬ DropsAt a first (done ++ units front) rule

-- a piece that stands after some lines ends at the first cut after them: at a mark, or at a switch of a guard
abbrev pub IsPiece : Automaton → List ℤ → List RunLine → CutPiece → Type 0
IsPiece a first done piece = MarkedEnd a first done piece ⊎ (FallenEnd a first done piece ⊎ RisenEnd a first done piece)

-- how often each rule of the automaton is in a list
abbrev pub counts_of : Automaton → List ℕ → List ℤ
counts_of a rules = map (λ r. pos (times_in r rules)) (range_with_len 0 (length a.rules))

-- the lines are the piece's arranged steps and the line that it keeps, and what follows
pub record IsShortened (a : Automaton) (piece : CutPiece) (lines rest : List RunLine) : Type 0 where
  pub steps : List (ℕ × ℤ)
  pub arranged : ArrangedOf a (counts_of a piece.body) steps
  pub is : lines ≡ map step_line steps ++ (piece.kept ++ rest)

-- lines that stand after some others are pieces, one after another, and these are the shortened ones
abbrev pub AreCut : Automaton → List ℤ → List RunLine → List RunLine → List CutPiece → List RunLine → Type 0
AreCut a first done lines [] short = (lines ≡ []) × (short ≡ [])
AreCut a first done lines (piece ∷ pieces) short =
    IsPiece a first done piece
    × (behind : List RunLine) × (lines ≡ lines_in piece ++ behind)
    × (rest : List RunLine) × IsShortened a piece short rest
    × AreCut a first (done ++ lines_in piece) behind pieces rest

-- the lines of the compressed run: the run is unfolded up to its last mark and cut at each mark and after each switch of a guard; in each
-- piece the unit steps are arranged, except a last one that makes a fall guard false
pub record CutOf (a : Automaton) (run : Run) (short : List RunLine) : Type 0 where
  pub first : List ℤ
  pub starts : StartsAt a run.parameters run.counts first
  pub n : ℕ
  pub last_mark : EndsAtLastMark run.lines n
  pub pieces : List CutPiece
  pub cut : AreCut a first [] (unfolded (take n run.lines)) pieces short

-- the compressed run: only the lines change
pub record CompressOf (file : File) (run short : Run) : Type 0 where
  pub pattern : short.pattern ≡ run.pattern
  pub parameters : short.parameters ≡ run.parameters
  pub counts : short.counts ≡ run.counts
  pub lines : CutOf file.automaton run short.lines
