-- Values that another solver found for the unknowns of a schema, and the run that they stand for.
use Rattle.std.specs.Prelude.{ℕ, ℤ, ◌≡◌, ◌≢◌, false, true, List, [], length, reverse, slice_get, Some}
use Rattle.ta_linear.specs.declared.row.Row.{Row}
use Rattle.ta_linear.specs.declared.row.System.{System}
use Rattle.ta_linear.specs.Sums.{StaysInRange}
use Rattle.ta_linear.specs.Values.{point_of}
use Rattle.ta_automaton.specs.declared.file.File.{File}
use Rattle.ta_automaton.specs.declared.pattern.Pattern.{Pattern}
use Rattle.ta_counter.specs.Checks.{AllPass, RowFails, RowOutOfRange, RowPasses, RowsPass, StopsAt}
use Rattle.ta_words.specs.declared.element.Element.{Element}
use Rattle.ta_words.specs.Words.{is_complete}
use Rattle.ta_encode.specs.declared.encoded.Solution.{Solution}
use Rattle.ta_encode.specs.Code.{SystemOf}
use Rattle.ta_replay.specs.declared.run.Run.{Run}
use Rattle.ta_replay.specs.Fits.{Fits}
use Rattle.ta_replay.specs.Replays.{ReplayStays}
use Rattle.ta_replay.specs.Shows.{Shows}
use Rattle.ta_witness.specs.Witness.{IsShortRun, IsSolution, WitnessOutOfRange, WitnessOf}
use Rattle.ta_smt.specs.declared.fault.AdmitFault.{AdmitFault}
use Rattle.ta_smt.specs.declared.fault.AdmitFault.TheVariants as fault
use Rattle.ta_smt.specs.Values.{FirstBadLine, IsValuesText}

-- a schema of a pattern and a start set
pub record AskedWord : Type 0 where
  pub pattern : ℕ
  pub start : ℕ
  pub elements : List Element

abbrev pub asked : ℕ → ℕ → List Element → AskedWord
asked pattern start elements = record { pattern = pattern; start = start; elements = elements }

-- the solution of that schema with these values
abbrev pub solution_of : AskedWord → List ℤ → Solution
solution_of word values = record { pattern = word.pattern; start_mask = word.start; word = word.elements; values = values }

-- the system of the schema, without bounds
pub record SystemAsked (file : File) (word : AskedWord) (system : System) : Type 0 where
  pub pattern : Pattern
  pub named : slice_get file.patterns word.pattern ≡ Some pattern
  pub is : SystemOf file.automaton pattern word.start (reverse word.elements) [] system

-- each row's form is evaluated within the range
abbrev pub SystemStays : List ℤ → System → Type 0
SystemStays values system = AllPass (λ j (row : Row). StaysInRange (point_of values) row.form.constant row.form.terms) system.rows

-- the bytes are the text of values that solve the complete schema's system, all numbers of the rows' evaluation and of the run's replay
-- stay in range, and the run is that of this solution: it shows the pattern, and is short
pub record Admits (file : File) (word : AskedWord) (bytes : List ℕ) (run : Run) : Type 0 where
  pub values : List ℤ
  pub spelled : IsValuesText values bytes
  pub solution : IsSolution file (solution_of word values)
  pub rows_stay : (system : System) → SystemAsked file word system → SystemStays values system
  pub witness : WitnessOf file (solution_of word values) run
  pub fits : Fits file run
  pub shows : Shows file run
  pub stays : ReplayStays file run
  pub short : IsShortRun file run

-- the schema lacks an event of the pattern
pub record IsIncomplete (file : File) (word : AskedWord) : Type 0 where
  pub pattern : Pattern
  pub named : slice_get file.patterns word.pattern ≡ Some pattern
  pub incomplete : is_complete pattern (reverse word.elements) ≡ false

-- the schema has each event of the pattern
pub record IsCompleteWord (file : File) (word : AskedWord) : Type 0 where
  pub pattern : Pattern
  pub named : slice_get file.patterns word.pattern ≡ Some pattern
  pub complete : is_complete pattern (reverse word.elements) ≡ true

-- a complete schema and its system
pub record CompleteSystem (file : File) (word : AskedWord) : Type 0 where
  pub system : System
  pub is : SystemAsked file word system
  pub complete : IsCompleteWord file word

-- as many values as lines, which are not as many as unknowns
pub record WrongCount (file : File) (word : AskedWord) (bytes : List ℕ) (lines : ℕ) : Type 0 where
  pub of : CompleteSystem file word
  pub values : List ℤ
  pub spelled : IsValuesText values bytes
  pub counted : lines ≡ length values
  pub other : lines ≢ of.system.unknowns

-- as many values as unknowns, and row k is the first that is bad; all before it hold, and stay in range
pub record FirstBadRow (file : File) (word : AskedWord) (bytes : List ℕ) (Bad : (ℕ → ℤ) → Row → Type 0) (k : ℕ) : Type 0 where
  pub of : CompleteSystem file word
  pub values : List ℤ
  pub spelled : IsValuesText values bytes
  pub counted : length values ≡ of.system.unknowns
  pub stops : StopsAt (λ j row. RowPasses (point_of values) row) (λ j row. Bad (point_of values) row) of.system.rows k

-- all rows pass, and a number of the replay of the solution's run leaves the range
pub record AdmittedRunOutOfRange (file : File) (word : AskedWord) (bytes : List ℕ) : Type 0 where
  pub of : CompleteSystem file word
  pub values : List ℤ
  pub spelled : IsValuesText values bytes
  pub pass : RowsPass (point_of values) of.system.rows
  pub solution : IsSolution file (solution_of word values)
  pub leaves : WitnessOutOfRange file (solution_of word values)

-- the first bad line of the values, if the schema is complete
pub record BadLine (file : File) (word : AskedWord) (bytes : List ℕ) (line : ℕ) : Type 0 where
  pub complete : IsCompleteWord file word
  pub first : FirstBadLine bytes line

-- why there is no run, in this order; "out of memory" is always allowed
abbrev pub AdmitFaultOf : File → AskedWord → List ℕ → AdmitFault → Type 0
AdmitFaultOf file word bytes fault.Incomplete = IsIncomplete file word
AdmitFaultOf file word bytes (fault.Line line) = BadLine file word bytes line
AdmitFaultOf file word bytes (fault.Count lines) = WrongCount file word bytes lines
AdmitFaultOf file word bytes (fault.Row k) = FirstBadRow file word bytes RowFails k
AdmitFaultOf file word bytes (fault.Overflow k) = FirstBadRow file word bytes RowOutOfRange k
AdmitFaultOf file word bytes fault.Run = AdmittedRunOutOfRange file word bytes
AdmitFaultOf file word bytes fault.Memory = Unit {0}

-- values with a run have no error, and one run
abbrev pub AdmitsAreExact : Type 0
AdmitsAreExact =
    (file : File) (word : AskedWord) (bytes : List ℕ) (run : Run) → Admits file word bytes run
    → ((found : AdmitFault) → found ≢ fault.Memory → ¬ AdmitFaultOf file word bytes found)
    × ((other : Run) → Admits file word bytes other → other ≡ run)
