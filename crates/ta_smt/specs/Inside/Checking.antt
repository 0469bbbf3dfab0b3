-- What the check of values finds, and what is made of them.
use Rattle.std.specs.Prelude.{ℕ, ℤ, ◌≡◌, ◌≢◌, List, length}
use Rattle.ta_linear.specs.declared.row.Row.{Row}
use Rattle.ta_linear.specs.declared.row.System.{System}
use Rattle.ta_linear.specs.Values.{point_of}
use Rattle.ta_automaton.specs.declared.file.File.{File}
use Rattle.ta_counter.specs.Checks.{RowFails, RowOutOfRange, RowPasses, RowsPass, StopsAt}
use Rattle.ta_replay.specs.declared.run.Run.{Run}
use Rattle.ta_replay.specs.Fits.{Fits}
use Rattle.ta_replay.specs.Replays.{ReplayStays}
use Rattle.ta_replay.specs.Shows.{Shows}
use Rattle.ta_witness.specs.Witness.{IsShortRun, WitnessOutOfRange, WitnessOf}
use Rattle.ta_smt.specs.declared.fault.AdmitFault.{AdmitFault}
use Rattle.ta_smt.specs.declared.fault.AdmitFault.TheVariants as fault
use Rattle.ta_smt.specs.Admit.{AskedWord, SystemAsked, solution_of}

-- one value for each unknown, and each row passes
pub record IsChecked (system : System) (values : List ℤ) : Type 0 where
  pub counted : length values ≡ system.unknowns
  pub pass : RowsPass (point_of values) system.rows

-- the row of this number is bad
abbrev pub BadRow : (ℕ → ℤ) → Row → ℕ → AdmitFault → Type 0
BadRow point row number (fault.Row k) = (k ≡ number) × RowFails point row
BadRow point row number (fault.Overflow k) = (k ≡ number) × RowOutOfRange point row
BadRow point row number _ = ⊥

-- row k is the first that is bad
abbrev pub RowStops : (ℕ → ℤ) → (Row → Type 0) → List Row → ℕ → Type 0
RowStops point Bad rows k = StopsAt (λ j row. RowPasses point row) (λ j row. Bad row) rows k

abbrev pub RowFault : (ℕ → ℤ) → List Row → AdmitFault → Type 0
RowFault point rows (fault.Row k) = RowStops point (RowFails point) rows k
RowFault point rows (fault.Overflow k) = RowStops point (RowOutOfRange point) rows k
RowFault point rows _ = ⊥

-- why values do not pass
abbrev pub CheckFault : System → List ℤ → AdmitFault → Type 0
CheckFault system values (fault.Count lines) = (lines ≡ length values) × (lines ≢ system.unknowns)
CheckFault system values (fault.Row k) = (length values ≡ system.unknowns) × RowStops (point_of values) (RowFails (point_of values)) system.rows k
CheckFault system values (fault.Overflow k) = (length values ≡ system.unknowns) × RowStops (point_of values) (RowOutOfRange (point_of values)) system.rows k
CheckFault system values _ = ⊥

-- values pass the check of a schema's system
pub record PassesCheck (file : File) (word : AskedWord) (values : List ℤ) : Type 0 where
  pub system : System
  pub is : SystemAsked file word system
  pub checked : IsChecked system values

-- values do not pass; "out of memory" is always allowed
pub record WordFails (file : File) (word : AskedWord) (values : List ℤ) (found : AdmitFault) : Type 0 where
  pub system : System
  pub is : SystemAsked file word system
  pub fault : CheckFault system values found

abbrev pub WordFault : File → AskedWord → List ℤ → AdmitFault → Type 0
WordFault file word values fault.Memory = Unit {0}
WordFault file word values found = WordFails file word values found

-- the run of values that solve a schema's system
pub record IsRunOfValues (file : File) (word : AskedWord) (values : List ℤ) (run : Run) : Type 0 where
  pub witness : WitnessOf file (solution_of word values) run
  pub fits : Fits file run
  pub shows : Shows file run
  pub stays : ReplayStays file run
  pub short : IsShortRun file run

-- why there is no run
abbrev pub RunFault : File → AskedWord → List ℤ → AdmitFault → Type 0
RunFault file word values fault.Run = WitnessOutOfRange file (solution_of word values)
RunFault file word values fault.Memory = Unit {0}
RunFault file word values _ = ⊥
