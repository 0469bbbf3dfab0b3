-- What becomes of the run of a whole node: it is given, or a number leaves the range while it is made.
use Rattle.std.specs.Prelude.{ℕ, ℤ, ◌≡◌, List}
use Rattle.ta_automaton.specs.declared.file.File.{File}
use Rattle.ta_moment_tree.specs.declared.encoding.MomentEncoding.{MomentEncoding}
use Rattle.ta_witness.specs.Given.{LeavesRange, RunOfEncoding, ShortOfEncoding, StaysWithin}
use Rattle.ta_replay.specs.Fits.{Fits}
use Rattle.ta_replay.specs.Shows.{Shows}
use Rattle.ta_replay.specs.declared.run.Run.{Run}
use Rattle.ta_walk.specs.declared.end.PlaceKind.TheVariants as kind
use Rattle.ta_walk.specs.declared.moment_end.MomentEnd.{MomentEnd}
use Rattle.ta_walk.specs.declared.moment_end.MomentEnd.TheVariants.{Refuted, Found as FoundRun, Spent, Overflow}

-- the run of an encoding's node, replayed
pub record GivenRun (file : File) (number : ℕ) (encoding : MomentEncoding) (numbers : List ℤ) (run : Run) : Type 0 where
  pub of : RunOfEncoding file number encoding numbers run
  pub fits : Fits file run
  pub shows : Shows file run
  pub stays : StaysWithin file encoding numbers run
  pub short : ShortOfEncoding file number encoding numbers run

-- a visit ends so at the node of this number
abbrev pub EndsAtNode : File → ℕ → MomentEncoding → List ℤ → ℕ → MomentEnd → Type 0
EndsAtNode file number encoding numbers place (Refuted count leaves) = ⊥
EndsAtNode file number encoding numbers place (FoundRun count run) = (count ≡ place) × GivenRun file number encoding numbers run
EndsAtNode file number encoding numbers place (Spent count) = ⊥
EndsAtNode file number encoding numbers place (Overflow node at) = (node ≡ place) × (at ≡ kind.Run) × LeavesRange file number encoding numbers
