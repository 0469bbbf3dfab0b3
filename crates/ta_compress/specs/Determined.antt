-- A run has at most one reason why it cannot be compressed.
use Rattle.std.specs.Prelude.{◌≡◌, ◌≢◌}
use Rattle.ta_automaton.specs.declared.file.File.{File}
use Rattle.ta_replay.specs.declared.run.Run.{Run}
use Rattle.ta_replay.specs.Fits.{Fits}
use Rattle.ta_compress.specs.declared.fault.CompressFault.{CompressFault}
use Rattle.ta_compress.specs.declared.fault.CompressFault.TheVariants.{Memory}
use Rattle.ta_compress.specs.Faults.{Compressible, CompressFaultOf}

-- a run that fits is refused in at most one way, out of memory aside, and in none if it can be compressed
pub record CompressFaultsAreDetermined : Type 0 where
  pub one : (file : File) (run : Run) (e f : CompressFault) → e ≢ Memory → f ≢ Memory → Fits file run → CompressFaultOf file run e → CompressFaultOf file run f
      → e ≡ f
  pub none : (file : File) (run : Run) (e : CompressFault) → e ≢ Memory → Fits file run → Compressible file run → ¬ CompressFaultOf file run e
