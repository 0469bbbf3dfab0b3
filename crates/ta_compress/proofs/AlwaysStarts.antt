-- a run that was replayed starts
use Rattle.ta_compress.proofs.Common.{refl, sym, subst, ◌∙◌, same_Some, Pattern, File, StartFails, Fits, ShowsPattern, FitsPattern, Run, ReplaysInRange}
use Rattle.ta_counter.specs.declared.fault.StartFault.{StartFault}
use Rattle.ta_counter.specs.declared.fault.StartFault.TheVariants as start
use Rattle.ta_replay.specs.declared.fault.RunFault.TheVariants as runs
use Rattle.ta_replay.proofs.Refusing.{config_denied}

pub always_starts : (file : File) (run : Run) (fault : StartFault) → Fits file run → ReplaysInRange file run
    → StartFails file.automaton run.parameters run.counts fault → ⊥
always_starts file run fault fits replayed h = by_fault fault h where
  shown : ShowsPattern file.automaton fits.pattern run
  shown = subst (λ (p : Pattern). ShowsPattern file.automaton p run) (same_Some replayed.shows.pattern fits.pattern (sym replayed.shows.named ∙ fits.named))
      replayed.shows.shows

  fits_pattern : FitsPattern file.automaton fits.pattern run
  fits_pattern = record {
    parameters = fits.parameters;
    parameters_natural = fits.parameters_natural;
    counts = fits.counts;
    counts_natural =
        fits.counts_natural;
    lines = fits.lines;
  }

  by_fault : (fault : StartFault) → StartFails file.automaton run.parameters run.counts fault → ⊥
  by_fault (start.Resilience k) g = config_denied file.automaton fits.pattern run (runs.Resilience k) fits_pattern shown g
  by_fault start.Processes g = config_denied file.automaton fits.pattern run runs.Processes fits_pattern shown g
  by_fault start.OutOfRange g = config_denied file.automaton fits.pattern run (runs.Overflow 1) fits_pattern shown (refl, g)
      (replayed.stays fits.pattern fits.named)
