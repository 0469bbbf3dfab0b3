-- the pattern that a replay reads
use Rattle.ta_replay.proofs.Common.{◌≡◌, List, length, arith, sym, ap, ◌∙◌, subst, slice_get, get_or, Some, same_Some, slice_get_within, read_same, File}
use Rattle.ta_replay.proofs.Common.{Pattern, Run, Fits, Shows, ShowsPattern, FitsPattern}

pub named_read : (file : File) (run : Run) (patterns : List Pattern) (p : Pattern) → Fits file run → patterns ≡ file.patterns
    → p ≡ get_or patterns run.pattern p → slice_get file.patterns run.pattern ≡ Some p
named_read file run patterns p fits same is =
    let within = slice_get_within file.patterns run.pattern fits.pattern fits.named in
    let count = ap (λ (ps : List Pattern). length ps) same in
    read_same file.patterns patterns run.pattern p same (omega arith) is

pub fits_read : (file : File) (run : Run) (p : Pattern) → Fits file run → slice_get file.patterns run.pattern ≡ Some p → FitsPattern file.automaton p run
fits_read file run p fits at =
    subst (λ q. FitsPattern file.automaton q run) (same_Some fits.pattern p (sym fits.named ∙ at)) (record {
      parameters = fits.parameters;
      parameters_natural = fits.parameters_natural;
      counts = fits.counts;
      counts_natural = fits.counts_natural;
      lines = fits.lines;
    })

pub shows_read : (file : File) (run : Run) (p : Pattern) → (shown : Shows file run) → slice_get file.patterns run.pattern ≡ Some p
    → ShowsPattern file.automaton p run
shows_read file run p shown at = subst (λ q. ShowsPattern file.automaton q run) (same_Some shown.pattern p (sym shown.named ∙ at)) shown.shows
