-- What the report says of unsafe patterns
use Rattle.ta_program.proofs.Common.{verdict_run, Budget, ◌≡◌, ◌∙◌, ◌+◌, ◌≤◌, ℕ, suc, true, false, length, List, [], ◌∷◌, Some, slice_get, Bool, refl, sym, ap}
use Rattle.ta_program.proofs.Common.{subst, arith, list_any, each_at, File, Pattern, Run, run_text, IsFirstConfig, Shows, ShowsPattern, unit_steps}
use Rattle.ta_program.proofs.Common.{lines_counted, run_text_short, VerdictFits, TellsUnsafe, report_of, ReportSample, Verdict, Safe, Unsafe, Spent, Overflow}
use Rattle.ta_program.proofs.Common.{run_told, told_run, told_unsafe, RUN, UnsafePrinted, telling_of, AreVerdictsOn, Pick, IsSample, VerdictHolds, is_unsafe}
use Rattle.ta_program.proofs.Common.{held_entry}
use Rattle.std.proofs.Math.Nat.{mul-le-mul_right}
use Rattle.ta_automaton.proofs.Thresholds.{pattern_within}
use Rattle.ta_automaton.specs.Runs as runs
use Rattle.ta_replay.specs.Fits.{Fits}
use Rattle.ta_replay.proofs.Counting.{marks_are_events}
use Rattle.ta_replay.proofs.Occurring.{shown_occurs}
use Rattle.ta_witness.specs.Witness.{IsShortRun}
use Rattle.ta_report.proofs.Picks.{entry_place}

-- a pattern occurs in the steps of a run, from a first configuration with its parameters and start counts
pub record Occurrence (file : File) (p : Pattern) (run : Run) : Type 0 where
  pub first : runs.Config
  pub begins : IsFirstConfig file.automaton run first
  pub occurs : runs.Occurs file.automaton p first (unit_steps run.lines)

-- the run of an unsafe pattern is an occurrence of it
pub unsafe_occurs :
    (file : File) (budget : Budget) (number : ℕ) (p : Pattern) (nodes : ℕ) (run : Run) → slice_get file.patterns number ≡ Some p
    → VerdictHolds file budget number p (Unsafe nodes run) → Occurrence file p run
unsafe_occurs file budget number p nodes run at h =
    let known = verdict_run file budget number p nodes run h in
    let shown = known.shows in
    let named : Some shown.pattern ≡ Some p = sym shown.named ∙ ap (slice_get file.patterns) known.pattern ∙ at in
    let same : shown.pattern ≡ p = cc in
    let first = shown.shows.first in
    record {
      first = first;
      begins = shown.shows.begins;
      occurs = subst (λ (q : Pattern). runs.Occurs file.automaton q first (unit_steps run.lines)) same
          (shown_occurs file run shown);
    }

-- where some verdict says unsafe, one of a number does
pub unsafe_there : (vs : List Verdict) → list_any is_unsafe vs ≡ true → (k : ℕ) × (nodes : ℕ) × (run : Run) × (slice_get vs k ≡ Some (Unsafe nodes run))
unsafe_there [] some = absurd (cc)
unsafe_there (Safe nodes leaves ∷ vs) some = let later = unsafe_there vs some in (suc later.0, later.1, later.2, later.3)
unsafe_there (Unsafe nodes run ∷ vs) some = (0, nodes, run, refl)
unsafe_there (Spent nodes ∷ vs) some = let later = unsafe_there vs some in (suc later.0, later.1, later.2, later.3)
unsafe_there (Overflow node kind ∷ vs) some = let later = unsafe_there vs some in (suc later.0, later.1, later.2, later.3)

-- the text of a short run is within the limit of RUN
pub few_lines : (file : File) (run : Run) (fits : Fits file run) → Shows file run → IsShortRun file run → length run.lines ≤ 100000
few_lines file run fits shows short =
    let a = file.automaton in
    let p = fits.pattern in
    let both : Some shows.pattern ≡ Some p = sym shows.named ∙ fits.named in
    let same : shows.pattern ≡ p = cc in
    let marks = marks_are_events a p run fits.lines (subst (λ (q : Pattern). ShowsPattern a q run) same shows.shows) in
    let limits = a.shape.limits in
    let rises = limits.rise_limit in
    let falls = limits.fall_limit in
    let rules = limits.rules_limit in
    let events = (pattern_within file run.pattern p fits.named).events_limit in
    let turns : length a.rise + length a.fall + length p.events ≤ 88 = omega arith in
    let most = mul-le-mul_right (length a.rules + 1) turns in
    omega (arith, lines_counted run.lines, short p fits.named, most, marks)

pub run_within : (file : File) (run : Run) → Fits file run → Shows file run → IsShortRun file run → length (run_text file run) ≤ RUN.bytes
run_within file run fits shows short = let text = run_text_short file run fits (few_lines file run fits shows short) in omega (arith, text)

-- a pattern that a report tells is unsafe, and its run
pub unsafe_printed :
    (json : Bool) (file : File) (pick : Pick) (budget : Budget) (x : ReportSample) → IsSample file budget.nodes x → (vs : List Verdict)
    → AreVerdictsOn file pick budget vs → (k : ℕ) (p : Pattern) → slice_get file.patterns k ≡ Some p
    → TellsUnsafe false json p.name (report_of false json file pick x vs)
    → UnsafePrinted runs.Occurs (telling_of false json) file k p (report_of false json file pick x vs)
unsafe_printed json file pick budget x sampled vs are k p named line =
    let said = told_unsafe file pick x vs k p named sampled.fits are.fit false json line in
    let nodes = said.0 in
    let run = said.1 in
    let v = held_entry (VerdictHolds file budget) pick file.patterns vs are.hold k p (Unsafe nodes run) named said.2 in
    let place = entry_place pick vs k (Unsafe nodes run) said.2 in
    let fit : VerdictFits file (Unsafe nodes run) = each_at (VerdictFits file) vs place.0 (Unsafe nodes run) are.fit place.1 in
    let known = verdict_run file budget k p nodes run v in
    let occurs = unsafe_occurs file budget k p nodes run named v in
    record {
      bytes = run_text file run;
      stands = run_told file pick x vs k p named sampled.fits are.fit false json nodes run said.2 line;
      only = λ other part.
          let found = told_run file pick x vs k p named sampled.fits are.fit false json other part in
          let verdicts : Some (Unsafe found.0 found.1) ≡ Some (Unsafe nodes run) = sym found.2 ∙ said.2 in
          let same : found.1 ≡ run = cc in
          found.3 ∙ ap (run_text file) same;
      run = run;
      of = known.pattern;
      shows = record { text = record { fits = fit.1; text = refl }; shows = known.shows; stays = known.stays };
      within = run_within file run fit.1 known.shows known.short;
      first = occurs.first;
      begins = occurs.begins;
      happens = occurs.occurs;
    }
