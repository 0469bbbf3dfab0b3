-- what the verdicts of `rest` and its report say
use Rattle.ta_program.proofs.Common.{◌≡◌, ◌∙◌, ◌≤◌, ℕ, Bool, true, false, cond, length, length-append, List, [], ◌∷◌, Option, Some, slice_get, sym, ap, refl}
use Rattle.ta_program.proofs.Common.{arith, File, Pattern, has_bit, Run, run_text, run_text_short, TellsUnsafe, entry_of, report_of, run_told, told_run}
use Rattle.ta_program.proofs.Common.{told_unsafe, Pick, ReportSample, Verdict, Safe, Unsafe, AreRestVerdicts, AreSilent, IsSample, RestBudget, RUN}
use Rattle.ta_program.proofs.Common.{UnsafePrinted, telling_of, EndingVerdictHolds, held_number}
use Rattle.ta_check.specs.Subjects.{claimed_with}
use Rattle.ta_rest.specs.declared.claim.Claim.TheVariants as claim
use Rattle.ta_replay.specs.declared.run.RunLine.TheVariants.{Mark}
use Rattle.ta_witness.specs.Runs.{ending_run, marked_at_end}
use Rattle.ta_verdict.proofs.rest.RestSaid.{claims, runs_show}
use Rattle.ta_verdict.specs.Rest.Said.{IsLoudByWords, SaidAtRest}
use Rattle.ta_program.proofs.SilentPlaces.{occurs_but}
use Rattle.ta_program.proofs.UnsafePrinted.{few_lines}
use Rattle.ta_program.specs.SilentNames.{RestOccursBut}

-- a pattern that a verdict says is safe at rest is so
pub rest_safe_at :
    (file ending : File) (added : ℕ) (pick : Pick) (budget : RestBudget) → IsLoudByWords budget → (vs : List Verdict)
    → AreRestVerdicts file ending added pick budget vs → (k : ℕ) (own : Pattern) (nodes leaves : ℕ) → slice_get file.patterns k ≡ Some own
    → entry_of pick vs k ≡ Some (Safe nodes leaves) → claimed_with claim.RestSafe budget.silent file.automaton own
rest_safe_at file ending added pick budget loud vs are k own nodes leaves at said =
    let by = held_number (EndingVerdictHolds file ending added budget) pick ending.patterns vs are.hold k (Safe nodes leaves) said in
    claims file ending added budget loud k own by.0 nodes leaves (by.2 own at)

-- a run has no more lines than that of the ending
own_shorter : (added : ℕ) (run : Run) → length run.lines ≤ length (ending_run added run).lines
own_shorter added run = both (has_bit added run.pattern) where
  both : (b : Bool) → length run.lines ≤ length (cond b (marked_at_end run) run).lines
  both true = let more = length-append run.lines (Mark 0 ∷ []) in omega (arith, more)
  both false = omega arith

-- the text of a run that comes to rest is within the limit of RUN
rest_run_within : (file ending : File) (added number : ℕ) (silent : List ℕ) (own : Pattern) (run : Run) → SaidAtRest file ending added number silent own run
    → length (run_text file run) ≤ RUN.bytes
rest_run_within file ending added number silent own run said =
    let few = few_lines ending (ending_run added run) said.of_ending said.ending_shows said.short in
    let fewer = own_shorter added run in
    let text = run_text_short file run said.fits (omega (arith, few, fewer)) in
    omega (arith, text)

-- a pattern that the report of `rest` tells is unsafe comes to rest in its run
pub rest_unsafe_printed :
    (names : Option (List ℕ)) (json : Bool) (file ending : File) (added : ℕ) (pick : Pick) (budget : RestBudget) → AreSilent file.automaton names budget.silent
    → IsLoudByWords budget → (x : ReportSample) → IsSample file budget.nodes x → (vs : List Verdict) → AreRestVerdicts file ending added pick budget vs
    → (k : ℕ) (p : Pattern) → slice_get file.patterns k ≡ Some p → TellsUnsafe true json p.name (report_of true json file pick x vs)
    → UnsafePrinted (RestOccursBut names) (telling_of true json) file k p (report_of true json file pick x vs)
rest_unsafe_printed names json file ending added pick budget silent loud x sampled vs are k p named line =
    let told = told_unsafe file pick x vs k p named sampled.fits are.fit true json line in
    let nodes = told.0 in
    let run = told.1 in
    let by = held_number (EndingVerdictHolds file ending added budget) pick ending.patterns vs are.hold k (Unsafe nodes run) told.2 in
    let said = runs_show file ending added budget loud k p by.0 named nodes run (by.2 p named) in
    let there = occurs_but names file.automaton p run budget.silent silent said.occurs in
    record {
      bytes = run_text file run;
      stands = run_told file pick x vs k p named sampled.fits are.fit true json nodes run told.2 line;
      only = λ other part.
          let found = told_run file pick x vs k p named sampled.fits are.fit true json other part in
          let verdicts : Some (Unsafe found.0 found.1) ≡ Some (Unsafe nodes run) = sym found.2 ∙ told.2 in
          let same : found.1 ≡ run = cc in
          found.3 ∙ ap (run_text file) same;
      run = run;
      of = said.pattern;
      shows = record { text = record { fits = said.fits; text = refl }; shows = said.shows; stays = said.stays };
      within = rest_run_within file ending added k budget.silent p run said;
      first = there.first;
      begins = there.begins;
      happens = there.happens;
    }
