-- What is printed as a run `replay` shows.
use Rattle.ta_program.specs.Values.{limits_of}
use Rattle.ta_program.proofs.Common.{◌≡◌, ◌⊎◌, inl, ℕ, Bool, List, [], Option, Some, refl, sym, ◌∙◌, subst, length, ◌≤◌, File, Run, shown_of, report_of, Told}
use Rattle.ta_program.proofs.Common.{Answer, Performs, State, in_files, seen, FileMeans, RUN, IsFile, ShowsRun, run_kind, PrintedRunsAreReplayed, SaysShown}
use Rattle.ta_program.proofs.Common.{replay_meaning, ReportHolds, resting, false, true}
use Rattle.ta_program.proofs.AtRest.{rest_unsafe_printed}
use Rattle.ta_program.proofs.Clauses.{admitting, as_replay, loud_by_words, rests_report, run_shortens, verify_reports}
use Rattle.ta_program.proofs.Meanings.{replay_decides}
use Rattle.ta_program.proofs.UnsafePrinted.{run_within, unsafe_printed}
use Rattle.ta_program.proofs.Common.{AdmitHolds, Call, CompressHolds, run_text}
use Rattle.ta_program.specs.Laws.{AdmittedRunsAreReplayed, CompressedRunsAreReplayed, IsReplayed, PrintedRestRunsAreReplayed}
use Rattle.ta_base.specs.LimitRows.{narrow}
use Rattle.ta_base.specs.declared.limits.Limits.{Limits}
use Rattle.ta_program.specs.CheckWords.{ReplayWords}
use Rattle.ta_program.specs.Rest.{RestReportHolds}
use Rattle.ta_report.specs.CheckJson.{shown_text}

-- the answer that a run shows its pattern
shown_answer : (json : Bool) (file : File) (run : Run) (bytes : List ℕ) → ShowsRun file bytes run → (answer : Answer) × (answer.number ≡ 0)
    × SaysShown file json run answer
shown_answer json file run bytes shows =
    let p = shows.shows.pattern in
    let answer : Answer = record { number = 0; text = shown_text json file.automaton.name p.name (shown_of run); puts = [] } in
    (answer, refl, record { pattern = p; named = shows.shows.named; writes = record { numbered = refl; written = refl; no_put = refl } })

-- a run that shows its pattern is shown, 6 and 7 aside
shown_number : (told : Told) (asked : ReplayWords) (file : File) (run : Run) → IsFile (limits_of asked.wide) (in_files told) asked.file file
    → FileMeans (run_kind file) (in_files told) asked.other run → (number : ℕ) (before after : State) → before.shelf.files ≡ Some told
    → Performs (replay_meaning asked) number before after → (number ≡ 0) ⊎ ((number ≡ 6) ⊎ (number ≡ 7))
shown_number told asked file run is_file is_run number before after is p =
    let answer = shown_answer asked.json file run is_run.bytes is_run.means in
    p.exact (replay_decides asked) told is 0 (inl (answer.0, answer.1, (file, is_file, (run, is_run, answer.2))))

-- what is seen of a file is what the known files hold
told_file : (l : Limits) (told : Told) (calls : List Call) (name : List ℕ) (file : File) → IsFile l (seen (Some told) calls) name file
    → IsFile l (in_files told) name file
told_file l told calls name file h = record { bytes = h.bytes; had = record { seen = h.had.seen.1; within = h.had.within }; means = h.means }

-- the text of a run that shows its pattern is replayed
replays : (told : Told) (l : Limits) (name : List ℕ) (file : File) (run : Run) (bytes : List ℕ) → IsFile l (in_files told) name file → ShowsRun file bytes run
    → length bytes ≤ RUN.bytes → IsReplayed told l name bytes
replays told l name file run bytes h shows within again names asks named_so limits_so later same has second begun ended begun_is done =
    let there : IsFile l (in_files later) name file = record
    { bytes = h.bytes; had = record { seen = same ∙ h.had.seen; within = h.had.within }; means = h.means } in
    let is_file : IsFile (limits_of names.wide) (in_files later) names.file file = subst (λ (k : Limits). IsFile k (in_files later) names.file file)
    (sym limits_so)
    (subst (λ (n : List ℕ). IsFile l (in_files later) n file) (sym named_so) there) in
    let is_run : FileMeans (run_kind file) (in_files later) names.other run = record
    { bytes = bytes; had = record { seen = has; within = within }; means = shows }
    in
    shown_number later names file run is_file is_run second begun ended begun_is (as_replay again second begun ended done names asks)

pub runs_replayed : PrintedRunsAreReplayed
runs_replayed words number before after h asked asks low told is =
    let name = asked.file in
    let l = limits_of asked.wide in
    let reports = verify_reports words number before after h asked asks low in
    let r = subst (λ (files : Option Told). ReportHolds number (seen files reports.read) asked before.out.written after.out.written) is reports.such in
    record {
      file = r.file;
      text = report_of false asked.json r.file r.pick r.sample r.verdicts;
      gained = r.wrote;
      replayed = λ k p named line bytes part.
          let printed = unsafe_printed asked.json r.file r.pick asked.budget r.sample r.is_sample r.verdicts r.are k p named line in
          let same = sym (printed.only bytes part) in
          replays told l name r.file printed.run bytes (told_file l told reports.read name r.file r.is_file)
          (subst (λ (bs : List ℕ). ShowsRun r.file bs printed.run) same printed.shows) (subst (λ (bs : List ℕ). length bs ≤ RUN.bytes) same printed.within);
    }

pub rest_runs_replayed : PrintedRestRunsAreReplayed
rest_runs_replayed words number before after h asked asks low told is =
    let name = asked.verify.file in
    let l = limits_of asked.verify.wide in
    let reports = (rests_report words number before after h).report asked asks low in
    let r = subst (λ (files : Option Told). RestReportHolds number (seen files reports.read) asked before.out.written after.out.written) is reports.such in
    record {
      file = r.file;
      text = report_of true asked.verify.json r.file r.pick r.sample r.verdicts;
      gained = r.wrote;
      replayed = λ k p named line bytes part.
          let printed = rest_unsafe_printed asked.silent asked.verify.json r.file r.ends.ending r.ends.added r.pick
          (resting asked.verify.budget r.silent) r.are_silent (loud_by_words words number before after h asked asks r.file r.silent r.are_silent) r.sample
          r.is_sample r.verdicts r.are k p named line in
          let same = sym (printed.only bytes part) in
          replays told l name r.file printed.run bytes (told_file l told reports.read name r.file r.is_file)
          (subst (λ (bs : List ℕ). ShowsRun r.file bs printed.run) same printed.shows) (subst (λ (bs : List ℕ). length bs ≤ RUN.bytes) same printed.within);
    }

pub admitted_replayed : AdmittedRunsAreReplayed
admitted_replayed words before after h all asks told is =
    let name = all.asked.file in
    let holds = (admitting words 0 before after h).holds all asks refl in
    let r = subst (λ (files : Option Told). AdmitHolds (seen files holds.added) all before.out.written after.out.written) is holds.such in
    record {
      text = run_text r.file r.run;
      gained = r.wrote;
      replayed = replays told narrow name r.file r.run (run_text r.file r.run) (told_file narrow told holds.added name r.file r.is_file) r.shows r.within;
    }

pub compressed_replayed : CompressedRunsAreReplayed
compressed_replayed words before after h asked asks told is =
    let name = asked.file in
    let holds = (run_shortens words 0 before after h).holds asked asks refl in
    let r = subst (λ (files : Option Told). CompressHolds (seen files holds.added) asked before.out.written after.out.written) is holds.such in
    let is_file = told_file (limits_of asked.wide) told holds.added name r.file r.is_file in
    let short = r.is_short in
    record {
      file = r.file;
      is_file = is_file;
      run = r.short;
      gained = r.wrote;
      replayed = λ stays.
          let shows : ShowsRun r.file (run_text r.file r.short) r.short = record
          { text = record { fits = short.fits; text = refl }; shows = short.shows; stays = stays } in
          replays told (limits_of asked.wide) name r.file r.short (run_text r.file r.short) is_file shows
          (run_within r.file r.short short.fits short.shows short.is_short);
    }
