-- How commands fit together: `replay` shows what is printed as a run, and `check` accepts what is written as a certificate.
use Rattle.std.specs.Prelude.{ℕ, ◌≡◌, ◌≤◌, ◌⊎◌, Bool, true, false, List, length, slice_get, Some}
use Rattle.ta_base.specs.LimitRows.{narrow}
use Rattle.ta_base.specs.declared.limits.Limits.{Limits}
use Rattle.ta_automaton.specs.declared.file.File.{File}
use Rattle.ta_automaton.specs.declared.pattern.Pattern.{Pattern}
use Rattle.std.specs.List.{range_with_len}
use Rattle.ta_replay.specs.declared.run.Run.{Run}
use Rattle.ta_replay.specs.Replays.{ReplayStays}
use Rattle.ta_replay.specs.RunText.{run_text}
use Rattle.ta_report.specs.Telling.{TellsRun, TellsUnsafe, report_of}
use Rattle.ta_report.specs.declared.pick.Pick.{Pick}
use Rattle.ta_report.specs.declared.verdict.ReportSample.{ReportSample}
use Rattle.ta_report.specs.declared.verdict.Verdict.{Verdict}
use Rattle.ta_search.specs.declared.outcome.SearchEnd.{SearchEnd}
use Rattle.ta_search.specs.declared.template.Template.{Template}
use Rattle.ta_search.specs.Filling.{filled_text}
use Rattle.ta_search.specs.Searching.{LastIsFound}
use Rattle.ta_search.specs.SearchJson.{search_told}
use Rattle.ta_shelf.specs.Put.{Told}
use Rattle.ta_shelf.specs.Sink.{with_text}
use Rattle.ta_shelf.specs.Ends.{State, Tells}
use Rattle.ta_shelf.specs.Sights.{in_files}
use Rattle.ta_program.specs.Values.{limits_of}
use Rattle.ta_program.specs.Admit.{AdmitAsked, admit_of}
use Rattle.ta_program.specs.Asked.{Runs}
use Rattle.ta_verdict.specs.Certificates.{safe_among}
use Rattle.ta_program.specs.CheckWords.{ReplayWords, check_of, no_options, replay_of}
use Rattle.ta_program.specs.Compress.{LeavesRange, compress_of, out_of_range_line}
use Rattle.ta_program.specs.Kinds.{IsFile}
use Rattle.ta_program.specs.Printed.{Telling, telling_of}
use Rattle.ta_program.specs.Proofs.{check_text, rest_check_text}
use Rattle.ta_program.specs.Requests.{request_of}
use Rattle.ta_program.specs.RestWords.{RestWords, rest_check_of, rest_of}
use Rattle.ta_program.specs.Search.{IsTemplate}
use Rattle.ta_program.specs.SearchWords.{SearchWords, search_of}
use Rattle.ta_program.specs.Values.{TwoNames}
use Rattle.ta_program.specs.VerifyWords.{VerifyWords, verify_of}

-- if the bytes that a report gives as the run of an unsafe pattern are put into a file of their own beside the same FILE, `replay` shows
-- it within the same limits: it ends with status 0, or with 6 or 7
abbrev pub IsReplayed : Told → Limits → List ℕ → List ℕ → Type 0
IsReplayed told l name bytes =
    (words : List (List ℕ)) (asked : ReplayWords) → replay_of words ≡ Some asked → asked.file ≡ name → limits_of asked.wide ≡ l
    → (later : Told) → later name ≡ told name → later asked.other ≡ Some bytes
    → (number : ℕ) (before after : State) → before.shelf.files ≡ Some later → Runs (request_of words) number before after
    → (number ≡ 0) ⊎ ((number ≡ 6) ⊎ (number ≡ 7))

-- the output gained a text, and what it gives as the run of an unsafe pattern of FILE is replayed
pub record PrintsReplayed (json : Bool) (told : Told) (l : Limits) (name : List ℕ) (before after : State) : Type 0 where
  pub file : File
  pub text : List ℕ
  pub gained : after.out.written ≡ with_text before.out.written text
  pub replayed : (number : ℕ) (p : Pattern) → slice_get file.patterns number ≡ Some p → TellsUnsafe false json p.name text → (bytes : List ℕ)
      → TellsRun false json p.name bytes text → IsReplayed told l name bytes

-- what `verify FILE` prints as a run with status 0, 1 or 2 over known files, `replay` shows
abbrev pub PrintedRunsAreReplayed : Type 0
PrintedRunsAreReplayed =
    (words : List (List ℕ)) (number : ℕ) (before after : State) → Runs (request_of words) number before after
    → (asked : VerifyWords) → verify_of words ≡ Some asked → number ≤ 2
    → (told : Told) → before.shelf.files ≡ Some told
    → PrintsReplayed asked.json told (limits_of asked.wide) asked.file before after

-- the output gained a text, and what it gives, in one form or the other, as the run of an unsafe pattern of FILE is replayed
pub record TellsReplayed (telling : Telling) (told : Told) (l : Limits) (name : List ℕ) (before after : State) : Type 0 where
  pub file : File
  pub text : List ℕ
  pub gained : after.out.written ≡ with_text before.out.written text
  pub replayed : (number : ℕ) (p : Pattern) → slice_get file.patterns number ≡ Some p → telling.unsafe_ p.name text → (bytes : List ℕ)
      → telling.run p.name bytes text → IsReplayed told l name bytes

-- what `rest FILE` prints as a run with status 0, 1 or 2 over known files, `replay` shows
abbrev pub PrintedRestRunsAreReplayed : Type 0
PrintedRestRunsAreReplayed =
    (words : List (List ℕ)) (number : ℕ) (before after : State) → Runs (request_of words) number before after
    → (asked : RestWords) → rest_of words ≡ Some asked → number ≤ 2
    → (told : Told) → before.shelf.files ≡ Some told
    → TellsReplayed (telling_of true asked.verify.json) told (limits_of asked.verify.wide) asked.verify.file before after

-- the output gained a text, which is replayed
pub record WritesReplayed (told : Told) (l : Limits) (name : List ℕ) (before after : State) : Type 0 where
  pub text : List ℕ
  pub gained : after.out.written ≡ with_text before.out.written text
  pub replayed : IsReplayed told l name text

-- what `admit FILE PATTERN START WORD VALUES` prints with status 0 over known files, `replay` shows
abbrev pub AdmittedRunsAreReplayed : Type 0
AdmittedRunsAreReplayed =
    (words : List (List ℕ)) (before after : State) → Runs (request_of words) 0 before after
    → (all : AdmitAsked) → admit_of words ≡ Some all
    → (told : Told) → before.shelf.files ≡ Some told
    → WritesReplayed told narrow all.asked.file before after

-- the output gained the text of a run of FILE, which is replayed if no number of its replay leaves the range
pub record WritesReplayedInRange (told : Told) (l : Limits) (name : List ℕ) (before after : State) : Type 0 where
  pub file : File
  pub is_file : IsFile l (in_files told) name file
  pub run : Run
  pub gained : after.out.written ≡ with_text before.out.written (run_text file run)
  pub replayed : ReplayStays file run → IsReplayed told l name (run_text file run)

-- what `compress FILE RUN` prints with status 0 over known files, `replay` shows, if no number of its replay leaves the range
abbrev pub CompressedRunsAreReplayed : Type 0
CompressedRunsAreReplayed =
    (words : List (List ℕ)) (before after : State) → Runs (request_of words) 0 before after
    → (asked : TwoNames) → compress_of words ≡ Some asked
    → (told : Told) → before.shelf.files ≡ Some told
    → WritesReplayedInRange told (limits_of asked.wide) asked.file before after

-- if the run of known files is replayed and has few steps, but a guard leaves the range on its way, `compress` prints N11 with the line where
-- one does first, 6 and 7 aside
abbrev pub CompressNamesTheRange : Type 0
CompressNamesTheRange =
    (words : List (List ℕ)) (number : ℕ) (before after : State) → Runs (request_of words) number before after
    → (asked : TwoNames) → compress_of words ≡ Some asked
    → (told : Told) → before.shelf.files ≡ Some told
    → (line : ℕ) → LeavesRange told asked line
    → ((number ≡ 4) × Tells (out_of_range_line asked.other line) before.err after.err) ⊎ ((number ≡ 6) ⊎ (number ≡ 7))

-- a run ended with status 0 and the output gained this text; or it ended with 6 or 7
abbrev pub SaysOrFails : List ℕ → ℕ → State → State → Type 0
SaysOrFails text number before after = ((number ≡ 0) × (after.out.written ≡ with_text before.out.written text)) ⊎ ((number ≡ 6) ⊎ (number ≡ 7))

-- a first run reported a sample and verdicts on picked patterns of FILE, and a second run said that exactly the patterns are proved that are safe by these
-- verdicts; or it ended with 6 or 7
pub record SaysTheSame (report : File → Pick → ReportSample → List Verdict → List ℕ) (proved : File → List ℕ → List ℕ) (told : Told) (l : Limits)
    (name : List ℕ)
    (before after : State) (number : ℕ) (begun ended : State) : Type 0 where
  pub file : File
  pub is_file : IsFile l (in_files told) name file
  pub pick : Pick
  pub sample : ReportSample
  pub verdicts : List Verdict
  pub reported : after.out.written ≡ with_text before.out.written (report file pick sample verdicts)
  pub accepted : SaysOrFails (proved file (safe_among file pick verdicts)) number begun ended

-- what `verify FILE --certificate OUT` put with status 0, 1 or 2 is accepted by `check FILE OUT` over the files as they were left: it never
-- ends with 3, 4 or 5, and with 0 it says that exactly the patterns are proved that were reported safe
abbrev pub WrittenIsAccepted : Type 0
WrittenIsAccepted =
    (words : List (List ℕ)) (first : ℕ) (before after : State) → Runs (request_of words) first before after
    → (asked : VerifyWords) (out : List ℕ) → verify_of words ≡ Some asked → asked.out ≡ Some out → first ≤ 2
    → (told : Told) → after.shelf.files ≡ Some told
    → (again : List (List ℕ)) → check_of again ≡ Some (record { file = asked.file; other = out; wide = asked.wide; options = no_options })
    → (second : ℕ) (begun ended : State) → begun.shelf.files ≡ Some told → Runs (request_of again) second begun ended
    → SaysTheSame (report_of false asked.json) check_text told (limits_of asked.wide) asked.file before after second begun ended

-- what `rest FILE --certificate OUT` put with status 0, 1 or 2 is accepted by `rest-check FILE OUT`, with the same silent names, over the
-- files as they were left: it never ends with 3, 4 or 5, and with 0 it says that exactly the patterns are proved that were reported safe at
-- rest
abbrev pub WrittenAtRestIsAccepted : Type 0
WrittenAtRestIsAccepted =
    (words : List (List ℕ)) (first : ℕ) (before after : State) → Runs (request_of words) first before after
    → (asked : RestWords) (out : List ℕ) → rest_of words ≡ Some asked → asked.verify.out ≡ Some out → first ≤ 2
    → (told : Told) → after.shelf.files ≡ Some told
    → (again : List (List ℕ)) → rest_check_of again ≡ Some (record {
      file = asked.verify.file;
      other = out;
      wide = asked.verify.wide;
      silent = asked.silent;
      options = no_options;
    })
    → (second : ℕ) (begun ended : State) → begun.shelf.files ≡ Some told → Runs (request_of again) second begun ended
    → SaysTheSame (report_of true asked.verify.json) rest_check_text told (limits_of asked.verify.wide) asked.verify.file before after second begun ended

-- a first run reported the search of FILE, a template, and its last values were found; OUT2 holds FILE's body with these values, which
-- means a file; and a second run said that each of its patterns is proved, or it ended with 6 or 7
pub record ProvesFound (told : Told) (asked : SearchWords) (filled : List ℕ) (before after : State) (number : ℕ) (begun ended : State) : Type 0 where
  pub template : Template
  pub is_template : IsTemplate (limits_of asked.wide) (in_files told) asked.file template
  pub end : SearchEnd
  pub reported : after.out.written ≡ with_text before.out.written (search_told asked.json template end)
  pub last : LastIsFound template (limits_of asked.wide) end
  pub held : told filled ≡ Some (filled_text template last.last.values)
  pub is_file : IsFile (limits_of asked.wide) (in_files told) filled last.found.file
  pub accepted : SaysOrFails (check_text last.found.file (range_with_len 0 (length last.found.file.patterns))) number begun ended

-- what `search FILE --certificate OUT --filled OUT2` put with status 0 is accepted by `check OUT2 OUT` over the files as they were left: it
-- never ends with 3, 4 or 5, and with 0 it says that every pattern of OUT2 is proved. OUT, OUT2 and FILE differ: a command line in which
-- two of them are equal is refused
abbrev pub FoundIsAccepted : Type 0
FoundIsAccepted =
    (words : List (List ℕ)) (before after : State) → Runs (request_of words) 0 before after
    → (asked : SearchWords) (out filled : List ℕ) → search_of words ≡ Some asked → asked.out ≡ Some out → asked.filled ≡ Some filled
    → (told : Told) → after.shelf.files ≡ Some told
    → (again : List (List ℕ)) → check_of again ≡ Some (record { file = filled; other = out; wide = asked.wide; options = no_options })
    → (second : ℕ) (begun ended : State) → begun.shelf.files ≡ Some told → Runs (request_of again) second begun ended
    → ProvesFound told asked filled before after second begun ended
