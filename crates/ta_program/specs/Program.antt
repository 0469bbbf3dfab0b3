-- What a run of the program promises, command by command and status by status: each line of `Promises` is one of these.
use Rattle.std.specs.Prelude.{ℕ, ◌≡◌, ◌≢◌, ◌≤◌, ◌⊎◌, List, [], Option, None, Some, IsSome, true, false}
use Rattle.ta_automaton.specs.declared.file.File.{File}
use Rattle.ta_automaton.specs.Runs as runs
use Rattle.ta_shelf.specs.Calls.{Event}
use Rattle.ta_shelf.specs.Counts.{Faulted}
use Rattle.ta_shelf.specs.Put.{Told}
use Rattle.ta_shelf.specs.Commands.{Exact}
use Rattle.ta_shelf.specs.Ends.{ShelfState, SinkFaltered, Spares, State, Telling, Tells}
use Rattle.ta_shelf.specs.OutputCalls.{Acts, AreOfStages, AreStaging}
use Rattle.ta_shelf.specs.Puts.{KeptBut, may_put}
use Rattle.ta_shelf.specs.Sights.{in_files}
use Rattle.ta_shelf.specs.Sparing.{Differ}
use Rattle.ta_program.specs.Values.{limits_of}
use Rattle.ta_program.specs.Asked.{Asked, IsNoCommand, usage_line}
use Rattle.ta_program.specs.Asked.Asked.{Command, NoCommand}
use Rattle.ta_program.specs.Admit.{AdmitAsked, AdmitHolds, IsAdmitted, admit_of}
use Rattle.ta_program.specs.Bench.{BenchHolds, FamilySafe, bench_of}
use Rattle.ta_program.specs.Certified.{LongCertificate}
use Rattle.ta_program.specs.Check.{CheckHolds}
use Rattle.ta_program.specs.CheckWords.{CheckWords, ReplayWords, check_of, replay_of}
use Rattle.ta_program.specs.Compress.{CanCompress, CompressHolds, LeavesRange, compress_of}
use Rattle.ta_program.specs.Count.{CountHolds, count_of}
use Rattle.ta_program.specs.Ended.{Did, Ended, Made, Saw}
use Rattle.ta_program.specs.Export.{ExportHolds, export_of}
use Rattle.ta_program.specs.Kinds.{IsFile}
use Rattle.ta_program.specs.Printed.{EachPrintedUnsafe, EachToldProved, EachToldSafe, telling_of}
use Rattle.ta_program.specs.Proofs.{EveryPattern}
use Rattle.ta_program.specs.Replay.{ReplayHolds}
use Rattle.ta_program.specs.OneFile.{OneFileWords}
use Rattle.ta_program.specs.PatternOption.{IsPick}
use Rattle.ta_program.specs.Requests.{request_of}
use Rattle.ta_program.specs.Rest.{IsDecidedAtRest, LongAtRest, RestCertificateStands, RestReportHolds}
use Rattle.ta_program.specs.RestCheck.{RestCheckHolds}
use Rattle.ta_program.specs.RestWords.{RestCheckWords, RestWords, rest_check_of, rest_of}
use Rattle.ta_program.specs.SilentNames.{AreSilent, FairlySafeBut, RestOccursBut, RestSafeBut}
use Rattle.ta_program.specs.Reporting.{CertificateStands, IsDecided, ReportHolds}
use Rattle.ta_program.specs.Search.{SearchHolds, found_names}
use Rattle.ta_program.specs.SearchWords.{SearchWords, search_of}
use Rattle.ta_program.specs.Show.{SafeAsPrinted, ShowHolds, show_of}
use Rattle.ta_program.specs.Tries.{EachTried}
use Rattle.ta_verdict.specs.Rest.Budgets.{resting}
use Rattle.ta_report.specs.declared.pick.Pick.{Pick}
use Rattle.ta_program.specs.Values.{TwoNames}
use Rattle.ta_program.specs.VerifyWords.{VerifyWords, verify_of}
use Rattle.ta_program.specs.WordAsked.{WordAsked}

-- a status is the one that is wanted, 6 and 7 aside
abbrev pub Exits : ℕ → ℕ → Type 0
Exits exit wanted = (exit ≡ wanted) ⊎ ((exit ≡ 6) ⊎ (exit ≡ 7))

-- `verify FILE` with status 0, 1 or 2, whatever its options: FILE is legal, what is said of the parameters holds, each verdict holds, and
-- the output gained the report. The status is 1 if some pattern is unsafe, otherwise 2 if some pattern is unknown, or if `--all` is asked
-- for and there is no pattern or no parameters are known, otherwise 0
abbrev pub VerifyReports : Ended → Type 0
VerifyReports r = (asked : VerifyWords) → verify_of r.words ≡ Some asked → r.status ≤ 2
    → Did r (may_put asked.out) (λ view. ReportHolds r.status view asked r.before.written r.after.written)

-- `verify FILE --certificate OUT` with status 0, 1 or 2: the report holds, and the log records that the certificate of the patterns that it
-- calls safe, which `check` accepts as one of exactly these, was put in the place of OUT, whole. If the files are known, OUT holds it and
-- every other file is unchanged
abbrev pub CertificateWritten : Ended → Type 0
CertificateWritten r = (asked : VerifyWords) (out : List ℕ) → verify_of r.words ≡ Some asked → asked.out ≡ Some out → r.status ≤ 2
    → Made r (may_put asked.out) (λ view made.
    CertificateStands r.status view asked out r.before.files r.after.files r.before.written r.after.written made)

-- `check FILE CERT` with status 0, 1 or 2, whatever its options: FILE is legal, CERT is a certificate of it, each pattern that it proves is
-- safe, and the output gained the text that says which patterns these are, with what is known of the parameters, where that is asked for.
-- The status is 2 exactly if `--all` is asked for and some pattern is not proved, or there is none, or no parameters are known that have an
-- initial configuration; otherwise it is 0. So with `--all` and 0 FILE has patterns, each of them is safe, and some initial configuration
-- exists
pub record CheckProves (r : Ended) : Type 0 where
  pub holds : (asked : CheckWords) → check_of r.words ≡ Some asked → r.status ≤ 2
      → Saw r (λ view. CheckHolds r.status view asked r.before.written r.after.written)
  pub every : (asked : CheckWords) → check_of r.words ≡ Some asked → asked.options.all ≡ true → r.status ≡ 0
      → Saw r (λ view. EveryPattern runs.Safe view asked.file)

-- `compress FILE RUN` with status 0: FILE is legal, RUN is the text of a run that can be compressed, and the output gained the text
-- of the compressed run, which shows the pattern, marks the same events at the same configurations, and is short. If known files have all
-- that, the status is 0; if the run is replayed and has few steps, but a guard leaves the range on its way, it is 4; 6 and 7 aside
pub record RunShortens (r : Ended) : Type 0 where
  pub holds : (asked : TwoNames) → compress_of r.words ≡ Some asked → r.status ≡ 0
      → Saw r (λ view. CompressHolds view asked r.before.written r.after.written)
  pub exact : (asked : TwoNames) (told : Told) → compress_of r.words ≡ Some asked → r.before.files ≡ Some told
      → CanCompress told asked → Exits r.status 0
  pub outside : (asked : TwoNames) (told : Told) (line : ℕ) → compress_of r.words ≡ Some asked → r.before.files ≡ Some told
      → LeavesRange told asked line → Exits r.status 4

-- `replay FILE RUN` with status 0: FILE is legal, RUN is the text of a run that shows its pattern, and the output gained the text
-- that says so
abbrev pub ReplayShows : Ended → Type 0
ReplayShows r = (asked : ReplayWords) → replay_of r.words ≡ Some asked → r.status ≡ 0
    → Saw r (λ view. ReplayHolds view asked r.before.written r.after.written)

-- `bench K` with status 0 or 2: the automaton with this number was verified, and the output gained the lines that say so; 0 if its pattern
-- is safe, and 2 if it is unknown. It never ends with 1, 3 or 4
pub record Benches (r : Ended) : Type 0 where
  pub holds : (k : ℕ) → bench_of r.words ≡ Some k → r.status ≤ 2 → BenchHolds r.status k r.before.written r.after.written
  pub others : (k : ℕ) → bench_of r.words ≡ Some k → (r.status ≢ 1) × (r.status ≢ 3) × (r.status ≢ 4)

-- `export FILE PATTERN START WORD` with status 0: FILE is legal and has the schema, and the output gained a text that denotes, of all lists
-- of integers, exactly those that are natural and solve the schema's system without bounds
abbrev pub Exports : Ended → Type 0
Exports r = (asked : WordAsked) → export_of r.words ≡ Some asked → r.status ≡ 0
    → Saw r (λ view. ExportHolds view asked r.before.written r.after.written)

-- `admit FILE PATTERN START WORD VALUES` with status 0: FILE is legal and has the complete schema, VALUES solve its system, and the output
-- gained the text of their run, which shows the pattern. If known files have all that, and the run stays in range, the status is 0, 6 and 7
-- aside
pub record Admitting (r : Ended) : Type 0 where
  pub holds : (all : AdmitAsked) → admit_of r.words ≡ Some all → r.status ≡ 0
      → Saw r (λ view. AdmitHolds view all r.before.written r.after.written)
  pub exact : (all : AdmitAsked) (told : Told) → admit_of r.words ≡ Some all → r.before.files ≡ Some told → IsAdmitted told all → Exits r.status 0

-- `rest FILE` with status 0, 1 or 2, whatever its options: FILE is legal and its cycles are self-loops, so the number of other steps of a
-- run is bounded; what is said of the parameters holds, each verdict on runs that come to rest holds, they and `--all` give the status as with
-- `verify`, and the output gained the report. With `--certificate OUT` the certificate of the patterns that are called safe at rest, which
-- `rest-check` accepts as one of exactly these, was put in the place of OUT; if the files are known, every other file is unchanged
pub record RestsReport (r : Ended) : Type 0 where
  pub report : (asked : RestWords) → rest_of r.words ≡ Some asked → r.status ≤ 2
      → Did r (may_put asked.verify.out) (λ view. RestReportHolds r.status view asked r.before.written r.after.written)
  pub certificate : (asked : RestWords) (out : List ℕ) → rest_of r.words ≡ Some asked → asked.verify.out ≡ Some out → r.status ≤ 2
      → Made r (may_put asked.verify.out) (λ view made.
      RestCertificateStands r.status view asked out r.before.files r.after.files r.before.written r.after.written made)

-- `rest-check FILE CERT` with status 0, 1 or 2, whatever its options: FILE is legal and its cycles are self-loops, CERT is a certificate for
-- its endings, no run comes to rest where the last event of a pattern that CERT proves happens, and the output gained the text that says
-- which patterns these are. With `--silent NAMES` no guard of FILE subtracts one of these names, and no run comes to quiet rest there, where
-- their places are silent. The status is 2 exactly if `--all` is asked for and some pattern is not proved, or there is none, or no
-- parameters are known that have an initial configuration; otherwise it is 0. So with `--all` and 0 FILE has patterns, each of them is safe
-- at rest, and some initial configuration exists
pub record RestProves (r : Ended) : Type 0 where
  pub holds : (asked : RestCheckWords) → rest_check_of r.words ≡ Some asked → r.status ≤ 2
      → Saw r (λ view. RestCheckHolds r.status view asked r.before.written r.after.written)
  pub every : (asked : RestCheckWords) → rest_check_of r.words ≡ Some asked → asked.options.all ≡ true → r.status ≡ 0
      → Saw r (λ view. EveryPattern (RestSafeBut asked.silent) view asked.file)

-- `search FILE` with status 0, 1 or 2, whatever its options: FILE is a template, and the output gained the text of the search for values of
-- its holes, in lines or in JSON: its vectors were tried in order, each is listed once with an outcome that holds, up to the first that is
-- Safe. With 0 every pattern of the last filled text is safe and some parameters have an initial configuration; that text was put in
-- the place of OUT2, and in that of OUT a certificate of it, which `check` accepts as one of all its patterns. With 1 and 2 no file is put
-- in its place; if the files are known, they are unchanged. 2 means that some outcome is unknown
abbrev pub Searches : Ended → Type 0
Searches r = (asked : SearchWords) → search_of r.words ≡ Some asked → r.status ≤ 2
    → Made r (found_names asked) (λ view made.
    SearchHolds r.status view asked r.before.files r.after.files r.before.written r.after.written made)

-- `show FILE` with status 0: FILE is legal, and the output gained the text of the file that its bytes mean, and of the orders of its guards
-- that are found; and behind it the unknowns of its patterns' nodes without facts, by name. No two files have the same text, and none
-- begins with that of another (`shows_differ` of ta_report); the names are those of the unknowns (`unknowns_are_named`)
abbrev pub ShowsFile : Ended → Type 0
ShowsFile r = (asked : OneFileWords) → show_of r.words ≡ Some asked → r.status ≡ 0 → Saw r (λ view. ShowHolds view asked r.before.written r.after.written)

-- `count FILE` with status 0: FILE is legal, and the output gained a line for each limit of its lists, which says how much of it the file
-- that FILE's bytes mean uses, and nothing else; none says more than its limit
abbrev pub CountsFile : Ended → Type 0
CountsFile r = (asked : OneFileWords) → count_of r.words ≡ Some asked → r.status ≡ 0 → Saw r (λ view. CountHolds view asked r.before.written r.after.written)

-- `verify FILE` with status 0, its words in any order: if `show FILE` prints a text for FILE's bytes, the patterns of each file with this
-- text, or the one that is asked for, occur in no run
abbrev pub SafeAsShown : Ended → Type 0
SafeAsShown r = (asked : VerifyWords) → verify_of r.words ≡ Some asked → r.status ≡ 0
    → Did r (may_put asked.out) (λ view. SafeAsPrinted view asked.file asked.pattern)

-- with status 0, 1 or 2 of `verify` a pattern that the report calls safe, by its line or in JSON, is safe, and one that it calls unsafe
-- occurs in the run whose text it prints; with status 0, 1 or 2 of `check` a pattern that it calls `proved`, by its line or in JSON, is
-- safe. For `rest` and `rest-check`, by lines or in JSON: of a
-- pattern that is `rest safe` or `rest proved` no run comes to rest with its last event at the end, and it occurs for ever in no fair
-- infinite run; of one that is `rest unsafe` the printed run comes to rest so. With `--silent NAMES` the same holds of quiet rest, and of
-- runs that are fair where these are silent. With status 0, 1 or 2 of `search`, by lines or in JSON, each outcome that it lists as safe,
-- unsafe or without parameters is so of the filled text, and it ends with `found` exactly with 0; with status 0 or 2 of `bench` the pattern
-- of its automaton is safe
pub record PrintedHolds (r : Ended) : Type 0 where
  pub safe : (asked : VerifyWords) → verify_of r.words ≡ Some asked → r.status ≤ 2
      → Did r (may_put asked.out) (λ view. EachToldSafe runs.Safe false asked.json view asked.file r.before.written r.after.written)
  pub unsafe_ : (asked : VerifyWords) → verify_of r.words ≡ Some asked → r.status ≤ 2
      → Did r (may_put asked.out) (λ view.
      EachPrintedUnsafe runs.Occurs (telling_of false asked.json) view asked.file r.before.written r.after.written)
  pub proved : (asked : CheckWords) → check_of r.words ≡ Some asked → r.status ≤ 2
      → Saw r (λ view. EachToldProved runs.Safe asked.options.json false view asked.file r.before.written r.after.written)
  pub rest_safe : (asked : RestWords) → rest_of r.words ≡ Some asked → r.status ≤ 2
      → Did r (may_put asked.verify.out) (λ view.
      EachToldSafe (RestSafeBut asked.silent) true asked.verify.json view asked.verify.file r.before.written r.after.written)
  pub rest_unsafe : (asked : RestWords) → rest_of r.words ≡ Some asked → r.status ≤ 2
      → Did r (may_put asked.verify.out) (λ view.
      EachPrintedUnsafe (RestOccursBut asked.silent) (telling_of true asked.verify.json) view asked.verify.file r.before.written r.after.written)
  pub rest_proved : (asked : RestCheckWords) → rest_check_of r.words ≡ Some asked → r.status ≤ 2
      → Saw r (λ view. EachToldProved (RestSafeBut asked.silent) asked.options.json true view asked.file r.before.written r.after.written)
  pub rest_fair : (asked : RestWords) → rest_of r.words ≡ Some asked → r.status ≤ 2
      → Did r (may_put asked.verify.out) (λ view.
      EachToldSafe (FairlySafeBut asked.silent) true asked.verify.json view asked.verify.file r.before.written r.after.written)
  pub rest_proved_fair : (asked : RestCheckWords) → rest_check_of r.words ≡ Some asked → r.status ≤ 2
      → Saw r (λ view. EachToldProved (FairlySafeBut asked.silent) asked.options.json true view asked.file r.before.written r.after.written)
  pub tried : (asked : SearchWords) → search_of r.words ≡ Some asked → r.status ≤ 2
      → Did r (found_names asked) (λ view. EachTried r.status view asked r.before.written r.after.written)
  pub benched : (k : ℕ) → bench_of r.words ≡ Some k → r.status ≤ 2 → FamilySafe k

-- 5 exactly if the words are no command's
pub record UsageExactly (r : Ended) : Type 0 where
  pub no_command : r.status ≡ 5 → IsNoCommand (request_of r.words)
  pub command : r.status ≢ 5 → ¬ IsNoCommand (request_of r.words)

-- what is printed on standard error
abbrev pub Tellings : Asked → ℕ → State → State → Type 0
Tellings NoCommand exit before after = (exit ≡ 5) × Tells usage_line before.err after.err
Tellings (Command legal m) exit before after = Telling m exit before after

-- if the files are known, the status is the one that they determine, 6 and 7 aside
abbrev pub ExactlySo : ℕ → Asked → Option Told → Type 0
ExactlySo exit NoCommand files = Unit {0}
ExactlySo exit (Command legal m) files = Exact m files exit

-- the calls are those of the command that is asked for, and no others: those that read, or none of them, and those on staged files
-- of its outputs; no call creates a file or appends to one in its place
abbrev pub Opens : Asked → List Event → List Event → Type 0
Opens NoCommand calls calls' = calls' ≡ calls
Opens (Command legal m) calls calls' = Acts m.puts (λ read made. (m.opens read ⊎ (read ≡ [])) × AreOfStages m.puts made) calls calls'

-- the names of the files that the command may write
abbrev pub put_by : Asked → List (List ℕ)
put_by NoCommand = []
put_by (Command legal m) = m.puts

-- every known file is unchanged, except OUT if `--certificate OUT` is asked for, and OUT2 if `--filled OUT2` is; with 3, 4 and 5 these are
-- unchanged too, and with 6 and 7 if no publishing was refused
pub record KeepsFiles (exit : ℕ) (words : List (List ℕ)) (before after : ShelfState) : Type 0 where
  pub others : KeptBut (put_by (request_of words)) before.files after.files
  pub refused : 3 ≤ exit → exit ≤ 5 → after.files ≡ before.files
  pub spared : Spares (put_by (request_of words)) exit before after

-- before a call changes a file, the reads of this run showed FILE's bytes, that no output that can be read again held just these, and that
-- two outputs lead to different places
abbrev pub ComparesFirst : Ended → List ℕ → List (List ℕ) → Type 0
ComparesFirst r name outs = Made r outs (λ view made. Differ view name outs ⊎ AreStaging outs made)

-- what was read or written isn't destroyed, whatever the status: by no name, and by no link
pub record SparesRead (r : Ended) : Type 0 where
  pub verify : (asked : VerifyWords) → verify_of r.words ≡ Some asked → ComparesFirst r asked.file (may_put asked.out)
  pub rest : (asked : RestWords) → rest_of r.words ≡ Some asked → ComparesFirst r asked.verify.file (may_put asked.verify.out)
  pub search : (asked : SearchWords) → search_of r.words ≡ Some asked → ComparesFirst r asked.file (found_names asked)

-- if known files are legal for the command, the status is neither 3 nor 5
abbrev pub PassesLegal : Asked → ℕ → Option Told → Type 0
PassesLegal NoCommand exit files = Unit {0}
PassesLegal (Command legal m) exit files = (told : Told) → files ≡ Some told → legal told → (exit ≢ 3) × (exit ≢ 5)

-- known files hold the same under FILE's name and under that of OUT, if it is given
abbrev pub HoldsSame : Told → List ℕ → Option (List ℕ) → Type 0
HoldsSame told file None = ⊥
HoldsSame told file (Some out) = told out ≡ told file

-- a report of verdicts doesn't end with 2 if all that it tells is known, and ends with 4 exactly if a certificate is asked for that is too
-- long or whose file holds what was read, 6 and 7 aside
pub record EndsSo (exit : ℕ) (out : Option (List ℕ)) (Known Long Same : Type 0) : Type 0 where
  pub known : Known → exit ≢ 2
  pub fits : exit ≡ 4 → IsSome out × (Long ⊎ Same)
  pub long : IsSome out → Long → Exits exit 4
  pub same : Same → Exits exit 4

-- the same for `verify`, if known files hold a legal FILE that has the pattern that is asked for
abbrev pub ReportEnds : ℕ → Option Told → Option VerifyWords → Type 0
ReportEnds exit files words =
    (told : Told) (asked : VerifyWords) (file : File) (pick : Pick) → files ≡ Some told → words ≡ Some asked
    → IsFile (limits_of asked.wide) (in_files told) asked.file file
    → IsPick file asked.pattern pick
    → EndsSo exit asked.out (IsDecided asked file pick) (LongCertificate file pick asked.budget) (HoldsSame told asked.file asked.out)

-- the same for `rest`, if the names may be silent in FILE
abbrev pub RestReportEnds : ℕ → Option Told → Option RestWords → Type 0
RestReportEnds exit files words =
    (told : Told) (asked : RestWords) (file : File) (places : List ℕ) (pick : Pick) → files ≡ Some told → words ≡ Some asked
    → IsFile (limits_of asked.verify.wide) (in_files told) asked.verify.file file → AreSilent file.automaton asked.silent places
    → IsPick file asked.verify.pattern pick
    → EndsSo exit asked.verify.out (IsDecidedAtRest asked file (resting asked.verify.budget places) pick)
    (LongAtRest file (resting asked.verify.budget places) pick) (HoldsSame told asked.verify.file asked.verify.out)

-- a legal FILE passes; for `verify` and `rest`, one that has the pattern that is asked for; for `rest` and `rest-check`, one whose cycles
-- are self-loops, with names that may be silent in it. With known files the status is neither 3 nor 5; if no call failed or stalled, it is
-- not 6; for `verify` and `rest` it is not 2 if all is decided (`IsDecided`), and it is 4 exactly if the certificate that is asked for is
-- too long, or its file holds what FILE does, 6 and 7 aside
pub record Completes (exit : ℕ) (words : List (List ℕ)) (before after : State) : Type 0 where
  pub passes : PassesLegal (request_of words) exit before.shelf.files
  pub calm : ¬ Faulted before.shelf.faults after.shelf.faults → ¬ SinkFaltered before.out after.out → exit ≢ 6
  pub verify : ReportEnds exit before.shelf.files (verify_of words)
  pub rest : RestReportEnds exit before.shelf.files (rest_of words)
