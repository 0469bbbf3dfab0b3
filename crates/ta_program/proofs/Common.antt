-- The names that the proofs of this crate cite, passed on from one place. Declares nothing.
pub use Rattle.std.proofs.Common.{Bool, Err, List, None, Ok, Option, Result, Some, [], ap, append_assoc, arith, cond, drop, false, get_or, inl, inr, length}
pub use Rattle.std.proofs.Common.{length-append, ltb-false, ltb-true, map, max, min, nat_le, nat_lt, not, option_map, refl, rules, slice_get, string_bytes}
pub use Rattle.std.proofs.Common.{subst, suc, sym, take, take_all, tests, true, zero, ℕ, ◌&&◌, ◌++◌, ◌+◌, ◌-◌, ◌<◌, ◌^◌, ◌∙◌, ◌∷◌, ◌≡◌, ◌≢◌, ◌≤◌, ◌⊎◌}
pub use Rattle.std.proofs.Math.Seq.{take-append-add}
pub use Rattle.std.proofs.lemmas.Bool.{and_parts, cases_order, eqb-true, false_from_ne_true, false≢true, or_parts}
pub use Rattle.std.proofs.lemmas.Iterator.{YieldsList-from_slice}
pub use Rattle.std.proofs.lemmas.Iterator.Search.{any_from_yields_List}
pub use Rattle.std.proofs.lemmas.List.{append-nil, at_drop_all, length-drop, length-take-le, take-append-drop, take-append-le}
pub use Rattle.std.proofs.lemmas.Option.{get_or_from_slice_get, option_and_then_some, slice_get_within}
pub use Rattle.std.specs.List.{AllByRecursion, list_all, list_any, range_with_len, concat}
pub use Rattle.std.specs.Prelude.{Contains, IfOk, IsSome, codes, if◌then◌else◌, is_some, option_and_then, ◌==◌}
pub use Rattle.std.specs.Str.{bytes_eq}
pub use Rattle.ta_automaton.specs.declared.automaton.Automaton.{Automaton}
pub use Rattle.ta_automaton.specs.declared.file.File.{File}
pub use Rattle.ta_automaton.specs.declared.pattern.Pattern.{Pattern}
pub use Rattle.ta_base.proofs.Each.{each_append, each_at, each_back}
pub use Rattle.ta_base.proofs.Lists.{next_item, none_not_some, one_content, piece_size, piece_written, same_parts, some_at}
pub use Rattle.ta_base.specs.Masks.{has_bit}
pub use Rattle.ta_cert.specs.Certificates.{pair_of, proofs_of}
pub use Rattle.ta_cert.specs.declared.fault.CertFault.{CertFault}
pub use Rattle.ta_check.proofs.Lasting.{no_longer_certificate}
pub use Rattle.ta_check.specs.Certificate.{AllClaimsHold, AllQuietRestSafe, AllSafe, Certificate, CertificateFor, PatternSafe, QuietRestCertificate}
pub use Rattle.ta_check.specs.Certificate.{proof_number}
pub use Rattle.ta_check.specs.Checkers.{CheckerFeedAnswers, CheckerFinishAnswers, CheckerStandsFor, IsExactCheck, IsExactFeed, subject_of}
pub use Rattle.ta_check.specs.Faults.{IsFirstFaultFor, IsLastingFor}
pub use Rattle.ta_check.specs.Subjects.{ClaimHolds, Subject, claiming, claiming_with}
pub use Rattle.ta_check.specs.declared.accepted.Accepted.{Accepted}
pub use Rattle.ta_check.specs.declared.checker.Checker.{Checker}
pub use Rattle.ta_meaning.proofs.OneTree.{one_legal}
pub use Rattle.ta_program.specs.Admit.{AdmitAsked, AdmitHolds, admit_meaning, admit_of, admit_words, run_meaning, values_kind, values_meaning}
pub use Rattle.ta_program.specs.Asked.{Asked, IsAskedFor, LegalFile, Passes, PassesWhere, Runs, ask, ask_where, choose}
pub use Rattle.ta_program.specs.Asked.Asked.{Command, NoCommand}
pub use Rattle.ta_program.specs.Bench.{BUDGET, BenchHolds, IsBench, IsCertified, SaysBench, bench_meaning, bench_of, bench_status, bench_text, bench_words}
unfoldable pub use Rattle.ta_program.specs.Bench.{family_text}
pub use Rattle.ta_program.specs.Certified.{HindersCertificate, LongCertificate, long_line}
pub use Rattle.ta_program.specs.Check.{CheckHolds, check_meaning, proved_meaning}
pub use Rattle.ta_program.specs.Compress.{CanCompress, CompressFaultIn, CompressHolds, Compresses, IsRefusedRun, IsTextFault, LeavesRange, SaysShort, ShortOf}
pub use Rattle.ta_program.specs.Compress.{compress_meaning, compress_of, long_kind, of_run, out_of_range_line, short_meaning}
pub use Rattle.ta_program.specs.Count.{CountHolds, IsCount, count_line, count_of, count_text, counts_of, most_events}
pub use Rattle.ta_program.specs.Export.{ExportHolds, SaysSystem, WordHinders, export_meaning, export_of, export_words, system_meaning, word_fault_text}
pub use Rattle.ta_program.specs.Faults.{FaultsAreNamed, HinderAlike, HinderOnce, NamesFault, OfCommand, OneFault}
pub use Rattle.ta_program.specs.Inside.Certifying.{Certifies, ReportsAndPuts}
pub use Rattle.ta_program.specs.Inside.Found.{EndsRefused, PickRefused, WordRefused}
pub use Rattle.ta_program.specs.Inside.Judged.{Breaks, IsAllowed, IsUnproved, JudgedTo, JudgedWhole, PassesLimit, PieceFed, RefusedBy, Turn}
pub use Rattle.ta_program.specs.Inside.Reported.{SampleReported}
pub use Rattle.ta_program.specs.Kinds.{IsFile, IsReplayFault, ShowsRun, certificate_kind, file_kind, run_kind}
pub use Rattle.ta_program.specs.Laws.{FoundIsAccepted, PrintedRunsAreReplayed, SaysOrFails, WrittenAtRestIsAccepted, WrittenIsAccepted}
pub use Rattle.ta_program.specs.Printed.{EachPrintedUnsafe, EachToldSafe, UnsafePrinted, telling_of}
pub use Rattle.ta_program.specs.Program.{Admitting, Benches, CertificateWritten, CheckProves, ComparesFirst, Completes, EndsSo, ExactlySo, Exports, HoldsSame}
pub use Rattle.ta_program.specs.Program.{KeepsFiles, Opens, PassesLegal, PrintedHolds, ReplayShows, RestProves, RestsReport, RunShortens, Searches, SparesRead}
pub use Rattle.ta_program.specs.Program.{VerifyReports, put_by}
pub use Rattle.ta_program.specs.OneFile.{SaysText, one_file_asked, one_file_meaning, one_file_words, printing}
pub use Rattle.ta_program.specs.Replay.{ReplayHolds, SaysShown, replay_meaning, shown_meaning}
pub use Rattle.ta_program.specs.Reporting.{CertificateStands, ReportHolds, Reports, report_meaning, verify_meaning, IsDecided, picked_meaning}
pub use Rattle.ta_program.specs.PatternOption.{EachPicked, HasName, IsPick, LegalPicked, PickHinders, with_pick}
pub use Rattle.ta_program.specs.Requests.{request_of}
pub use Rattle.ta_program.specs.Rest.{HindersRest, IsDecidedAtRest, LegalRest, LongAtRest, LongRest, RestCertificateStands, RestReportHolds, RestReports}
pub use Rattle.ta_program.specs.Rest.{rest_meaning, rest_picked, rest_quietly, rest_report_meaning}
pub use Rattle.ta_program.specs.RestCheck.{RestCheckHolds, quietly_meaning, rest_check_meaning, rest_proved_meaning}
pub use Rattle.ta_program.specs.RestEnds.{CycleHinders, FileEndings, IsEnds, LegalAtRest, at_ends, cycle_text, ends_of, with_ends}
pub use Rattle.ta_program.specs.RestWords.{RestCheckWords, RestWords, quiet_names, rest_check_of, rest_check_words, rest_form, rest_of, rest_taken, rest_words}
pub use Rattle.ta_program.specs.SilentNames.{AreSilent, FairlySafeBut, LegalSilently, NamesHinder, RestOccursBut, RestSafeBut, with_silent}
pub use Rattle.ta_program.specs.Search.{Finds, HindersFound, HoldFound, IsTemplate, IsTemplateText, LegalTemplate, SearchHolds, end_number, found_files}
pub use Rattle.ta_program.specs.Search.{found_meaning, found_names, leaves_unknown, search_meaning, template_kind}
pub use Rattle.ta_program.specs.SearchSeen.{search_seen}
pub use Rattle.ta_program.specs.SearchWords.{SearchWords, search_form, search_of, search_taken, search_words}
pub use Rattle.ta_program.specs.Show.{IsFileText, IsShown, ShowHolds, show_of}
pub use Rattle.ta_program.specs.Statuses.{report_number, tells_nothing, verdicts_number}
pub use Rattle.ta_program.specs.Taken.{names_seen}
pub use Rattle.ta_program.specs.Values.{TwoNames, are_same, budget_of, file_name_of, filled_of, is_budget, out_of, two_names}
pub use Rattle.ta_program.specs.VerifyWords.{VerifyWords, verify_form, verify_of, verify_taken, verify_words}
pub use Rattle.ta_program.specs.WordAsked.{WordAsked}
pub use Rattle.ta_program.specs.WordSeen.{asked_seen, word_seen}
pub use Rattle.ta_program.specs.Words.{Taken, behind, behind_name, option_value, plain_of, taken_by}
pub use Rattle.ta_program.specs.declared.limits.TheConstants.{CERTIFICATE, RUN}
pub use Rattle.ta_replay.proofs.TextsShort.{lines_counted, run_text_short}
pub use Rattle.ta_replay.specs.RunText.{IsRunText, run_text}
pub use Rattle.ta_replay.specs.Shows.{IsFirstConfig, Shows, ShowsPattern, shown_of, unit_steps}
pub use Rattle.ta_replay.specs.declared.run.Run.{Run}
pub use Rattle.ta_report.proofs.Printed.{printed_rest_safe, printed_rest_unsafe, printed_runs, runs_printed}
pub use Rattle.ta_report.proofs.Tellings.{run_told, told_run, told_safe, told_unsafe}
pub use Rattle.ta_report.specs.Check.{proofs_told, word_told}
pub use Rattle.ta_report.specs.Report.{VerdictFits, rest_text}
pub use Rattle.ta_report.specs.Telling.{TellsUnsafe, report_of, TellsSafe}
pub use Rattle.ta_report.specs.Picked.{entry_of, first_picked, picked}
pub use Rattle.ta_report.specs.declared.pick.Pick.{Pick}
pub use Rattle.ta_report.specs.declared.pick.Pick.TheVariants.{All, One}
pub use Rattle.ta_program.specs.declared.telling.Form.{Form}
pub use Rattle.ta_report.specs.declared.verdict.ReportSample.{ReportSample}
pub use Rattle.ta_report.specs.declared.verdict.Verdict.{Verdict}
pub use Rattle.ta_report.specs.declared.verdict.Verdict.TheVariants.{Overflow, Safe, Spent, Unsafe}
pub use Rattle.ta_rest.proofs.EndingShapes.{endings_count}
pub use Rattle.ta_rest.specs.Endings.{Endings, IsEnding, LastMoved, RestAdded, events_below}
pub use Rattle.ta_rest.specs.Rest.{RestOccurs, RestSafe}
pub use Rattle.ta_search.specs.declared.terms.Terms.{Terms}
pub use Rattle.ta_verdict.specs.Rest.Budgets.{RestBudget, resting}
pub use Rattle.ta_verdict.specs.Rest.Certificates.{RestCertificateOf}
pub use Rattle.ta_verdict.specs.Rest.Verdicts.{AreRestVerdicts, EndingVerdictHolds, RestVerdictHolds}
pub use Rattle.ta_scope.specs.LongerCycles.{FirstLongerCycle, LoopsAlone}
pub use Rattle.ta_scope.specs.declared.scoped.ScopedFile.{ScopedFile}
pub use Rattle.ta_search.proofs.OneFault.{no_fault, one_fault, one_template}
pub use Rattle.ta_search.specs.Filling.{filled_text}
pub use Rattle.ta_search.specs.Searching.{AreTried, IsSearchEnd, LastIsFound, SearchesAreDetermined}
pub use Rattle.ta_search.specs.TemplateFaults.{FaultOf, FirstTemplateFault}
pub use Rattle.ta_search.specs.Vectors.{each_before, hole_values, vectors}
pub use Rattle.ta_search.specs.declared.fault.TemplateFault.{TemplateFault}
pub use Rattle.ta_search.specs.declared.outcome.SearchEnd.{SearchEnd}
pub use Rattle.ta_search.specs.declared.outcome.Tried.{Tried}
pub use Rattle.ta_search.specs.declared.template.Template.{Template}
pub use Rattle.ta_shelf.specs.Calls.{Call, Event, Grew, Put as PutCall, PieceBy, reads, ReadsFirst, Spells}
pub use Rattle.ta_shelf.specs.Put.{OthersStay, Told, WhereTold}
pub use Rattle.ta_shelf.specs.Sink.{with_text}
pub use Rattle.ta_shelf.proofs.Clauses.{acts, answered, grew_alone, held_or_staged, hindered, kept_refused, made_of_stages, never_five, tells_file}
pub use Rattle.ta_shelf.proofs.Read.{after_monotone, decides, finds_memory, finds_monotone, finds_one, finds_then, finds_wrong, grew_fault, grew_found}
pub use Rattle.ta_shelf.proofs.Read.{grew_meant, grew_means, grew_none, grew_then, grew_unread, is_more, no_hindrance, one_number, replies_monotone}
pub use Rattle.ta_shelf.proofs.Read.{replies_one, settles_monotone}
pub use Rattle.ta_shelf.proofs.Spared.{grew_compared, grew_holds, grew_kept, grew_spared, grew_unspared, one_holds_line, spared_answer, spared_decides}
pub use Rattle.ta_shelf.proofs.Spared.{spared_passes, spared_refuses}
pub use Rattle.ta_shelf.proofs.Views.{Monotone, sub_told, whole_one}
pub use Rattle.ta_shelf.specs.Commands.{Decides, IsSo, Meaning, Says}
pub use Rattle.ta_shelf.specs.Ends.{IsAnswered, Spares, Performs, Quiet, ShelfState, SinkState, State, Tells, state}
pub use Rattle.ta_shelf.specs.Lines.{file_line, holds_read, longer_than, missing, phrase_text}
pub use Rattle.ta_shelf.specs.Puts.{HoldsPut, HoldsText, KeptBut, PutsWithin, PutText, Stand, may_put, put_bytes, put_text}
pub use Rattle.ta_shelf.specs.Reading.{IsReading, IsUnreadable, ReadCause, ReadsFile, SaysOfFile, UnreadBy}
pub use Rattle.ta_shelf.specs.Sights.{Begins, HasMore, Unlike, View, Whole, in_files, seen, where_told}
pub use Rattle.ta_shelf.specs.Sparing.{Compares, Differ, HoldsRead, SparedStage, spared, sparing}
pub use Rattle.ta_shelf.specs.Stages.{FileIsAtFault, FileMeans, Hinders, IsBroken, Kind, MeantBy, ReadingGoesOn, Stage, Writes, after, finds, replies, settles}
pub use Rattle.ta_shelf.specs.declared.answer.Answer.{Answer}
pub use Rattle.ta_shelf.specs.declared.answer.Put.{Put}
pub use Rattle.ta_shelf.specs.declared.answer.Refusal.{Refusal}
pub use Rattle.ta_shelf.specs.declared.answer.Refusal.TheVariants.{Memory, PutFailed, ReadFailed, Refused}
pub use Rattle.ta_smt.proofs.FaultsOnce.{admit_faults_once, whole_faults_once, word_faults_once}
pub use Rattle.ta_smt.proofs.WordsNamed.{legal_exists, legal_of, legal_word, whole_exact, words_exact}
pub use Rattle.ta_smt.specs.Admit.{AskedWord}
pub use Rattle.ta_smt.specs.Named.{IsWholeWordOf, IsWordOf, Spelling, WholeFaultOf, WordFaultOf}
pub use Rattle.ta_smt.specs.declared.fault.WordFault.{WordFault}
pub use Rattle.ta_syntax.specs.PlainTrees.{plain_tree}
pub use Rattle.ta_verdict.proofs.VerdictsMade.{as_many, held, held_by, held_entry, held_number}
pub use Rattle.ta_verdict.proofs.VerdictsSaid.{tree_safe, verdict_run, verdict_safe}
pub use Rattle.ta_verdict.specs.Certificates.{CertificateOf, CertificateOn, SafeOne, safe_among, safe_numbers, safe_ones, safe_picked, tree_size, with_safe}
pub use Rattle.ta_verdict.specs.declared.budget.Budget.{Budget}
pub use Rattle.ta_verdict.specs.Verdicts.{AreVerdicts, AreVerdictsOn, EachHolds, IsKnown, IsSample, NoSample, SampleReal, UnsafeHolds, VerdictHolds}
pub use Rattle.ta_verdict.specs.Verdicts.{VerdictsHold, is_unknown, is_unsafe, place_of}
pub use Rattle.ta_shelf.specs.OutputCalls.{Acts, AreOfStages, AreStaging, PutWhole, TellsFile}
pub use Rattle.ta_shelf.proofs.CallLemmas.{reads-append}
pub use Rattle.ta_shelf.specs.Reading.{SaysLong}
pub use Rattle.ta_shelf.specs.Staging.{Begun, HasNoAnswer, SaysAndStages, SettlesFile, StagedBy, StagedInPart, StagedOr, StagedSoFar, result_seen}
pub use Rattle.ta_shelf.specs.declared.staged_answer.StagedAnswer.{StagedAnswer}
pub use Rattle.ta_shelf.specs.declared.staged_file.StagedFile.{StagedFile}
pub use Rattle.ta_shelf.specs.Ends.{LetGo}
pub use Rattle.ta_shelf.specs.OutputCalls.{Changed}
pub use Rattle.std.specs.declared.alloc.AllocError.{AllocError}
