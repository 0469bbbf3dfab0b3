-- from how a run ends to its clauses
use Rattle.ta_base.specs.LimitRows.{narrow}
use Rattle.ta_base.specs.declared.limits.Limits.{Limits}
use Rattle.ta_meaning.proofs.FileLimits.{legal_within}
use Rattle.ta_automaton.specs.Narrow.{IsWithin}
use Rattle.ta_program.specs.Values.{limits_of}
use Rattle.ta_program.proofs.Common.{verdict_safe, Budget, ◌≡◌, ◌≢◌, ◌≤◌, ◌+◌, ℕ, Bool, true, false, List, [], ◌∷◌, Option, None, Some, refl, sym, ap, subst}
use Rattle.ta_program.proofs.Common.{◌∙◌, inl, arith, rules, codes, if◌then◌else◌, list_any, AllByRecursion, bytes_eq, or_parts, File, Pattern, PatternSafe}
use Rattle.ta_program.proofs.Common.{one_legal, told_safe, report_of, Verdict, Safe, Unsafe, Spent, Overflow, filled_text, Grew, OthersStay, Told, WhereTold}
use Rattle.ta_program.proofs.Common.{with_text, answered, hindered, kept_refused, never_five, whole_one, Decides, Meaning, IsAnswered, Performs, Quiet}
use Rattle.ta_program.proofs.Common.{ShelfState, SinkState, State, HoldsPut, HoldsText, KeptBut, Stand, put_bytes, View, in_files, seen, run_text, unit_steps}
use Rattle.ta_program.proofs.Common.{Answer, Put, plain_tree, Asked, LegalFile, Runs, ask, ask_where, Command, NoCommand, BenchHolds, bench_meaning, bench_of}
use Rattle.ta_program.proofs.Common.{bench_status, bench_words, CheckHolds, check_meaning, IsFile, file_kind, EachPrintedUnsafe, EachToldSafe, AdmitAsked}
use Rattle.ta_program.proofs.Common.{AdmitHolds, admit_meaning, admit_of, admit_words, ExportHolds, export_meaning, export_of, export_words, Admitting, Benches}
use Rattle.ta_program.proofs.Common.{CertificateWritten, CheckProves, ExactlySo, Exports, KeepsFiles, PassesLegal, PrintedHolds, ReplayShows, RestProves}
use Rattle.ta_program.proofs.Common.{RestsReport, RunShortens, Searches, VerifyReports, put_by, CompressHolds, compress_meaning, compress_of, ReplayHolds}
use Rattle.ta_program.specs.Asked.{IsNoCommand}
use Rattle.ta_program.proofs.Common.{replay_meaning, request_of, ClaimHolds, LegalRest, RestCertificateStands, RestReportHolds, rest_meaning, RestCheckHolds}
use Rattle.ta_program.proofs.Common.{rest_check_meaning, rest_check_of, rest_of, rest_words, CertificateStands, ReportHolds, verify_meaning, VerdictHolds}
use Rattle.ta_program.proofs.Common.{VerdictsHold, is_unsafe, is_unknown, LegalTemplate, SearchHolds, end_number, leaves_unknown, search_meaning, SearchWords}
use Rattle.ta_program.proofs.Common.{search_of, search_words, TwoNames, two_names, VerifyWords, verify_of, verify_words, WordAsked, behind_name, map, pair_of}
use Rattle.ta_program.proofs.Common.{held_by, false_from_ne_true, PutCall, PutText, PutWhole, Acts, TellsFile, acts, grew_alone, may_put, put_text, tells_file}
use Rattle.ta_program.proofs.Common.{Spares, ◌⊎◌, AreOfStages, made_of_stages, Opens, AreStaging, ComparesFirst, Differ, Kind, SparesRead, at_ends}
use Rattle.ta_program.proofs.Common.{found_meaning, found_names, held_or_staged, rest_quietly, spared, template_kind, inr}
use Rattle.ta_program.proofs.Common.{CountHolds, IsCount, IsShown, ShowHolds, count_of, one_file_meaning, one_file_words, show_of, slice_get}
use Rattle.ta_program.specs.Program.{CountsFile, SafeAsShown, ShowsFile, Tellings, UsageExactly}
use Rattle.ta_program.specs.Show.{SafeAsPrinted}
use Rattle.ta_program.specs.Version.{VersionPrints, version_meaning, version_of, version_text, version_words}
use Rattle.ta_program.proofs.Common.{cases_order}
use Rattle.ta_report.proofs.FileTells.{file_same}
use Rattle.ta_automaton.specs.Runs as runs
use Rattle.std.specs.Prelude.{IsTrue}
use Rattle.ta_report.specs.Check.{is_proved}
use Rattle.ta_report.specs.CheckJson.{TellsProved}
use Rattle.ta_report.proofs.JsonLines.{proved_by_line, tells_by_line}
use Rattle.ta_program.proofs.ProofsSaid.{all_proved, every_one, starts, told_in}
use Rattle.ta_program.specs.CheckWords.{CheckWords, ReplayWords, check_of, check_words, replay_of, replay_words}
use Rattle.ta_program.specs.Printed.{EachToldProved}
use Rattle.ta_program.specs.Proofs.{TellsProofs, printed_sample, wants_sample}
use Rattle.ta_program.specs.Proofs.{EveryPattern}
use Rattle.ta_program.specs.Ended.{Did, Ended, Saw, World}
use Rattle.ta_program.specs.Headline.{EachPatternSafe, EachPrinted, HoldsFile, ShownOccurs, SomePatternOccurs, StatusTells}
use Rattle.ta_replay.proofs.Occurring.{shown_occurs}
use Rattle.ta_check.proofs.OwnPatterns.{all_own}
use Rattle.ta_rest.specs.declared.claim.Claim.TheVariants as claim
use Rattle.ta_program.proofs.AtRest.{rest_safe_at, rest_unsafe_printed}
use Rattle.ta_program.proofs.Common.{AreSilent, FairlySafeBut, LegalSilently, RestCheckWords, RestOccursBut, RestSafeBut, RestWords}
use Rattle.ta_program.proofs.Common.{rest_check_words, resting}
use Rattle.ta_program.proofs.FairAtRest.{fair_but}
use Rattle.ta_program.specs.Rest.{PutsRest}
use Rattle.ta_program.proofs.SilentPlaces.{none_silent, safe_but}
use Rattle.ta_verdict.specs.Rest.Said.{IsLoudByWords}
use Rattle.ta_program.proofs.Compressing.{answers_so, refused_so}
use Rattle.ta_program.proofs.FoundStands.{found_stands}
use Rattle.ta_program.proofs.WordsDiffer.{Apart, names_apart, rest_said}
use Rattle.ta_report.specs.Printed.{HasLine, told_of}
use Rattle.ta_report.specs.Telling.{TellsSafe}
use Rattle.ta_program.proofs.TriesPrinted.{tries_printed}
use Rattle.ta_program.specs.Bench.{FamilySafe}
use Rattle.ta_program.specs.Tries.{EachTried}
use Rattle.ta_program.proofs.UnsafePrinted.{run_within, unsafe_occurs, unsafe_printed, unsafe_there}
use Rattle.ta_program.proofs.WordMeanings.{admit_decides}
use Rattle.ta_base.proofs.Members.{listed}
use Rattle.ta_base.proofs.Booleans.{first_passed}
use Rattle.ta_program.proofs.Common.{EachPicked, LegalPicked, first_picked, held_entry, picked, picked_meaning, telling_of}
use Rattle.ta_program.proofs.Counting.{counts_within}
use Rattle.ta_program.proofs.OneFileOfAny.{one_legal_file}
use Rattle.ta_program.specs.OneFile.{OneFileWords}
use Rattle.ta_program.proofs.PatternPicks.{each_picked_of, picked_name}
use Rattle.ta_program.proofs.StrictNumbers.{number_other}
use Rattle.ta_program.specs.Certified.{PutsCertificate}
use Rattle.ta_program.specs.Statuses.{ZeroSays}

-- the number of a report is 1 only where something is unsafe, and 2 only where something is unknown; that it is 0 only where nothing is either
-- says the clause of `zero_says`, so that a number which says less is refused there
abbrev pub number_by : Bool → Bool → ℕ
number_by found unknown = if found then 1 else (if unknown then 2 else 0)

kind_of_one : (found unknown : Bool) → number_by found unknown ≡ 1 → found ≡ true
kind_of_one true unknown e = refl
kind_of_one false true e = absurd (omega (arith, e))
kind_of_one false false e = absurd (omega (arith, e))

pub kinds_of_two : (found unknown : Bool) → number_by found unknown ≡ 2 → unknown ≡ true
kinds_of_two true unknown e = absurd (omega (arith, e))
kinds_of_two false true e = refl
kinds_of_two false false e = absurd (omega (arith, e))

-- a verdict that holds and is neither unsafe nor unknown says safe
safe_of : (file : File) (budget : Budget) (number : ℕ) (p : Pattern) (v : Verdict) → is_unsafe v ≡ false → is_unknown v ≡ false
    → VerdictHolds file budget number p v → runs.Safe file.automaton p
safe_of file budget number p (Safe nodes leaves) f u h = verdict_safe file budget number p nodes leaves h
safe_of file budget number p (Unsafe nodes run) f u h = absurd (cc)
safe_of file budget number p (Spent nodes) f u h = absurd (cc)
safe_of file budget number p (Overflow node kind) f u h = absurd (cc)

pub each_safe : (file : File) (budget : Budget) (number : ℕ) (ps : List Pattern) (vs : List Verdict) → list_any is_unsafe vs ≡ false
    → list_any is_unknown vs ≡ false → VerdictsHold file budget number ps vs → AllByRecursion (runs.Safe file.automaton) ps
each_safe file budget number [] vs f u h = tt
each_safe file budget number (p ∷ ps) [] f u h = absurd h
each_safe file budget number (p ∷ ps) (v ∷ vs) f u h =
    let found = or_parts (is_unsafe v) (list_any is_unsafe vs) f in
    let unknown = or_parts (is_unknown v) (list_any is_unknown vs) u in
    (safe_of file budget number p v found.0 unknown.0 h.0, each_safe file budget (number + 1) ps vs found.1 unknown.1 h.1)

-- the command whose name the words begin with was done, if the table of commands has it under this name
by_name : {W : Type 0} (name : List ℕ) (read : List (List ℕ) → Option W) (legal : W → Told → Type 0) (says : W → Meaning) (number : ℕ) (before after : State)
    → ((rest : List (List ℕ)) → Runs (request_of (name ∷ rest)) number before after → Runs (ask_where legal says (read rest)) number before after)
    → (named : Bool) (word : List ℕ) (rest : List (List ℕ)) → (named ≡ true → word ≡ name) → (asked : W) → (if named then read rest else None) ≡ Some asked
    → Runs (request_of (word ∷ rest)) number before after → Performs (says asked) number before after
by_name name read legal says number before after row true word rest same asked is h =
    (subst (λ (o : Option _). Runs (ask_where legal says o) number before after) is
    (row rest (subst (λ (w : List ℕ). Runs (request_of (w ∷ rest)) number before after) (same refl) h))).performs
by_name name read legal says number before after row false word rest same asked is h = absurd (cc)

performed_where : {W : Type 0} (name : List ℕ) (read : List (List ℕ) → Option W) (legal : W → Told → Type 0) (says : W → Meaning) (number : ℕ)
    (before after : State) → ((rest : List (List ℕ)) → Runs (request_of (name ∷ rest)) number before after
    → Runs (ask_where legal says (read rest)) number before after) → (words : List (List ℕ)) (asked : W) → behind_name name read words ≡ Some asked
    → Runs (request_of words) number before after → Performs (says asked) number before after
performed_where name read legal says number before after row [] asked is h = absurd (cc)
performed_where name read legal says number before after row (word ∷ rest) asked is h = by_name name read legal says number before after row
    (bytes_eq word name) word rest (λ named. search rules) asked is h

performed : {W : Type 0} (name : List ℕ) (read : List (List ℕ) → Option W) (file : W → Option (List ℕ × Limits)) (says : W → Meaning) (number : ℕ)
    (before after : State)
    → ((rest : List (List ℕ)) → Runs (request_of (name ∷ rest)) number before after → Runs (ask file says (read rest)) number before after)
    → (words : List (List ℕ)) (asked : W) → behind_name name read words ≡ Some asked → Runs (request_of words) number before after
    → Performs (says asked) number before after
performed name read file says = performed_where name read (λ asked told. LegalFile told (file asked)) says

pub holds_file : {l : Limits} (view : View) (name : List ℕ) (file : File) → IsFile l view name file → HoldsFile view name file
holds_file view name file h =
    let tree = h.means.means.is_tree in
    record {
      bytes = h.bytes;
      held = h.had.seen;
      tree = plain_tree h.means.means.tree;
      text = record { tokens = tree.tokens; are = tree.are; spelled = tree.spelled; legal = tree.legal };
      means = h.means.means.means;
    }

-- a put file holds its text
holds_text : (put : Put) (out : List ℕ) → put.name ≡ out → (before after : Option Told) → WhereTold (HoldsPut put) before after
    → WhereTold (HoldsText out (put_bytes put)) before after
holds_text put out named None None h = tt
holds_text put out named None (Some a) h = absurd h
holds_text put out named (Some b) None h = absurd h
holds_text put out named (Some b) (Some a) h = record {
  held = subst (λ (n : List ℕ). a n ≡ Some (put_bytes put)) named h.held;
  others = subst (λ (n : List ℕ). OthersStay n b a) named h.others;
}

-- the calls that put it
tells_put : (put : Put) (out : List ℕ) → put.name ≡ out → (calls : List PutCall) → PutWhole (put_text put ∷ []) calls → TellsFile out (put_bytes put) calls
tells_put put out named calls whole = subst (λ (n : List ℕ). TellsFile n (put_bytes put) calls) named (tells_file (put_text put) calls whole)

-- a run with these words
abbrev pub world : State → World
world s = record { files = s.shelf.files; calls = s.shelf.calls; written = s.out.written }

abbrev pub run_of : List (List ℕ) → ℕ → State → State → Ended
run_of words number before after = record { status = number; words = words; before = world before; after = world after }

module _ (words : List (List ℕ)) (number : ℕ) (before after : State) (h : Runs (request_of words) number before after) where
  abbrev ended : Ended
  ended = run_of words number before after

  pub as_verify : (asked : VerifyWords) → verify_of words ≡ Some asked → Performs (verify_meaning asked) number before after
  as_verify asked is = performed_where (codes "verify") verify_words (λ a. LegalPicked (limits_of a.wide) a.file a.pattern) verify_meaning number before after
      (λ rest r. r) words
      asked is h

  pub as_check : (asked : CheckWords) → check_of words ≡ Some asked → Performs (check_meaning asked) number before after
  as_check asked is = performed (codes "check") check_words (λ a. Some (a.file, limits_of a.wide)) check_meaning number before after (λ rest r. r)
      words asked is h

  pub as_compress : (asked : TwoNames) → compress_of words ≡ Some asked → Performs (compress_meaning asked) number before after
  as_compress asked is = performed (codes "compress") two_names (λ a. Some (a.file, limits_of a.wide)) compress_meaning number before after (λ rest r. r)
      words asked is h

  pub as_replay : (asked : ReplayWords) → replay_of words ≡ Some asked → Performs (replay_meaning asked) number before after
  as_replay asked is = performed (codes "replay") replay_words (λ a. Some (a.file, limits_of a.wide)) replay_meaning number before after (λ rest r. r)
      words asked is h

  as_bench : (k : ℕ) → bench_of words ≡ Some k → Performs (bench_meaning k) number before after
  as_bench k is = performed (codes "bench") bench_words (λ k. None) bench_meaning number before after (λ rest r. r) words k is h

  -- what an answer of a command says, of what is seen in the calls of the run and in the files
  gives_all : (m : Meaning) → Performs m number before after → number ≤ 2 → (Of : View → List PutCall → Type 0)
      → ((view : View) (made : List PutCall) → IsAnswered m view number before after made → Of view made)
      → Acts m.puts (λ read made. Of (seen before.shelf.files read) made) before.shelf.calls after.shelf.calls
  gives_all m performs low Of from =
      let ends = performs.ends in
      acts m number before after ends (λ read made. Of (seen before.shelf.files read) made)
      (from (seen before.shelf.files ends.read) ends.made (answered m (seen before.shelf.files ends.read) number before after ends.made ends.end low))

  pub gives_some : (m : Meaning) → Performs m number before after → number ≤ 2 → (Of : View → Type 0)
      → ((view : View) (made : List PutCall) → IsAnswered m view number before after made → Of view)
      → Acts m.puts (λ read made. Of (seen before.shelf.files read)) before.shelf.calls after.shelf.calls
  gives_some m performs low Of from = gives_all m performs low (λ view made. Of view) from

  -- of a command without outputs
  gives : (m : Meaning) → m.puts ≡ [] → Performs m number before after → number ≤ 2 → (Of : View → Type 0)
      → ((view : View) (made : List PutCall) → IsAnswered m view number before after made → Of view)
      → Grew (λ read. Of (seen before.shelf.files read)) before.shelf.calls after.shelf.calls
  gives m none performs low Of from =
      let ends = performs.ends in
      grew_alone m number before after ends none low (λ read. Of (seen before.shelf.files read))
      (from (seen before.shelf.files ends.read) ends.made (answered m (seen before.shelf.files ends.read) number before after ends.made ends.end low))

  gives_verify : (asked : VerifyWords) → verify_of words ≡ Some asked → number ≤ 2 → (Of : View → Type 0)
      → ((view : View) (made : List PutCall) → IsAnswered (verify_meaning asked) view number before after made → Of view)
      → Acts (may_put asked.out) (λ read made. Of (seen before.shelf.files read)) before.shelf.calls after.shelf.calls
  gives_verify asked is low Of from = gives_some (verify_meaning asked) (as_verify asked is) low Of from

  pub reported : (asked : VerifyWords) (view : View) (made : List PutCall) → IsAnswered (verify_meaning asked) view number before after made
      → ReportHolds number view asked before.out.written after.out.written
  reported asked view made a =
      let found = a.holds.holds.2.1 in
      let reports = found.2 in
      record {
        file = a.holds.holds.0;
        is_file = a.holds.holds.1;
        pick = found.0;
        is_pick = found.1;
        sample = reports.sample;
        is_sample = reports.is_sample;
        verdicts = reports.verdicts;
        are = reports.are;
        numbered = sym reports.numbered ∙ sym a.numbered;
        wrote = a.written ∙ ap (with_text before.out.written) reports.written;
      }

  pub verify_reports : VerifyReports ended
  verify_reports asked is low = gives_verify asked is low (λ view. ReportHolds number view asked before.out.written after.out.written) (reported asked)

  certified : (asked : VerifyWords) (out : List ℕ) → asked.out ≡ Some out → (view : View) (made : List PutCall)
      → IsAnswered (verify_meaning asked) view number before after made
      → CertificateStands number view asked out before.shelf.files after.shelf.files before.out.written after.out.written made
  unfolding reported
  certified asked out given view made a =
      let report = reported asked view made a in
      let puts = subst (λ (o : Option (List ℕ)). PutsCertificate report.file report.pick asked.budget report.verdicts o a.answer.puts) given
      a.holds.holds.2.1.2.puts in
      let stand : Stand (puts.put ∷ []) before.shelf.files after.shelf.files = subst (λ (ps : List Put). Stand ps before.shelf.files after.shelf.files)
      puts.only a.stand in
      record {
        report = report;
        text = put_bytes puts.put;
        certificate = puts.certificate;
        within = puts.within;
        stands = holds_text puts.put out puts.named before.shelf.files after.shelf.files
            (subst (λ (o : Option Told). WhereTold (HoldsPut puts.put) o after.shelf.files) stand.1 stand.2);
        told = tells_put puts.put out puts.named made (subst (λ (ps : List Put). PutWhole (map put_text ps) made) puts.only a.whole);
        accepted = puts.accepted (limits_of asked.wide) (legal_within (limits_of asked.wide) report.is_file.bytes report.file report.is_file.means);
      }

  pub certificate_written : CertificateWritten ended
  certificate_written asked out is given low =
      gives_all (verify_meaning asked) (as_verify asked is) low
      (λ view made. CertificateStands number view asked out before.shelf.files after.shelf.files before.out.written after.out.written made)
      (λ view made a. certified asked out given view made a)

  pub proved : (asked : CheckWords) (view : View) (made : List PutCall)
      → IsAnswered (check_meaning asked) view number before after made
      → CheckHolds number view asked before.out.written after.out.written
  proved asked view made a =
      let file = a.holds.holds.0 in
      let rest = a.holds.holds.2 in
      record {
        file = file;
        is_file = a.holds.holds.1;
        numbers = rest.0;
        certificate = rest.1;
        text = a.answer.text;
        tells = subst (λ (n : ℕ). TellsProofs false file asked.options rest.0 n a.answer.text) (sym a.numbered) rest.2.tells;
        wrote = a.written;
      }

  pub shortened : (asked : TwoNames) (view : View) (made : List PutCall) → IsAnswered (compress_meaning asked) view number before after made
      → CompressHolds view asked before.out.written after.out.written
  shortened asked view made a =
      let rest = a.holds.holds.2 in
      record {
        file = a.holds.holds.0;
        is_file = a.holds.holds.1;
        run = rest.0;
        is_run = rest.1;
        short = rest.2.short;
        is_short = rest.2.is;
        wrote = a.written
            ∙ ap (with_text before.out.written) rest.2.writes.written;
      }

  pub run_shortens : RunShortens ended
  run_shortens = record {
    holds = λ asked is none. gives (compress_meaning asked) refl (as_compress asked is) (omega (arith, none))
        (λ view. CompressHolds view asked before.out.written after.out.written) (shortened asked);
    exact = λ asked told is files can. answers_so number before after asked (as_compress asked is) told files can;
    outside = λ asked told line is files leaves. refused_so number before after asked (as_compress asked is) told files line leaves;
  }

  pub shown : (asked : ReplayWords) (view : View) (made : List PutCall) → IsAnswered (replay_meaning asked) view number before after made
      → ReplayHolds view asked before.out.written after.out.written
  shown asked view made a =
      let rest = a.holds.holds.2 in
      record {
        file = a.holds.holds.0;
        is_file = a.holds.holds.1;
        run = rest.0;
        is_run = rest.1;
        pattern = rest.2.pattern;
        named = rest.2.named;
        wrote =
            a.written ∙ ap (with_text before.out.written) rest.2.writes.written;
      }

  pub replay_shows : ReplayShows ended
  replay_shows asked is none = gives (replay_meaning asked) refl (as_replay asked is) (omega (arith, none))
      (λ view. ReplayHolds view asked before.out.written after.out.written) (shown asked)

  benched : (k : ℕ) → Performs (bench_meaning k) number before after → number ≤ 2 → BenchHolds number k before.out.written after.out.written
  benched k performs low =
      let a = answered (bench_meaning k) (seen before.shelf.files performs.ends.read) number before after performs.ends.made performs.ends.end low in
      let says = a.holds.holds in
      record {
        pattern = says.pattern;
        verdict = says.verdict;
        is = says.is;
        numbered = sym says.writes.numbered ∙ sym a.numbered;
        wrote = a.written
            ∙ ap (with_text before.out.written) says.writes.written;
      }

  status_of : (v : Verdict) → bench_status v ≢ 1
  status_of v one = by_test (is_unknown v) one
    where
      by_test : (b : Bool) → ◌≡◌ {A = ℕ} (if b then 2 else 0) 1 → ⊥
      by_test true e = omega (arith, e)
      by_test false e = omega (arith, e)

  never : (k : ℕ) → Performs (bench_meaning k) number before after → 3 ≤ number → number ≤ 4 → ⊥
  never k performs three four = (hindered (bench_meaning k) number before after performs.ends three four).1

  pub benches : Benches ended
  benches = record {
    holds = λ k is low. benched k (as_bench k is) low;
    others = λ k is. (
      λ one. let b = benched k (as_bench k is) (omega (arith, one)) in status_of b.verdict (b.numbered ∙ one),
      λ three. never k (as_bench k is)
          (omega (arith, three)) (omega (arith, three)),
      λ four. never k (as_bench k is) (omega (arith, four)) (omega (arith, four)),
    );
  }

  as_version : (asked : Unit {0}) → version_of words ≡ Some asked → Performs version_meaning number before after
  as_version asked is = performed (codes "version") version_words (λ a. None) (λ a. version_meaning) number before after (λ rest r. r) words asked is h

  -- an answer of `version`; it is never hindered
  version_printed : Performs version_meaning number before after → number ≤ 2 → (number ≡ 0) × (after.out.written ≡ with_text before.out.written version_text)
  version_printed performs low =
      let a = answered version_meaning (seen before.shelf.files performs.ends.read) number before after performs.ends.made performs.ends.end low in
      (a.numbered ∙ a.holds.holds.numbered, a.written ∙ ap (with_text before.out.written) a.holds.holds.written)

  pub version_prints : VersionPrints ended
  version_prints asked is five =
      let performs = as_version asked is in
      elim (cases_order number 5) [
        | inl e ↦ absurd (never_five version_meaning number before after performs.ends e)
        | inr other ↦ elim other [
          | inl less ↦ elim (cases_order 2 number) [
            | inl e ↦ version_printed performs (omega (arith, e))
            | inr o ↦ elim o [
              | inl more ↦ absurd ((hindered version_meaning number before after performs.ends (omega (arith, more)) (omega (arith, less))).1)
              | inr low ↦ version_printed performs (omega (arith, low))
            ]
          ]
          | inr more ↦ absurd (omega (arith, more, five))
        ]
      ]

  as_export : (asked : WordAsked) → export_of words ≡ Some asked → Performs (export_meaning asked) number before after
  as_export asked is = performed (codes "export") export_words (λ a. Some (a.file, narrow)) export_meaning number before after (λ rest r. r) words asked is h

  as_admit : (all : AdmitAsked) → admit_of words ≡ Some all → Performs (admit_meaning all) number before after
  as_admit all is = performed (codes "admit") admit_words (λ a. Some (a.asked.file, narrow)) admit_meaning number before after (λ rest r. r) words all is h

  exported : (asked : WordAsked) (view : View) (made : List PutCall) → IsAnswered (export_meaning asked) view number before after made
      → ExportHolds view asked before.out.written after.out.written
  exported asked view made a =
      let found = a.holds.holds.2 in
      let says = found.2 in
      record {
        file = a.holds.holds.0;
        is_file = a.holds.holds.1;
        word = found.0;
        is_word = found.1;
        text = says.text;
        is_text = says.is;
        wrote = a.written
            ∙ ap (with_text before.out.written) says.writes.written;
        denotes = says.is.denotes;
      }

  pub exports : Exports ended
  exports asked is none = gives (export_meaning asked) refl (as_export asked is) (omega (arith, none))
      (λ view. ExportHolds view asked before.out.written after.out.written) (exported asked)

  abbrev pub show_meaning : OneFileWords → Meaning
  show_meaning = one_file_meaning (λ l. IsShown)

  pub as_show : (asked : OneFileWords) → show_of words ≡ Some asked → Performs (show_meaning asked) number before after
  as_show asked is = performed (codes "show") one_file_words (λ a. Some (a.file, limits_of a.wide)) show_meaning number before after (λ rest r. r) words asked
      is h

  pub shown_file : (asked : OneFileWords) (view : View) (made : List PutCall) → IsAnswered (show_meaning asked) view number before after made
      → ShowHolds view asked before.out.written after.out.written
  shown_file asked view made a =
      let is = a.holds.holds.1 in
      let says = a.holds.holds.2 in
      record {
        bytes = is.bytes;
        held = is.had.seen;
        text = says.is.text;
        printed = record { limits = (limits_of asked.wide); file = a.holds.holds.0; legal = is.means; is = says.is.is };
        within = refl;
        wrote
            = a.written ∙ ap (with_text before.out.written) (says.writes.written ∙ says.is.whole);
      }

  pub shows_file : ShowsFile ended
  shows_file asked is none = gives (show_meaning asked) refl (as_show asked is) (omega (arith, none))
      (λ view. ShowHolds view asked before.out.written after.out.written) (shown_file asked)

  as_count : (asked : OneFileWords) → count_of words ≡ Some asked → Performs (one_file_meaning IsCount asked) number before after
  as_count asked is = performed (codes "count") one_file_words (λ a. Some (a.file, limits_of a.wide)) (one_file_meaning IsCount) number before after
      (λ rest r. r) words
      asked is h

  counted : (asked : OneFileWords) (view : View) (made : List PutCall) → IsAnswered (one_file_meaning IsCount asked) view number before after made
      → CountHolds view asked before.out.written after.out.written
  counted asked view made a =
      let says = a.holds.holds.2 in
      record {
        file = a.holds.holds.0;
        is_file = a.holds.holds.1;
        wrote = a.written
            ∙ ap (with_text before.out.written) (says.writes.written ∙ says.is);
        within = let is = a.holds.holds.1 in counts_within (limits_of asked.wide) is.bytes a.holds.holds.0 is.means;
      }

  pub counts_file : CountsFile ended
  counts_file asked is none = gives (one_file_meaning IsCount asked) refl (as_count asked is) (omega (arith, none))
      (λ view. CountHolds view asked before.out.written after.out.written) (counted asked)

  pub admitted : (all : AdmitAsked) (view : View) (made : List PutCall) → IsAnswered (admit_meaning all) view number before after made
      → AdmitHolds view all before.out.written after.out.written
  admitted all view made a =
      let file = a.holds.holds.0 in
      let found = a.holds.holds.2 in
      let rest = found.2 in
      let run = rest.0 in
      let admits = rest.1.means in
      record {
        file = file;
        is_file = a.holds.holds.1;
        word = found.0;
        is_word = found.1;
        run = run;
        is_run = rest.1;
        shows = record { text = record { fits = admits.fits; text = refl }; shows = admits.shows; stays = admits.stays };
        within = run_within file run admits.fits admits.shows admits.short;
        wrote = a.written ∙ ap (with_text before.out.written) rest.2.written;
      }

  pub admitting : Admitting ended
  admitting = record {
    holds = λ all is none. gives (admit_meaning all) refl (as_admit all is) (omega (arith, none))
        (λ view. AdmitHolds view all before.out.written after.out.written) (admitted all);
    exact = λ all told is files had.
        let answer : Answer = record { number = 0; text = run_text had.file had.run; puts = [] } in
        (as_admit all is).exact (admit_decides all) told files 0
        (inl (
          answer,
          refl,
          (
            had.file,
            had.is_file,
            (had.word, had.is_word, (had.run, had.is_run, record { numbered = refl; written = refl; no_put = refl })),
          ),
        ));
  }

  pub as_rest : (asked : RestWords) → rest_of words ≡ Some asked → Performs (rest_meaning asked) number before after
  as_rest asked is = performed_where (codes "rest") rest_words LegalRest rest_meaning number before after (λ rest r. r) words asked is h

  pub as_rest_check : (asked : RestCheckWords) → rest_check_of words ≡ Some asked
      → Performs (rest_check_meaning asked) number before after
  as_rest_check asked is = performed_where (codes "rest-check") rest_check_words (λ a. LegalSilently (limits_of a.wide) a.file a.silent)
      rest_check_meaning number before after (λ rest r. r) words asked is h

  pub at_rest : (asked : RestWords) (view : View) (made : List PutCall) → IsAnswered (rest_meaning asked) view number before after made
      → RestReportHolds number view asked before.out.written after.out.written
  at_rest asked view made a =
      let found = a.holds.holds.2.1 in
      let quiet = found.2 in
      let one = quiet.2 in
      let reports = one.2 in
      record {
        file = a.holds.holds.0;
        is_file = a.holds.holds.1;
        ends = found.0;
        are_ends = found.1;
        silent = quiet.0;
        are_silent = quiet.1;
        pick = one.0;
        is_pick = one.1;
        sample = reports.sample;
        is_sample = reports.is_sample;
        verdicts = reports.verdicts;
        are = reports.are;
        numbered = sym
            reports.numbered ∙ sym a.numbered;
        wrote = a.written ∙ ap (with_text before.out.written) reports.written;
      }

  rest_certified : (asked : RestWords) (out : List ℕ) → asked.verify.out ≡ Some out → (view : View) (made : List PutCall)
      → IsAnswered (rest_meaning asked) view number before after made
      → RestCertificateStands number view asked out before.shelf.files after.shelf.files before.out.written after.out.written made
  unfolding at_rest
  rest_certified asked out given view made a =
      let found = a.holds.holds.2.1 in
      let quiet = found.2 in
      let one = quiet.2 in
      let reports = one.2 in
      let puts = subst (λ (o : Option (List ℕ)). PutsRest found.0.ending one.0 (resting asked.verify.budget quiet.0) reports.verdicts o a.answer.puts) given
      reports.puts in
      let stand : Stand (puts.put ∷ []) before.shelf.files after.shelf.files = subst (λ (ps : List Put). Stand ps before.shelf.files after.shelf.files)
      puts.only a.stand in
      record {
        report = at_rest asked view made a;
        text = put_bytes puts.put;
        certificate = puts.certificate;
        within = puts.within;
        stands = holds_text puts.put out puts.named before.shelf.files after.shelf.files
            (subst (λ (o : Option Told). WhereTold (HoldsPut puts.put) o after.shelf.files) stand.1 stand.2);
        told = tells_put puts.put out puts.named made (subst (λ (ps : List Put). PutWhole (map put_text ps) made) puts.only a.whole);
        accepted =
            let report = at_rest asked view made a in
            puts.accepted (limits_of asked.verify.wide)
            (subst (IsWithin (limits_of asked.verify.wide)) (sym report.are_ends.endings.automaton)
            (legal_within (limits_of asked.verify.wide) report.is_file.bytes report.file report.is_file.means));
      }

  -- what an answer of `rest` says
  pub gives_rest : (asked : RestWords) → rest_of words ≡ Some asked → number ≤ 2 → (Of : View → Type 0)
      → ((view : View) → RestReportHolds number view asked before.out.written after.out.written → Of view)
      → Acts (may_put asked.verify.out) (λ read made. Of (seen before.shelf.files read)) before.shelf.calls after.shelf.calls
  gives_rest asked is low Of from = gives_some (rest_meaning asked) (as_rest asked is) low Of (λ view made a. from view (at_rest asked view made a))

  pub rests_report : RestsReport ended
  rests_report = record {
    report = λ asked is low. gives_rest asked is low (λ view. RestReportHolds number view asked before.out.written after.out.written) (λ view r. r);
    certificate = λ asked out is given low.
        gives_all (rest_meaning asked) (as_rest asked is) low
        (λ view made. RestCertificateStands number view asked out before.shelf.files after.shelf.files before.out.written after.out.written made)
        (λ view made a. rest_certified asked out given view made a);
  }

  pub rest_checked : (asked : RestCheckWords) (view : View) (made : List PutCall)
      → IsAnswered (rest_check_meaning asked) view number before after made
      → RestCheckHolds number view asked before.out.written after.out.written
  rest_checked asked view made a =
      let found = a.holds.holds.2 in
      let silent = found.2 in
      let rest = silent.2 in
      let ends = found.1 in
      record {
        file = a.holds.holds.0;
        is_file = a.holds.holds.1;
        ends = found.0;
        are_ends = ends;
        silent = silent.0;
        are_silent = silent.1;
        numbers = rest.0;
        certificate = rest.1;
        safe = all_own silent.0 a.holds.holds.0 found.0.ending found.0.added rest.0 ends.endings rest.1.means.safe;
        text = a.answer.text;
        tells = subst (λ (n : ℕ). TellsProofs true a.holds.holds.0 asked.options rest.0 n a.answer.text) (sym a.numbered) rest.2.tells;
        wrote = a.written;
      }

  -- what an answer of `check`, and one of `rest-check`, says
  gives_check : (asked : CheckWords) → check_of words ≡ Some asked → number ≤ 2 → (Of : View → Type 0)
      → ((view : View) → CheckHolds number view asked before.out.written after.out.written → Of view)
      → Grew (λ read. Of (seen before.shelf.files read)) before.shelf.calls after.shelf.calls
  gives_check asked is low Of from = gives (check_meaning asked) refl (as_check asked is) low Of (λ view made a. from view (proved asked view made a))

  gives_rest_check : (asked : RestCheckWords) → rest_check_of words ≡ Some asked → number ≤ 2 → (Of : View → Type 0)
      → ((view : View) → RestCheckHolds number view asked before.out.written after.out.written → Of view)
      → Grew (λ read. Of (seen before.shelf.files read)) before.shelf.calls after.shelf.calls
  gives_rest_check asked is low Of from = gives (rest_check_meaning asked) refl (as_rest_check asked is) low Of
      (λ view made a. from view (rest_checked asked view made a))

  pub as_search : (asked : SearchWords) → search_of words ≡ Some asked → Performs (search_meaning asked) number before after
  as_search asked is = performed_where (codes "search") search_words LegalTemplate search_meaning number before after (λ rest r. r) words asked is h

  searched : (asked : SearchWords) → Apart asked.filled asked.out → (view : View) (made : List PutCall)
      → IsAnswered (search_meaning asked) view number before after made
      → SearchHolds number view asked before.shelf.files after.shelf.files before.out.written after.out.written made
  searched asked apart view made a =
      let t = a.holds.holds.0 in
      let finds = a.holds.holds.2.1 in
      let end = finds.end in
      let numbered : end_number end ≡ number = sym finds.numbered ∙ sym a.numbered in
      let unknown = list_any (λ x. leaves_unknown x.outcome) end.tried in
      record {
        template = t;
        is_template = a.holds.holds.1;
        end = end;
        is_end = finds.is_end;
        numbered = numbered;
        wrote = a.written ∙ ap (with_text before.out.written) finds.written;
        found = λ zero.
            let put = finds.found (first_passed end.found unknown 0 2 1 (numbered ∙ zero) (λ h. omega (arith, h)) (λ h. omega (arith, h))) in
            record {
              last = put.last;
              stands = found_stands (filled_text t put.last.last.values) put.last.certificate asked.filled asked.out apart a.answer.puts
                  put.are before.shelf.files after.shelf.files a.stand;
              told = subst (λ (fs : List PutText). PutWhole fs made) put.are a.whole;
              within =
                  put.within;
            };
        kept = λ other.
            let none = finds.nothing (false_from_ne_true end.found
            (λ found. other (sym numbered ∙ ap (λ (b : Bool). if b then 0 else (if unknown then 2 else 1)) found))) in (
              subst (λ (ps : List Put). Stand ps before.shelf.files after.shelf.files) none a.stand,
              subst (λ (ps : List Put). PutWhole (map put_text ps) made)
                  none a.whole,
            );
      }

  pub searches : Searches ended
  searches asked is low =
      gives_all (search_meaning asked) (as_search asked is) low
      (λ view made. SearchHolds number view asked before.shelf.files after.shelf.files before.out.written after.out.written made)
      (λ view made a. searched asked (names_apart words asked is).puts view made a)

  -- a pattern that a report tells is safe is so
  pub tells_safe : (asked : VerifyWords) (view : View) (r : ReportHolds number view asked before.out.written after.out.written) (k : ℕ) (p : Pattern)
      → slice_get r.file.patterns k ≡ Some p → TellsSafe false asked.json p.name (report_of false asked.json r.file r.pick r.sample r.verdicts)
      → runs.Safe r.file.automaton p
  tells_safe asked view r k p named line =
      let said = told_safe r.file r.pick r.sample r.verdicts k p named r.is_sample.fits r.are.fit false asked.json line in
      verdict_safe r.file asked.budget k p said.0 said.1
      (held_entry (VerdictHolds r.file asked.budget) r.pick r.file.patterns r.verdicts r.are.hold k p (Safe said.0 said.1) named said.2)

  printed_verify : (asked : VerifyWords) (view : View) → ReportHolds number view asked before.out.written after.out.written
      → EachToldSafe runs.Safe false asked.json view asked.file before.out.written after.out.written
  printed_verify asked view r = record {
    file = r.file;
    holds = holds_file view asked.file r.file r.is_file;
    text = report_of false asked.json r.file r.pick r.sample r.verdicts;
    gained = r.wrote;
    safe = tells_safe asked view r;
  }

  -- so is one of which the text of `check` tells that it is proved
  -- a pattern that `check` calls proved is safe
  proved_safe : (asked : CheckWords) (view : View)
      (r : CheckHolds number view asked before.out.written after.out.written) (k : ℕ) (p : Pattern) → slice_get r.file.patterns k ≡ Some p
      → IsTrue (is_proved r.numbers k) → runs.Safe r.file.automaton p
  proved_safe asked view r k p named is_there =
      let found : PatternSafe r.file k = listed (PatternSafe r.file) k r.numbers r.certificate.means.safe is_there in
      let same : Some found.pattern ≡ Some p = sym found.named ∙ named in
      let is : found.pattern ≡ p = cc in
      subst (runs.Safe r.file.automaton) is found.safe

  tells_proved : (asked : CheckWords) (view : View)
      (r : CheckHolds number view asked before.out.written after.out.written) (k : ℕ) (p : Pattern) → slice_get r.file.patterns k ≡ Some p
      → TellsProved asked.options.json false p.name r.text → runs.Safe r.file.automaton p
  tells_proved asked view r k p named told = proved_safe asked view r k p named
      (told_in false r.file asked.options r.numbers number r.text r.tells k p named told)

  pub line_proved : (asked : CheckWords) (view : View)
      (r : CheckHolds number view asked before.out.written after.out.written) (k : ℕ) (p : Pattern) → slice_get r.file.patterns k ≡ Some p
      → HasLine (told_of p.name (codes "proved")) r.text → runs.Safe r.file.automaton p
  line_proved asked view r k p named line =
      tells_proved asked view r k p named
      (proved_by_line asked.options.json false r.file (printed_sample asked.options.parameters r.tells.sample) r.numbers r.text p.name r.tells.told line)

  printed_check : (asked : CheckWords) (view : View)
      → CheckHolds number view asked before.out.written after.out.written
      → EachToldProved runs.Safe asked.options.json false view asked.file before.out.written after.out.written
  printed_check asked view r = record {
    file = r.file;
    holds = holds_file view asked.file r.file r.is_file;
    text = r.text;
    gained = r.wrote;
    holds_of = tells_proved asked view r;
  }

  lines_of_check : (asked : CheckWords) (view : View)
      → CheckHolds number view asked before.out.written after.out.written
      → EachPrinted runs.Safe (codes "proved") ended asked.file view
  lines_of_check asked view r = record {
    file = r.file;
    holds = holds_file view asked.file r.file r.is_file;
    text = r.text;
    gained = r.wrote;
    holds_of = line_proved asked view r;
  }

  -- with `--all` and status 0 every pattern is
  every_check : (asked : CheckWords) (view : View) → asked.options.all ≡ true → number ≡ 0
      → CheckHolds number view asked before.out.written after.out.written → EveryPattern runs.Safe view asked.file
  every_check asked view all none r =
      let both = all_proved false r.file asked.options r.numbers number r.text r.tells all none in
      let start = starts (wants_sample asked.options) r.file r.tells.sample r.tells.is_sample both.0 in
      let each = every_one (runs.Safe r.file.automaton) r.file r.numbers both.1 (proved_safe asked view r) in
      record {
        file = r.file;
        holds = holds_file view asked.file r.file r.is_file;
        first = each.first;
        is_first = each.is_first;
        each = each.each;
        start = start.0;
        initial = start.1;
      }

  printed_unsafes : (asked : VerifyWords) (view : View) → ReportHolds number view asked before.out.written after.out.written
      → EachPrintedUnsafe runs.Occurs (telling_of false asked.json) view asked.file before.out.written after.out.written
  printed_unsafes asked view r = record {
    file = r.file;
    holds = holds_file view asked.file r.file r.is_file;
    text = report_of false asked.json r.file r.pick r.sample r.verdicts;
    gained = r.wrote;
    unsafe_ = unsafe_printed asked.json r.file r.pick asked.budget r.sample r.is_sample r.verdicts r.are;
  }

  -- by words no places are silent
  pub loud_by_words : (asked : RestWords) → rest_of words ≡ Some asked → (file : File) (places : List ℕ) → AreSilent file.automaton asked.silent places
      → IsLoudByWords (resting asked.verify.budget places)
  loud_by_words asked is file places silent = λ by_words. none_silent file.automaton asked.silent places ((rest_said words asked is).quiet by_words) silent

  -- the same of `rest`
  pub tells_rest_safe : (asked : RestWords) → rest_of words ≡ Some asked
      → (view : View) (r : RestReportHolds number view asked before.out.written after.out.written) (k : ℕ) (p : Pattern) → slice_get r.file.patterns k ≡ Some p
      → TellsSafe true asked.verify.json p.name (report_of true asked.verify.json r.file r.pick r.sample r.verdicts)
      → RestSafeBut asked.silent r.file.automaton p
  tells_rest_safe asked is view r k p named line =
      let said = told_safe r.file r.pick r.sample r.verdicts k p named r.is_sample.fits r.are.fit true asked.verify.json line in
      let loud = loud_by_words asked is r.file r.silent r.are_silent in
      safe_but asked.silent r.file.automaton p r.silent r.are_silent
      (rest_safe_at r.file r.ends.ending r.ends.added r.pick (resting asked.verify.budget r.silent) loud r.verdicts r.are k p said.0 said.1 named said.2)

  printed_rest : (asked : RestWords) → rest_of words ≡ Some asked → (view : View) → RestReportHolds number view asked before.out.written after.out.written
      → EachToldSafe (RestSafeBut asked.silent) true asked.verify.json view asked.verify.file before.out.written after.out.written
  printed_rest asked is view r = record {
    file = r.file;
    holds = holds_file view asked.verify.file r.file r.is_file;
    text = report_of true asked.verify.json r.file r.pick r.sample r.verdicts;
    gained = r.wrote;
    safe = tells_rest_safe asked is view r;
  }

  lines_of_rest : (asked : RestWords) → rest_of words ≡ Some asked → (view : View) → RestReportHolds number view asked before.out.written after.out.written
      → EachPrinted (RestSafeBut asked.silent) (codes "rest safe, ") ended asked.verify.file view
  lines_of_rest asked is view r = record {
    file = r.file;
    holds = holds_file view asked.verify.file r.file r.is_file;
    text = report_of true asked.verify.json r.file r.pick r.sample r.verdicts;
    gained = r.wrote;
    holds_of = λ k p named line. tells_rest_safe asked is view r k p named (tells_by_line true asked.verify.json r.file r.pick r.sample r.verdicts p.name line);
  }

  -- and of `rest-check`
  -- a pattern that `rest-check` calls proved is safe at quiet rest
  rest_proved_safe : (asked : RestCheckWords) (view : View)
      (r : RestCheckHolds number view asked before.out.written after.out.written) (k : ℕ) (p : Pattern)
      → slice_get r.file.patterns k ≡ Some p → IsTrue (is_proved r.numbers k) → RestSafeBut asked.silent r.file.automaton p
  rest_proved_safe asked view r k p named is_there =
      let found : ClaimHolds claim.RestSafe r.file r.silent k = listed (ClaimHolds claim.RestSafe r.file r.silent) k r.numbers
      r.safe is_there in
      let same : Some found.pattern ≡ Some p = sym found.named ∙ named in
      let is : found.pattern ≡ p = cc in
      subst (RestSafeBut asked.silent r.file.automaton) is (safe_but asked.silent r.file.automaton found.pattern r.silent r.are_silent found.safe)

  tells_rest_proved : (asked : RestCheckWords) (view : View)
      (r : RestCheckHolds number view asked before.out.written after.out.written) (k : ℕ) (p : Pattern)
      → slice_get r.file.patterns k ≡ Some p → TellsProved asked.options.json true p.name r.text → RestSafeBut asked.silent r.file.automaton p
  tells_rest_proved asked view r k p named told = rest_proved_safe asked view r k p named
      (told_in true r.file asked.options r.numbers number r.text r.tells k p named told)

  pub line_rest_proved : (asked : RestCheckWords) (view : View)
      (r : RestCheckHolds number view asked before.out.written after.out.written) (k : ℕ) (p : Pattern)
      → slice_get r.file.patterns k ≡ Some p → HasLine (told_of p.name (codes "rest proved")) r.text → RestSafeBut asked.silent r.file.automaton p
  line_rest_proved asked view r k p named line =
      tells_rest_proved asked view r k p named
      (proved_by_line asked.options.json true r.file (printed_sample asked.options.parameters r.tells.sample) r.numbers r.text p.name r.tells.told line)

  printed_rest_check : (asked : RestCheckWords) (view : View)
      → RestCheckHolds number view asked before.out.written after.out.written
      → EachToldProved (RestSafeBut asked.silent) asked.options.json true view asked.file before.out.written after.out.written
  printed_rest_check asked view r = record {
    file = r.file;
    holds = holds_file view asked.file r.file r.is_file;
    text = r.text;
    gained = r.wrote;
    holds_of = tells_rest_proved asked view r;
  }

  lines_of_rest_check : (asked : RestCheckWords) (view : View)
      → RestCheckHolds number view asked before.out.written after.out.written
      → EachPrinted (RestSafeBut asked.silent) (codes "rest proved") ended asked.file view
  lines_of_rest_check asked view r = record {
    file = r.file;
    holds = holds_file view asked.file r.file r.is_file;
    text = r.text;
    gained = r.wrote;
    holds_of = line_rest_proved asked view r;
  }

  every_rest_check : (asked : RestCheckWords) (view : View) → asked.options.all ≡ true → number ≡ 0
      → RestCheckHolds number view asked before.out.written after.out.written → EveryPattern (RestSafeBut asked.silent) view asked.file
  every_rest_check asked view all none r =
      let both = all_proved true r.file asked.options r.numbers number r.text r.tells all none in
      let start = starts (wants_sample asked.options) r.file r.tells.sample r.tells.is_sample both.0 in
      let each = every_one (RestSafeBut asked.silent r.file.automaton) r.file r.numbers both.1 (rest_proved_safe asked view r) in
      record {
        file = r.file;
        holds = holds_file view asked.file r.file r.is_file;
        first = each.first;
        is_first = each.is_first;
        each = each.each;
        start = start.0;
        initial = start.1;
      }

  pub check_proves : CheckProves ended
  check_proves = record {
    holds = λ asked is low. gives_check asked is low (λ view. CheckHolds number view asked before.out.written after.out.written)
        (λ view r. r);
    every = λ asked is all none. gives_check asked is (omega (arith, none)) (λ view. EveryPattern runs.Safe view asked.file)
        (λ view r. every_check asked view all none r);
  }

  pub rest_proves : RestProves ended
  rest_proves = record {
    holds = λ asked is low. gives_rest_check asked is low
        (λ view. RestCheckHolds number view asked before.out.written after.out.written) (λ view r. r);
    every = λ asked is all none. gives_rest_check asked is (omega (arith, none)) (λ view. EveryPattern (RestSafeBut asked.silent) view asked.file)
        (λ view r. every_rest_check asked view all none r);
  }

  printed_rest_fair : (asked : RestWords) → rest_of words ≡ Some asked → (view : View) → RestReportHolds number view asked before.out.written after.out.written
      → EachToldSafe (FairlySafeBut asked.silent) true asked.verify.json view asked.verify.file before.out.written after.out.written
  printed_rest_fair asked is view r =
      record {
        file = r.file;
        holds = holds_file view asked.verify.file r.file r.is_file;
        text = report_of true asked.verify.json r.file r.pick r.sample r.verdicts;
        gained = r.wrote;
        safe = λ k p named line. fair_but (limits_of asked.verify.wide) r.is_file.bytes r.file r.is_file.means r.are_ends.loops k p named asked.silent
            (tells_rest_safe asked is view r k p named line);
      }

  printed_rest_check_fair : (asked : RestCheckWords) (view : View)
      → RestCheckHolds number view asked before.out.written after.out.written
      → EachToldProved (FairlySafeBut asked.silent) asked.options.json true view asked.file before.out.written after.out.written
  printed_rest_check_fair asked view r =
      record {
        file = r.file;
        holds = holds_file view asked.file r.file r.is_file;
        text = r.text;
        gained = r.wrote;
        holds_of = λ k p named told. fair_but (limits_of asked.wide) r.is_file.bytes r.file r.is_file.means r.are_ends.loops k p named asked.silent
            (tells_rest_proved asked view r k p named told);
      }

  printed_rest_unsafes : (asked : RestWords) → rest_of words ≡ Some asked → (view : View)
      → RestReportHolds number view asked before.out.written after.out.written
      → EachPrintedUnsafe (RestOccursBut asked.silent) (telling_of true asked.verify.json) view asked.verify.file before.out.written after.out.written
  printed_rest_unsafes asked is view r = record {
    file = r.file;
    holds = holds_file view asked.verify.file r.file r.is_file;
    text = report_of true asked.verify.json r.file r.pick r.sample r.verdicts;
    gained = r.wrote;
    unsafe_ = rest_unsafe_printed asked.silent asked.verify.json r.file r.ends.ending r.ends.added r.pick (resting asked.verify.budget r.silent) r.are_silent
        (loud_by_words asked is r.file r.silent r.are_silent) r.sample r.is_sample r.verdicts r.are;
  }

  bench_safe : (k : ℕ) → BenchHolds number k before.out.written after.out.written → FamilySafe k
  bench_safe k b = record { file = b.is.file; legal = b.is.legal; safe = b.is.safe }

  tried : (asked : SearchWords) → search_of words ≡ Some asked → number ≤ 2
      → Acts (found_names asked) (λ read made. EachTried number (seen before.shelf.files read) asked before.out.written after.out.written)
      before.shelf.calls after.shelf.calls
  tried asked is low =
      gives_some (search_meaning asked) (as_search asked is) low (λ view. EachTried number view asked before.out.written after.out.written)
      (λ view made a. tries_printed number view asked before.shelf.files after.shelf.files before.out.written after.out.written made
      (searched asked (names_apart words asked is).puts view made a))

  pub printed_holds : PrintedHolds ended
  printed_holds = record {
    tried = tried;
    benched = λ k is low. bench_safe k (benches.holds k is low);
    safe = λ asked is low. gives_verify asked is low (λ view. EachToldSafe runs.Safe false asked.json view asked.file before.out.written after.out.written)
        (λ view made a. printed_verify asked view (reported asked view made a));
    unsafe_ = λ asked is low. gives_verify asked is low
        (λ view. EachPrintedUnsafe runs.Occurs (telling_of false asked.json) view asked.file before.out.written after.out.written)
        (λ view made a. printed_unsafes asked view (reported asked view made a));
    rest_safe = λ asked is low. gives_rest asked is low
        (λ view. EachToldSafe (RestSafeBut asked.silent) true asked.verify.json view asked.verify.file before.out.written after.out.written)
        (printed_rest asked is);
    rest_unsafe = λ asked is low. gives_rest asked is low
        (λ view. EachPrintedUnsafe (RestOccursBut asked.silent) (telling_of true asked.verify.json) view asked.verify.file before.out.written after.out.written)
        (printed_rest_unsafes asked is);
    rest_proved = λ asked is low. gives_rest_check asked is low
        (λ view. EachToldProved (RestSafeBut asked.silent) asked.options.json true view asked.file before.out.written after.out.written)
        (printed_rest_check asked);
    rest_fair = λ asked is low. gives_rest asked is low
        (λ view. EachToldSafe (FairlySafeBut asked.silent) true asked.verify.json view asked.verify.file before.out.written after.out.written)
        (printed_rest_fair asked is);
    rest_proved_fair = λ asked is low. gives_rest_check asked is low
        (λ view. EachToldProved (FairlySafeBut asked.silent) asked.options.json true view asked.file before.out.written after.out.written)
        (printed_rest_check_fair asked);
    proved = λ asked is low. gives_check asked is low
        (λ view. EachToldProved runs.Safe asked.options.json false view asked.file before.out.written after.out.written)
        (printed_check asked);
  }

  -- some picked pattern of a file whose report has the number 1 occurs in a run
  some_occurring : (asked : VerifyWords) (view : View) → number ≡ 1 → ReportHolds number view asked before.out.written after.out.written
      → SomePatternOccurs asked.file asked.pattern view
  some_occurring asked view one r =
      let own = number_other asked.all r.sample r.verdicts 1 (λ e. omega (arith, e)) (r.numbered ∙ one) in
      let some = unsafe_there r.verdicts (kind_of_one (list_any is_unsafe r.verdicts) (list_any is_unknown r.verdicts) own) in
      let by = held_by (VerdictHolds r.file asked.budget) r.pick r.file.patterns r.verdicts r.are.hold some.0 (Unsafe some.1 some.2) some.3 in
      let occurrence = unsafe_occurs r.file asked.budget (first_picked r.pick + some.0) by.0 some.1 some.2 by.2 by.3 in
      record {
        file = r.file;
        holds = holds_file view asked.file r.file r.is_file;
        number = first_picked r.pick + some.0;
        pattern = by.0;
        among = by.2;
        named = picked_name r.file asked.pattern r.pick r.is_pick some.0 by.0 by.1;
        first = occurrence.first;
        rules = unit_steps some.2.lines;
        occurs = occurrence.occurs;
      }

  occurs_shown : (asked : ReplayWords) (view : View) → ReplayHolds view asked before.out.written after.out.written → ShownOccurs asked.file asked.other view
  occurs_shown asked view r =
      let s = r.is_run.means in
      record {
        file = r.file;
        holds = holds_file view asked.file r.file r.is_file;
        run = r.run;
        bytes = r.is_run.bytes;
        held = r.is_run.had.seen;
        text = s.text;
        pattern = s.shows.pattern;
        named = s.shows.named;
        first = s.shows.shows.first;
        begins = s.shows.shows.begins;
        occurs = shown_occurs r.file r.run s.shows;
      }

  -- with status 0 each picked pattern is safe
  pub picked_safe : ZeroSays → (asked : VerifyWords) (view : View) (r : ReportHolds number view asked before.out.written after.out.written) → number ≡ 0
      → EachPicked runs.Safe asked.pattern r.file
  picked_safe zero_says asked view r none =
      let own = number_other asked.all r.sample r.verdicts 0 (λ e. omega (arith, e)) (r.numbered ∙ none) in
      let kinds = zero_says r.verdicts own in
      each_picked_of runs.Safe r.file asked.pattern r.pick r.is_pick
      (each_safe r.file asked.budget (first_picked r.pick) (picked r.pick r.file.patterns) r.verdicts kinds.0 kinds.1 r.are.hold)

  pub safe_as_shown : ZeroSays → SafeAsShown ended
  safe_as_shown zero_says = λ asked is none. gives_verify asked is (omega (arith, none)) (λ view. SafeAsPrinted view asked.file asked.pattern) (λ view made a.
      let r = reported asked view made a in
      let safe = picked_safe zero_says asked view r none in
      record {
        bytes = r.is_file.bytes;
        held = r.is_file.had.seen;
        safe = λ text printed file orders e.
            let same : r.file ≡ file = one_legal_file (limits_of asked.wide) printed.limits r.is_file.bytes r.file printed.file r.is_file.means printed.legal
            ∙ file_same printed.file file (map pair_of printed.is.orders) orders (sym printed.is.shown ∙ sym e) in
            subst (EachPicked runs.Safe asked.pattern) same safe;
      })

  pub status_tells : ZeroSays → StatusTells ended
  status_tells zero_says = record {
    safe = λ asked is none. gives_verify asked is (omega (arith, none)) (EachPatternSafe asked.file asked.pattern) (λ view made a.
        let r = reported asked view made a in
        record { file = r.file; holds = holds_file view asked.file r.file r.is_file; safe = picked_safe zero_says asked view r none });
    occurs = λ asked is one. gives_verify asked is (omega (arith, one)) (SomePatternOccurs asked.file asked.pattern)
        (λ view made a. some_occurring asked view one (reported asked view made a));
    safe_lines = λ asked is plain low. gives_verify asked is low (EachPrinted runs.Safe (codes "safe, ") ended asked.file) (λ view made a.
        let e = printed_verify asked view (reported asked view made a) in
        record {
          file = e.file;
          holds = e.holds;
          text = e.text;
          gained = e.gained;
          holds_of = λ k p named line. e.safe k p named
              (subst (λ (json : Bool). TellsSafe false json p.name e.text) (sym plain) line);
        });
    proved = λ asked is low. gives_check asked is low (EachPrinted runs.Safe (codes "proved") ended asked.file)
        (lines_of_check asked);
    shown = λ asked is none. gives (replay_meaning asked) refl (as_replay asked is) (omega (arith, none))
        (ShownOccurs asked.file asked.other)
        (λ view made a. occurs_shown asked view (shown asked view made a));
    rest_safe = λ asked is alone low. subst
        (λ (names : Option (List ℕ)). Did ended (may_put asked.verify.out) (EachPrinted (RestSafeBut names) (codes "rest safe, ") ended asked.verify.file))
        alone (gives_rest asked is low (EachPrinted (RestSafeBut asked.silent) (codes "rest safe, ") ended asked.verify.file) (lines_of_rest asked is));
    rest_proved = λ asked is alone low. subst
        (λ (names : Option (List ℕ)). Saw ended (EachPrinted (RestSafeBut names) (codes "rest proved") ended asked.file)) alone
        (gives_rest_check asked is low (EachPrinted (RestSafeBut asked.silent) (codes "rest proved") ended asked.file)
        (lines_of_rest_check asked));
  }

pub quiet : (asked : Asked) (number : ℕ) (before after : State) → Runs asked number before after → Quiet number before after
quiet NoCommand number before after h =
    let five = h.five in
    record {
      nothing_written = λ above below. ap (λ (s : SinkState). s.written) h.out;
      memory = λ seven. inl (ap (λ (s : SinkState). s.written) h.out);
      shelf_kept = λ other. ap (λ (s : ShelfState). s.faults) h.shelf;
      out_calm = λ other. (ap (λ (s : SinkState). s.faults) h.out, ap (λ (s : SinkState). s.stalls) h.out);
      failed = λ six. absurd (omega arith);
    }
quiet (Command legal m) number before after h = h.performs.quiet

pub exactly_so : (asked : Asked) (number : ℕ) (before after : State) → Runs asked number before after → ExactlySo number asked before.shelf.files
exactly_so NoCommand number before after h = tt
exactly_so (Command legal m) number before after h = h.performs.exact h.decides

kept_others : (asked : Asked) (number : ℕ) (before after : State) → Runs asked number before after → KeptBut (put_by asked) before.shelf.files after.shelf.files
kept_others NoCommand number before after h = ap (λ (s : ShelfState). s.files) h.shelf
kept_others (Command legal m) number before after h = h.performs.kept

kept_by_refusal : (asked : Asked) (number : ℕ) (before after : State) → Runs asked number before after → 3 ≤ number → number ≤ 5
    → after.shelf.files ≡ before.shelf.files
kept_by_refusal NoCommand number before after h three five = ap (λ (s : ShelfState). s.files) h.shelf
kept_by_refusal (Command legal m) number before after h three five = kept_refused m number before after h.performs.ends three five

-- before a call changes a file outputs were compared with what was read
differs : {A F : Type 0} (kind : Kind A F) (name : List ℕ) (outs : List (List ℕ)) (rest : A → Meaning) (number : ℕ) (before after : State)
    → Performs (spared kind name outs rest) number before after → (words : List (List ℕ)) → ComparesFirst (run_of words number before after) name outs
differs kind name outs rest number before after performs words =
    let m = spared kind name outs rest in
    let ends = performs.ends in
    acts m number before after ends (λ read made. Differ (seen before.shelf.files read) name outs ⊎ AreStaging outs made)
    (elim (held_or_staged m (seen before.shelf.files ends.read) number before after ends.made ends.end)
    [ inl answer ↦ inl answer.1.2.0 | inr staged ↦ inr staged ])

pub spares_read : (words : List (List ℕ)) (number : ℕ) (before after : State) → Runs (request_of words) number before after
    → SparesRead (run_of words number before after)
spares_read words number before after h = record {
  verify = λ asked is. differs (file_kind (limits_of asked.wide)) asked.file (may_put asked.out) (picked_meaning asked) number before after
      (as_verify words number before after h asked is) words;
  rest = λ asked is. differs (file_kind (limits_of asked.verify.wide)) asked.verify.file (may_put asked.verify.out)
      (at_ends asked.verify.file (may_put asked.verify.out) (rest_quietly asked)) number before after (as_rest words number before after h asked is) words;
  search = λ asked is. differs (template_kind (limits_of asked.wide)) asked.file (found_names asked) (found_meaning asked) number before after
      (as_search words number before after h asked is) words;
}

-- the calls are those of the command
-- 5 is the status of words that are no command's alone
usage_by : (asked : Asked) (number : ℕ) (before after : State) → Runs asked number before after
    → (number ≡ 5 → IsNoCommand asked) × (number ≢ 5 → ¬ IsNoCommand asked)
usage_by NoCommand number before after h = (λ five. tt, λ other none. absurd (other h.five))
usage_by (Command legal m) number before after h = (λ five. absurd (never_five m number before after h.performs.ends five), λ other none. none)

pub usage_exactly : (words : List (List ℕ)) (number : ℕ) (before after : State) → Runs (request_of words) number before after
    → UsageExactly (run_of words number before after)
usage_exactly words number before after h =
    let both = usage_by (request_of words) number before after h in
    record { no_command = both.0; command = both.1 }

-- what is printed on standard error is what the command's end says
pub tellings : (asked : Asked) (number : ℕ) (before after : State) → Runs asked number before after → Tellings asked number before after
tellings NoCommand number before after h = (h.five, h.told)
tellings (Command legal m) number before after h = h.performs.telling

pub opens : (asked : Asked) (number : ℕ) (before after : State) → Runs asked number before after → Opens asked before.shelf.calls after.shelf.calls
opens NoCommand number before after h = ap (λ (s : ShelfState). s.calls) h.shelf
opens (Command legal m) number before after h =
    let ends = h.performs.ends in
    acts m number before after ends (λ read made. (m.opens read ⊎ (read ≡ [])) × AreOfStages m.puts made)
    (ends.opened, made_of_stages m (seen before.shelf.files ends.read) number before after ends.made ends.end)

spared_by : (asked : Asked) (number : ℕ) (before after : State) → Runs asked number before after → Spares (put_by asked) number before.shelf after.shelf
spared_by NoCommand number before after h three = inl (ap (λ (s : ShelfState). s.files) h.shelf)
spared_by (Command legal m) number before after h three = h.performs.spared three

pub keeps_files : (words : List (List ℕ)) (number : ℕ) (before after : State) → Runs (request_of words) number before after
    → KeepsFiles number words before.shelf after.shelf
keeps_files words number before after h =
    record {
      others = kept_others (request_of words) number before after h;
      refused = kept_by_refusal (request_of words) number before after h;
      spared =
          spared_by (request_of words) number before after h;
    }

-- what hinders in told files, by what is seen in them and in the calls
pub hinders_told : (m : Meaning) (told : Told) (number : ℕ) (before after : State) → before.shelf.files ≡ Some told → Performs m number before after → Decides m
    → 3 ≤ number → number ≤ 4 → (line : List ℕ) × m.refuses (in_files told) number line
hinders_told m told number before after is h decides three four =
    let hinders = hindered m number before after h.ends three four in
    (hinders.0, decides.refuses told h.ends.read number hinders.0 (subst (λ (o : Option Told). m.refuses (seen o h.ends.read) number hinders.0) is hinders.1))

pub passes_legal : (asked : Asked) (number : ℕ) (before after : State) → Runs asked number before after → PassesLegal asked number before.shelf.files
passes_legal NoCommand number before after h = tt
passes_legal (Command legal m) number before after h = λ told is legal. (
  λ three.
      let hinders = hinders_told m told number before after is h.performs h.decides (omega (arith, three)) (omega (arith, three)) in
      h.passes told hinders.0 legal (subst (λ (n : ℕ). m.refuses (in_files told) n hinders.0) three hinders.1),
  never_five m number before after h.performs.ends,
)

-- told files hold one file
pub same_file : (l : Limits) (told : Told) (name : List ℕ) (file other : File) → IsFile l (in_files told) name other → IsFile l (in_files told) name file
    → other ≡ file
same_file l told name file other h is = one_legal l is.bytes other file
    (subst (λ (bytes : List ℕ). (file_kind l).means bytes other) (whole_one told name l.bytes h.bytes is.bytes h.had is.had) h.means) is.means
