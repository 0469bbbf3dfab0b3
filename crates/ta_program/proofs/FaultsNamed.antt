-- What is printed names the error.
use Rattle.ta_base.specs.declared.limits.Limits.{Limits}
use Rattle.ta_program.specs.SearchWords.{terms_of}
use Rattle.ta_program.specs.Values.{limits_of}
use Rattle.ta_program.proofs.Common.{Budget, ◌≡◌, ◌∙◌, ◌≤◌, ℕ, Bool, true, false, List, [], ◌∷◌, Option, None, Some, refl, sym, ap, subst, inl, inr, arith}
use Rattle.ta_program.proofs.Common.{codes, bytes_eq, File, one_legal, run_text, Template, one_fault, Told, replies_monotone, Monotone, Decides, Meaning}
use Rattle.ta_program.proofs.Common.{Performs, State, Tells, file_line, in_files, seen, Writes, after, finds, replies, whole_faults_once, word_faults_once}
use Rattle.ta_program.proofs.Common.{whole_exact, words_exact, IsWholeWordOf, IsWordOf, Spelling, WholeFaultOf, WordFaultOf, WordFault, claiming, AdmitAsked}
use Rattle.ta_program.proofs.Common.{admit_meaning, admit_words, run_meaning, values_kind, values_meaning, Asked, LegalFile, Runs, ask, ask_where, choose}
use Rattle.ta_program.proofs.Common.{Command, NoCommand, SaysBench, bench_meaning, bench_words, HindersCertificate, may_put, check_meaning, proved_meaning}
use Rattle.ta_program.proofs.Common.{SaysShort, compress_meaning, long_kind, short_meaning, SaysSystem, WordHinders, export_meaning, export_words}
use Rattle.ta_program.proofs.Common.{system_meaning, word_fault_text, FaultsAreNamed, HinderOnce, NamesFault, OfCommand, certificate_kind, file_kind, run_kind}
use Rattle.ta_program.proofs.Common.{SaysShown, replay_meaning, shown_meaning, Reports, report_meaning, verify_meaning, request_of, HindersRest, RestReports}
use Rattle.ta_program.proofs.Common.{rest_meaning, rest_report_meaning, rest_check_meaning, rest_proved_meaning, CycleHinders, FileEndings, IsEnds, cycle_text}
use Rattle.ta_program.proofs.Common.{with_ends, rest_words, Finds, HindersFound, LegalTemplate, found_meaning, found_names, search_meaning, template_kind}
use Rattle.ta_program.proofs.Common.{SearchWords, search_words, two_names, verify_words, WordAsked, ◌⊎◌, AskedWord as Word, RestBudget, resting, rest_quietly}
use Rattle.ta_program.proofs.Common.{with_silent, at_ends}
use Rattle.ta_program.proofs.Common.{IsCount, IsShown, SaysText, one_file_asked, one_file_meaning, one_file_words, printing}
use Rattle.ta_base.specs.LimitRows.{narrow}
use Rattle.ta_search.specs.declared.terms.Terms.{Terms}
use Rattle.ta_meaning.specs.Laws.{FirstFaultsAreUnique}
use Rattle.ta_rest.specs.declared.claim.Claim.TheVariants as claim
use Rattle.ta_program.proofs.EndsOnce.{ends_once}
use Rattle.ta_program.proofs.Common.{LegalRest, RestWords, rest_picked}
use Rattle.ta_program.proofs.RestMeanings.{cycle_rule, ends_monotone, hinders_rest, no_cycle, quietly_monotone, rest_quietly_monotone}
use Rattle.ta_program.proofs.SilentPlaces.{silent_fits, silent_line, silent_number, silent_once}
use Rattle.ta_program.proofs.Common.{AreSilent, LegalSilently, NamesHinder, claiming_with, quietly_meaning, rest_check_words}
use Rattle.ta_program.specs.CheckWords.{CheckWords, ReplayWords, check_words, replay_words}
use Rattle.ta_program.specs.Proofs.{SaysProofs}
use Rattle.ta_program.specs.OneFile.{OneFileWords}
use Rattle.ta_program.specs.RestWords.{RestCheckWords}
use Rattle.ta_program.specs.Values.{TwoNames}
use Rattle.ta_program.specs.Version.{version_meaning, version_text, version_words}
use Rattle.ta_program.proofs.FaultsOnce.{certificate_settled, long_once, run_once, settled, values_once}
use Rattle.ta_program.proofs.Meanings.{hinders_long, picked_monotone, proved_monotone, short_monotone, shown_monotone}
use Rattle.ta_program.proofs.SearchMeanings.{found_monotone, hinders_four, one_text, template_fits}
use Rattle.ta_program.proofs.OneLine.{after_last, after_once, finds_once, replies_hinder, settles_once, spared_once}
use Rattle.ta_program.proofs.WordMeanings.{run_monotone, system_monotone}
use Rattle.ta_program.proofs.Common.{LegalPicked, Pick, VerifyWords, picked_meaning}
use Rattle.ta_program.proofs.PatternPicks.{picks_once}

-- a line that says why a file hasn't a word
module _ (Of : WordFault → Type 0) (name : List ℕ) where
  word_ranged : (number : ℕ) (line : List ℕ) → WordHinders Of name number line → (3 ≤ number) × (number ≤ 4)
  word_ranged number line h = let is : number ≡ 4 = h.numbered in (omega (arith, is), omega (arith, is))

  word_line : ((e f : WordFault) → Of e → Of f → e ≡ f) → (number other : ℕ) (line words : List ℕ) → WordHinders Of name number line
      → WordHinders Of name other words → (number ≡ other) × (line ≡ words)
  word_line one number other line words h k = (
    h.numbered ∙ sym k.numbered,
    h.said ∙ ap (λ (f : WordFault). file_line name (word_fault_text f)) (one h.found k.found h.is k.is) ∙ sym k.said,
  )

-- a line that says that a certificate is too long
long_certificate : (file : File) (pick : Pick) (budget : Budget) (out : Option (List ℕ)) (line words : List ℕ) (number other : ℕ)
    → HindersCertificate file pick budget out number line → HindersCertificate file pick budget out other words → line ≡ words
long_certificate file pick budget None line words number other h k = absurd h
long_certificate file pick budget (Some out) line words number other h k = h.said ∙ sym k.said

long_found : (t : Template) (terms : Terms) (out : Option (List ℕ)) (line words : List ℕ) (number other : ℕ) → HindersFound t terms out number line
    → HindersFound t terms out other words → line ≡ words
long_found t terms None line words number other h k = absurd h
long_found t terms (Some out) line words number other h k = h.said ∙ sym k.said

long_rest : (file : File) (ends : FileEndings) (budget : RestBudget) (pick : Pick) (out : Option (List ℕ)) (line words : List ℕ) (number other : ℕ)
    → HindersRest file ends budget pick out number line → HindersRest file ends budget pick out other words → line ≡ words
long_rest file ends budget pick None line words number other h k = absurd h
long_rest file ends budget pick (Some out) line words number other h k = h.said ∙ sym k.said

module _ (unique : FirstFaultsAreUnique) (told : Told) where
  -- of a command that reads FILE first
  file_first : (l : Limits) (name : List ℕ) (puts : List (List ℕ)) (rest : File → Meaning) → ((file : File) → Monotone (rest file))
      → ((file : File) → HinderOnce (rest file) told) → HinderOnce (after (file_kind l) name puts rest) told
  file_first l name puts rest rests later =
      after_once (file_kind l) (settled (file_kind l) (λ bytes f none. none) (unique l)) name puts rest rests told 3 refl (omega arith) (omega arith)
      (λ bytes file fault legal found. legal.no_fault fault found) later (one_legal l)

  report_once : (asked : VerifyWords) (file : File) (pick : Pick) → HinderOnce (report_meaning asked file pick) told
  report_once asked file pick =
      settles_once (may_put asked.out) (Reports asked file pick) (HindersCertificate file pick asked.budget asked.out) told
      (λ number line h. let is = (hinders_long file pick asked.budget asked.out number line h).0 in (omega (arith, is), omega (arith, is)))
      (λ number other line words h k. (
        (hinders_long file pick asked.budget asked.out number line h).0 ∙ sym (hinders_long file pick asked.budget asked.out other words k).0,
        long_certificate file pick asked.budget asked.out line words number other h k,
      ))

  verify_once : (asked : VerifyWords) → HinderOnce (verify_meaning asked) told
  verify_once asked =
      spared_once (file_kind (limits_of asked.wide)) asked.file (may_put asked.out) (picked_meaning asked) (picked_monotone asked) told
      (λ bytes file fault legal found. legal.no_fault fault found)
      (file_first (limits_of asked.wide) asked.file (may_put asked.out) (picked_meaning asked) (picked_monotone asked) (λ file.
      picks_once asked.file asked.pattern (may_put asked.out) file (report_meaning asked file) told (report_once asked file)))

  check_once : (asked : CheckWords) → HinderOnce (check_meaning asked) told
  check_once asked =
      let options = asked.options in
      file_first (limits_of asked.wide) asked.file [] (proved_meaning asked) (proved_monotone asked) (λ file.
      after_last (certificate_kind (claiming claim.Safe file (limits_of asked.wide).line_bytes)) (certificate_settled
      (claiming claim.Safe file (limits_of asked.wide).line_bytes)) asked.other []
      (λ numbers. replies [] (SaysProofs false file options numbers)) (λ numbers. replies_monotone [] (SaysProofs false file options numbers)) told 4 refl
      (omega arith) (omega arith)
      (λ bytes numbers fault proves found. found.no_certificate numbers proves.accepted) (λ numbers number line none. none))

  replay_once : (asked : ReplayWords) → HinderOnce (replay_meaning asked) told
  replay_once asked =
      let run = asked.other in
      let json = asked.json in
      file_first (limits_of asked.wide) asked.file [] (λ file. shown_meaning file json run) (λ file. shown_monotone file json run) (λ file.
      after_last (run_kind file) (settled (run_kind file) (λ bytes f none. none) (run_once file)) run [] (λ shown. replies [] (SaysShown file json shown))
      (λ shown. replies_monotone [] (SaysShown file json shown)) told 4 refl (omega arith) (omega arith)
      (λ bytes shown fault shows found. found.shows_nothing shown shows) (λ shown number line none. none))

  pub compress_once : (asked : TwoNames) → HinderOnce (compress_meaning asked) told
  compress_once asked =
      let run = asked.other in
      file_first (limits_of asked.wide) asked.file [] (λ file. short_meaning file run) (λ file. short_monotone file run) (λ file.
      after_last (long_kind file) (settled (long_kind file) (λ bytes f none. none) (long_once file)) run [] (λ long. replies [] (SaysShort file long))
      (λ long. replies_monotone [] (SaysShort file long)) told 4 refl (omega arith) (omega arith)
      (λ bytes long fault able found. found.compresses_nothing long able) (λ long number line none. none))

  system_once : (name : List ℕ) (spelled : Spelling) (file : File) → HinderOnce (system_meaning name spelled file) told
  system_once name spelled file =
      finds_once (IsWordOf file spelled) (WordHinders (WordFaultOf file spelled) name) [] (λ word. replies [] (SaysSystem file word)) told
      (word_ranged (WordFaultOf file spelled) name) (word_line (WordFaultOf file spelled) name (word_faults_once file spelled))
      (λ word number line is h. (words_exact file spelled word is).0 h.found h.is)
      (λ v w is are. (words_exact file spelled v is).1 w are)
      (λ word. replies_hinder [] (SaysSystem file word) told)

  export_once : (asked : WordAsked) → HinderOnce (export_meaning asked) told
  export_once asked = file_first narrow asked.file [] (system_meaning asked.file asked.word) (system_monotone asked.file asked.word)
      (system_once asked.file asked.word)

  values_line : (values : List ℕ) (file : File) (word : Word) → HinderOnce (values_meaning values file word) told
  values_line values file word =
      after_last (values_kind file word) (settled (values_kind file word) (λ bytes f none. none) (values_once file word)) values []
      (λ run. replies [] (Writes 0 (run_text file run))) (λ run. replies_monotone [] (Writes 0 (run_text file run))) told 4 refl (omega arith) (omega arith)
      (λ bytes run fault admits found. found.gives_no_run run admits) (λ run number line none. none)

  run_line : (name : List ℕ) (spelled : Spelling) (values : List ℕ) (file : File) → HinderOnce (run_meaning name spelled values file) told
  run_line name spelled values file =
      finds_once (IsWholeWordOf file spelled) (WordHinders (WholeFaultOf file spelled) name) [] (values_meaning values file) told
      (word_ranged (WholeFaultOf file spelled) name) (word_line (WholeFaultOf file spelled) name (whole_faults_once file spelled))
      (λ word number line is h. whole_exact file spelled word is h.found h.is)
      (λ v w is are. (words_exact file spelled v is.is).1 w are.is)
      (values_line values file)

  admit_once : (all : AdmitAsked) → HinderOnce (admit_meaning all) told
  admit_once all = file_first narrow all.asked.file [] (run_meaning all.asked.file all.asked.word all.values)
      (run_monotone all.asked.file all.asked.word all.values)
      (run_line all.asked.file all.asked.word all.values)

  -- of a command of one file
  one_file_once : (text : Limits → File → List ℕ → Type 0) (asked : OneFileWords) → HinderOnce (one_file_meaning text asked) told
  one_file_once text asked =
      let such = text (limits_of asked.wide) in
      file_first (limits_of asked.wide) asked.file [] (λ file. printing (such file)) (λ file. replies_monotone [] (SaysText (such file)))
      (λ file. replies_hinder [] (SaysText (such file)) told)

  found_once : (asked : SearchWords) (t : Template) → HinderOnce (found_meaning asked t) told
  found_once asked t =
      settles_once (found_names asked) (Finds t asked) (HindersFound t (terms_of asked) asked.out) told
      (λ number line h. let is = hinders_four t (terms_of asked) asked.out number line h in (omega (arith, is), omega (arith, is)))
      (λ number other line words h k. (
        hinders_four t (terms_of asked) asked.out number line h
            ∙ sym (hinders_four t (terms_of asked) asked.out other words k),
        long_found t (terms_of asked) asked.out line words number other h k,
      ))

  search_once : (asked : SearchWords) → HinderOnce (search_meaning asked) told
  search_once asked =
      spared_once (template_kind (limits_of asked.wide)) asked.file (found_names asked) (found_meaning asked) (found_monotone asked) told template_fits
      (after_once (template_kind (limits_of asked.wide)) (settled (template_kind (limits_of asked.wide)) (λ bytes f none. none) one_fault) asked.file
      (found_names asked) (found_meaning asked)
      (found_monotone asked) told 3 refl (omega arith) (omega arith) template_fits (found_once asked) one_text)

  -- of a command that looks for the endings of FILE
  ends_line : (l : Limits) (name : List ℕ) (puts : List (List ℕ)) (rest : File → FileEndings → Meaning)
      → ((file : File) (ends : FileEndings) → Monotone (rest file ends))
      → ((file : File) (ends : FileEndings) → HinderOnce (rest file ends) told) → HinderOnce (with_ends l name puts rest) told
  ends_line l name puts rest rests later =
      file_first l name puts (λ file. finds (IsEnds file) (CycleHinders name file) puts (rest file)) (ends_monotone l name puts rest rests) (λ file.
      finds_once (IsEnds file) (CycleHinders name file) puts (rest file) told
      (λ number line h. let three : number ≡ 3 = h.numbered in (omega (arith, three), omega (arith, three)))
      (λ number other line words h k. (
        h.numbered ∙ sym k.numbered,
        h.said ∙ ap (λ (r : ℕ). file_line name (cycle_text r)) (cycle_rule file.automaton h.rule k.rule h.first k.first)
            ∙ sym k.said,
      ))
      (λ ends number line is. no_cycle name file ends number line is)
      (λ d e is are. sym (ends_once file d e is are))
      (later file))

  rest_report_once : (asked : RestWords) (file : File) (ends : FileEndings) (budget : RestBudget) (pick : Pick)
      → HinderOnce (rest_report_meaning asked file ends budget pick) told
  rest_report_once asked file ends budget pick =
      let out = asked.verify.out in
      settles_once (may_put out) (RestReports asked file ends budget pick) (HindersRest file ends budget pick out) told
      (λ number line h. let is = (hinders_rest file ends budget pick out number line h).0 in (omega (arith, is), omega (arith, is)))
      (λ number other line words h k. (
        (hinders_rest file ends budget pick out number line h).0
            ∙ sym (hinders_rest file ends budget pick out other words k).0,
        long_rest file ends budget pick out line words number other h k,
      ))

  -- of commands that look for the places of names
  names_once : (name : List ℕ) (names : Option (List ℕ)) (puts : List (List ℕ)) (file : File) (rest : List ℕ → Meaning)
      → ((places : List ℕ) → HinderOnce (rest places) told) → HinderOnce (with_silent name names puts file rest) told
  names_once name names puts file rest later =
      let a = file.automaton in
      finds_once (AreSilent a names) (NamesHinder name a names) puts rest told
      (λ number line h. let three = silent_number name a names number line h in (omega (arith, three), omega (arith, three)))
      (λ number other line words h k.
      (silent_number name a names number line h ∙ sym (silent_number name a names other words k), silent_line name a names number other line words h k))
      (λ places number line is. silent_fits name a names places number line is)
      (λ d e is are. sym (silent_once a names d e is are))
      later

  rest_once : (asked : RestWords) → HinderOnce (rest_meaning asked) told
  rest_once asked =
      let l = limits_of asked.verify.wide in
      let name = asked.verify.file in
      let puts = may_put asked.verify.out in
      let quietly = rest_quietly asked in
      let monotone = rest_quietly_monotone asked in
      spared_once (file_kind l) name puts (at_ends name puts quietly) (ends_monotone l name puts quietly monotone) told
      (λ bytes file fault legal found. legal.no_fault fault found)
      (ends_line l name puts quietly monotone (λ file ends.
      names_once name asked.silent puts file (λ places. rest_picked asked file ends (resting asked.verify.budget places)) (λ places.
      picks_once name asked.verify.pattern puts file (rest_report_meaning asked file ends (resting asked.verify.budget places)) told
      (rest_report_once asked file ends (resting asked.verify.budget places)))))

  proved_once : (asked : RestCheckWords) (file : File) (ends : FileEndings) (silent : List ℕ) → HinderOnce (rest_proved_meaning asked file ends silent) told
  proved_once asked file ends silent =
      let options = asked.options in
      after_last (certificate_kind (claiming_with claim.RestSafe ends.ending silent (limits_of asked.wide).line_bytes)) (certificate_settled
      (claiming_with claim.RestSafe ends.ending silent (limits_of asked.wide).line_bytes))
      asked.other [] (λ numbers. replies [] (SaysProofs true file options numbers)) (λ numbers. replies_monotone [] (SaysProofs true file options numbers))
      told 4 refl (omega arith) (omega arith)
      (λ bytes numbers fault proves found. found.no_certificate numbers proves.accepted) (λ numbers number line none. none)

  rest_check_once : (asked : RestCheckWords) → HinderOnce (rest_check_meaning asked) told
  rest_check_once asked =
      ends_line (limits_of asked.wide) asked.file [] (quietly_meaning asked) (quietly_monotone asked) (λ file ends.
      names_once asked.file asked.silent [] file (rest_proved_meaning asked file ends) (proved_once asked file ends))

  -- what words ask for, row by row
  asked_where_once : {W : Type 0} (legal : W → Told → Type 0) (says : W → Meaning) (words : Option W) → ((w : W) → HinderOnce (says w) told)
      → OfCommand (λ m. HinderOnce m told) (ask_where legal says words)
  asked_where_once legal says None once = tt
  asked_where_once legal says (Some w) once = once w

  asked_once : {W : Type 0} (file : W → Option (List ℕ × Limits)) (says : W → Meaning) (words : Option W) → ((w : W) → HinderOnce (says w) told)
      → OfCommand (λ m. HinderOnce m told) (ask file says words)
  asked_once file says = asked_where_once (λ w told. LegalFile told (file w)) says

  one_file_asked_once : (text : Limits → File → List ℕ → Type 0) (words : List (List ℕ)) → OfCommand (λ m. HinderOnce m told) (one_file_asked text words)
  one_file_asked_once text words = asked_once (λ asked. Some (asked.file, limits_of asked.wide)) (one_file_meaning text) (one_file_words words)
      (one_file_once text)

  row_once : (named : Bool) (asked others : Asked) → OfCommand (λ m. HinderOnce m told) asked → OfCommand (λ m. HinderOnce m told) others
      → OfCommand (λ m. HinderOnce m told) (choose named asked others)
  row_once true asked others once more = once
  row_once false asked others once more = more

  request_once : (words : List (List ℕ)) → OfCommand (λ m. HinderOnce m told) (request_of words)
  request_once [] = tt
  request_once (word ∷ words) =
      row_once (bytes_eq word (codes "admit")) _ _ (asked_once (λ all. Some (all.asked.file, narrow)) admit_meaning (admit_words words) admit_once)
      (row_once (bytes_eq word (codes "bench")) _ _ (asked_once (λ k. None) bench_meaning (bench_words words) (λ k. replies_hinder [] (SaysBench k) told))
      (row_once (bytes_eq word (codes "check")) _ _
      (asked_once (λ a. Some (a.file, limits_of a.wide)) check_meaning (check_words words) check_once)
      (row_once (bytes_eq word (codes "compress")) _ _
      (asked_once (λ names. Some (names.file, limits_of names.wide)) compress_meaning (two_names words) compress_once)
      (row_once (bytes_eq word (codes "count")) _ _ (one_file_asked_once IsCount words)
      (row_once (bytes_eq word (codes "export")) _ _ (asked_once (λ asked. Some (asked.file, narrow)) export_meaning (export_words words) export_once)
      (row_once (bytes_eq word (codes "replay")) _ _
      (asked_once (λ a. Some (a.file, limits_of a.wide)) replay_meaning (replay_words words) replay_once)
      (row_once (bytes_eq word (codes "rest")) _ _ (asked_where_once LegalRest rest_meaning (rest_words words) rest_once)
      (row_once (bytes_eq word (codes "rest-check")) _ _
      (asked_where_once (λ a. LegalSilently (limits_of a.wide) a.file a.silent) rest_check_meaning (rest_check_words words) rest_check_once)
      (row_once (bytes_eq word (codes "search")) _ _ (asked_where_once LegalTemplate search_meaning (search_words words) search_once)
      (row_once (bytes_eq word (codes "show")) _ _ (one_file_asked_once (λ l. IsShown) words)
      (row_once (bytes_eq word (codes "verify")) _ _
      (asked_where_once (λ a. LegalPicked (limits_of a.wide) a.file a.pattern) verify_meaning (verify_words words) verify_once)
      (row_once (bytes_eq word (codes "version")) _ NoCommand
      (asked_once (λ asked. None) (λ asked. version_meaning) (version_words words) (λ asked. replies_hinder [] (Writes 0 version_text) told)) tt))))))))))))

-- what a run tells of told files
module _ (m : Meaning) (told : Told) (number : ℕ) (before after : State) (is : before.shelf.files ≡ Some told) (performs : Performs m number before after)
    (decides : Decides m) (once : HinderOnce m told) where
  told_line : 3 ≤ number → number ≤ 4 → (line : List ℕ) × m.refuses (in_files told) number line × Tells line before.err after.err
  told_line three four =
      let h = performs.telling.hindered three four in
      let line = h.such.0 in
      (line, decides.refuses told h.read number line (subst (λ (files : Option Told). m.refuses (seen files h.read) number line) is h.such.2), h.such.3)

  just : (expected : ℕ) (line : List ℕ) → m.refuses (in_files told) expected line → ((number ≡ expected) × Tells line before.err after.err)
      ⊎ ((number ≡ 6) ⊎ (number ≡ 7))
  just expected line refuses = elim (performs.exact decides told is expected (inr (line, refuses))) [
    | inl same ↦
        let range = once.ranged expected line refuses in
        let three = range.0 in
        let four = range.1 in
        let t = told_line (omega (arith, same, three)) (omega (arith, same, four)) in
        let one = (once.one number expected t.0 line t.1 refuses).1 in
        inl (same, subst (λ (l : List ℕ). Tells l before.err after.err) one t.2)
    | inr other ↦ inr other
  ]

  pub names_fault : NamesFault m told number before.err after.err
  names_fault = record { hindered = told_line; just = just }

named_by : (asked : Asked) (told : Told) (number : ℕ) (before after : State) → Runs asked number before after → before.shelf.files ≡ Some told
    → OfCommand (λ m. HinderOnce m told) asked → OfCommand (λ m. NamesFault m told number before.err after.err) asked
named_by NoCommand told number before after h is once = tt
named_by (Command legal m) told number before after h is once = names_fault m told number before after is h.performs h.decides once

pub faults_named : FirstFaultsAreUnique → FaultsAreNamed
faults_named unique = record {
  one = λ words told. request_once unique told words;
  named = λ words number before after h told is. named_by (request_of words) told number before after h is (request_once unique told words);
}
