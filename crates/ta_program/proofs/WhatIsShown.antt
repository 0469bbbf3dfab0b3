-- what a run says of the file that `show` prints
use Rattle.ta_base.specs.declared.limits.Limits.{Limits}
use Rattle.ta_program.specs.Values.{limits_of}
use Rattle.ta_program.proofs.Common.{arith, ◌≡◌, ◌≤◌, ◌∙◌, ◌++◌, ◌∷◌, ℕ, true, false, List, [], Option, None, Some, refl, sym, ap, subst, map, codes}
use Rattle.ta_program.proofs.Common.{append_assoc, option_map, option_and_then_some, AllByRecursion, nat_lt, length}
use Rattle.ta_program.proofs.Common.{Call, LegalFile, LegalSilently, CheckHolds, Event, IsFile, Meaning, PutCall, ReplayHolds, ReportHolds}
use Rattle.ta_program.proofs.Common.{RestCheckHolds, RestReportHolds, Runs, ShowHolds, State, Told, View, ask_where, pair_of, reads, reads-append, report_of}
use Rattle.ta_program.proofs.Common.{request_of, seen, where_told, with_text}
use Rattle.ta_program.proofs.Common.{File, RestCheckWords, RestWords, VerifyWords, budget_of, check_meaning, file_name_of, option_value, out_of}
use Rattle.ta_program.proofs.Common.{plain_of, quiet_names, replay_meaning, rest_check_meaning, rest_check_of, rest_check_words, rest_meaning, rest_of}
use Rattle.ta_program.proofs.Common.{rest_taken, rest_words, IsShown, one_file_meaning, one_file_words, show_of, shown_of, taken_by, unit_steps, verify_meaning}
use Rattle.ta_program.proofs.Common.{verify_of, verify_taken, verify_words, rest_form, verify_form}
use Rattle.std.proofs.lemmas.Option.{cond_some, none-some}
use Rattle.ta_automaton.specs.Runs as runs
use Rattle.ta_replay.proofs.Occurring.{shown_occurs}
use Rattle.ta_shelf.specs.Calls.{puts}
use Rattle.ta_shelf.specs.Sights.{Whole}
use Rattle.ta_report.proofs.FileTells.{file_same}
use Rattle.ta_report.specs.Unknowns.{unknowns_text}
use Rattle.ta_program.proofs.Clauses.{as_check, as_replay, as_rest, as_rest_check, as_show, as_verify, at_rest, gives_some, proved, reported}
use Rattle.ta_program.proofs.Clauses.{run_of}
use Rattle.ta_program.proofs.Clauses.{rest_checked, shown, shown_file, line_proved, line_rest_proved, tells_rest_safe, tells_safe, picked_safe}
use Rattle.ta_program.proofs.FirstWord.{first_plain, second_plain, not_behind}
use Rattle.ta_report.proofs.JsonLines.{tells_by_line, tells_unsafe_by_line}
use Rattle.ta_program.proofs.NeverResting.{never_rests}
use Rattle.ta_program.proofs.UnsafePrinted.{unsafe_printed}
use Rattle.ta_report.specs.CheckJson.{shown_text}
use Rattle.ta_program.specs.Statuses.{ZeroSays}
use Rattle.ta_program.specs.CheckWords.{CheckWords, ReplayWords, check_form, check_of, check_taken, check_words, replay_form, replay_of, replay_taken}
use Rattle.ta_program.specs.CheckWords.{replay_words}
use Rattle.ta_program.specs.Ended.{Did, Ended}
use Rattle.ta_program.specs.RestWords.{rest_check_form, rest_check_taken}
use Rattle.ta_program.specs.SilentNames.{names_of}
use Rattle.ta_program.specs.Understood.{Asks, EachLine, IsOfAll, NeverRests, OccursSomewhere, Prints, ReadsWhole, RunOccurs, Says, Understood}
use Rattle.ta_program.proofs.OneFileOfAny.{one_legal_file}
use Rattle.ta_program.specs.OneFile.{OneFileWords, one_file_form, one_file_taken}
use Rattle.ta_program.specs.Values.{wide_of}
use Rattle.ta_program.specs.Words.{OptionForm, is_dashed, is_given, valued}
use Rattle.ta_program.proofs.Common.{Taken, EachPicked, LegalPicked, LegalRest, slice_get}
use Rattle.ta_program.proofs.OptionUnset.{option_unset_of}

-- ---- what words of a command name: right behind the command's name stands FILE
named_so : (given name file : List ℕ) → given ≡ name → file_name_of given ≡ Some file → file ≡ name
named_so given name file same is = sym (cond_some (nat_lt 0 (length given)) given file is).1 ∙ same

-- what a command asks for that is made of something if that is there
made_of : {X W : Type 0} (f : X → W) (o : Option X) (asked : W) → option_map f o ≡ Some asked → (x : X) × (o ≡ Some x) × (f x ≡ asked)
made_of f None asked is = absurd (none-some asked is)
made_of f (Some x) asked is = let e : f x ≡ asked = cc in (x, refl, e)

file_taken : (name : List ℕ) (taken : Taken) (asked : VerifyWords) → plain_of taken 0 ≡ name → verify_taken taken ≡ Some asked → asked.file ≡ name
file_taken name taken asked first is =
    option_and_then_some _ (file_name_of (plain_of taken 0)) asked is (λ file named file_is.
    option_and_then_some _ (budget_of (option_value taken 0)) asked file_is (λ nodes counted nodes_is.
    option_and_then_some _ (out_of file (option_value taken 1)) asked nodes_is (λ out took out_is.
    let made = made_of _ (wide_of (is_given taken 6) (is_given taken 3)) asked out_is in
    sym (ap (λ (w : VerifyWords). w.file) made.2) ∙ named_so (plain_of taken 0) name file first named)))

file_of_verify : (name : List ℕ) (more : List (List ℕ)) (asked : VerifyWords) → is_dashed name ≡ false → verify_words (name ∷ more) ≡ Some asked
    → asked.file ≡ name
file_of_verify name more asked plain is = option_and_then_some verify_taken (taken_by verify_form (name ∷ more)) asked is (λ taken by taken_is.
    file_taken name taken asked (first_plain verify_form refl name more taken plain by) taken_is)

-- where no word begins with `--pattern`, none is asked for alone
fifth_option : (o : OptionForm) → slice_get verify_form.options 4 ≡ Some o → o.word ≡ codes "--pattern"
fifth_option o at = let same : valued (codes "--pattern") ≡ o = cc in sym (ap (λ (f : OptionForm). f.word) same)

of_all : (words : List (List ℕ)) (asked : VerifyWords) → AllByRecursion IsOfAll words → verify_words words ≡ Some asked → asked.pattern ≡ None
of_all words asked none is = option_and_then_some verify_taken (taken_by verify_form words) asked is (λ taken by taken_is.
    option_and_then_some _ (file_name_of (plain_of taken 0)) asked taken_is (λ file named file_is.
    option_and_then_some _ (budget_of (option_value taken 0)) asked file_is (λ nodes counted nodes_is.
    option_and_then_some _ (out_of file (option_value taken 1)) asked nodes_is (λ out took out_is.
    let made = made_of _ (wide_of (is_given taken 6) (is_given taken 3)) asked out_is in
    let unset = option_unset_of (codes "--pattern") 4 verify_form words taken
    (λ i o there e. let four : i ≡ 4 = omega (arith, e) in fifth_option o (subst (λ (n : ℕ). slice_get verify_form.options n ≡ Some o) four there))
    none refl by in
    sym (ap (λ (w : VerifyWords). w.pattern) made.2) ∙ unset))))

file_of_rest : (name : List ℕ) (more : List (List ℕ)) (asked : RestWords) → is_dashed name ≡ false → rest_words (name ∷ more) ≡ Some asked
    → asked.verify.file ≡ name
file_of_rest name more asked plain is = option_and_then_some rest_taken (taken_by rest_form (name ∷ more)) asked is (λ taken by taken_is.
    option_and_then_some _ (verify_taken taken) asked taken_is (λ v v_is silent_is.
    let made = made_of _ (quiet_names v.budget.lazy (option_value taken 7)) asked silent_is in
    sym (ap (λ (w : RestWords). w.verify.file) made.2) ∙ file_taken name taken v (first_plain rest_form refl name more taken plain by) v_is))

file_of_rest_check : (name : List ℕ) (more : List (List ℕ)) (asked : RestCheckWords) → is_dashed name ≡ false → rest_check_words (name ∷ more) ≡ Some asked
    → asked.file ≡ name
file_of_rest_check name more asked plain is = option_and_then_some rest_check_taken (taken_by rest_check_form (name ∷ more)) asked is (λ taken by taken_is.
    option_and_then_some _ (file_name_of (plain_of taken 0)) asked taken_is (λ file named file_is.
    option_and_then_some _ (file_name_of (plain_of taken 1)) asked file_is (λ other behind other_is.
    let made = made_of _ (names_of (option_value taken 0)) asked other_is in
    sym (ap (λ (w : RestCheckWords). w.file) made.2)
    ∙ named_so (plain_of taken 0) name file (first_plain rest_check_form refl name more taken plain by) named)))

file_of_check : (name : List ℕ) (more : List (List ℕ)) (asked : CheckWords) → is_dashed name ≡ false → check_words (name ∷ more) ≡ Some asked
    → asked.file ≡ name
file_of_check name more asked plain is = option_and_then_some check_taken (taken_by check_form (name ∷ more)) asked is (λ taken by taken_is.
    option_and_then_some _ (file_name_of (plain_of taken 0)) asked taken_is (λ file named file_is.
    let made = made_of _ (file_name_of (plain_of taken 1)) asked file_is in
    sym (ap (λ (w : CheckWords). w.file) made.2)
    ∙ named_so (plain_of taken 0) name file (first_plain check_form refl name more taken plain by) named))

file_of_replay : (name : List ℕ) (more : List (List ℕ)) (asked : ReplayWords) → is_dashed name ≡ false → replay_words (name ∷ more) ≡ Some asked
    → asked.file ≡ name
file_of_replay name more asked plain is = option_and_then_some replay_taken (taken_by replay_form (name ∷ more)) asked is (λ taken by taken_is.
    option_and_then_some _ (file_name_of (plain_of taken 0)) asked taken_is (λ file named file_is.
    let made = made_of _ (file_name_of (plain_of taken 1)) asked file_is in
    sym (ap (λ (w : ReplayWords). w.file) made.2)
    ∙ named_so (plain_of taken 0) name file (first_plain replay_form refl name more taken plain by) named))

run_of_replay : (name other : List ℕ) (asked : ReplayWords) → is_dashed name ≡ false → replay_words (name ∷ other ∷ []) ≡ Some asked → asked.other ≡ other
run_of_replay name other asked plain is = option_and_then_some replay_taken (taken_by replay_form (name ∷ other ∷ [])) asked is (λ taken by taken_is.
    option_and_then_some _ (file_name_of (plain_of taken 0)) asked taken_is (λ file named file_is.
    let made = made_of _ (file_name_of (plain_of taken 1)) asked file_is in
    sym (ap (λ (w : ReplayWords). w.other) made.2)
    ∙ named_so (plain_of taken 1) other made.0 (second_plain replay_form refl refl name other taken plain by) made.1))

file_of_show : (name : List ℕ) (more : List (List ℕ)) (asked : OneFileWords) → is_dashed name ≡ false → one_file_words (name ∷ more) ≡ Some asked
    → asked.file ≡ name
file_of_show name more asked plain is = option_and_then_some one_file_taken (taken_by one_file_form (name ∷ more)) asked is (λ taken by taken_is.
    let made = made_of _ (file_name_of (plain_of taken 0)) asked taken_is in
    sym (ap (λ (w : OneFileWords). w.file) made.2)
    ∙ named_so (plain_of taken 0) name made.0 (first_plain one_file_form refl name more taken plain by) made.1)

-- words with which a command ends so are its words
were_asked : {W : Type 0} (legal : W → Told → Type 0) (says : W → Meaning) (o : Option W) (number : ℕ) (before after : State)
    → Runs (ask_where legal says o) number before after → number ≤ 2 → (asked : W) × (o ≡ Some asked)
were_asked legal says None number before after h low = absurd (omega (arith, h.five, low))
were_asked legal says (Some words) number before after h low = (words, refl)

-- ---- what is seen in the log of a run
parts_of : (tried before those after made : List Event) → tried ++ ((before ++ (those ++ after)) ++ made) ≡ (tried ++ before) ++ (those ++ (after ++ made))
parts_of tried before those after made =
    ap (λ (es : List Event). tried ++ es) (append_assoc before (those ++ after) made ∙ ap (λ (es : List Event). before ++ es) (append_assoc those after made))
    ∙ sym (append_assoc tried before (those ++ (after ++ made)))

read_so : (r : Ended) (tried made : List PutCall) (read : List Call)
    → r.after.calls ≡ r.before.calls ++ (puts tried ++ (reads read ++ puts made)) → (name bytes : List ℕ)
    → seen r.before.files read name (Whole bytes) → ReadsWhole r name bytes
read_so r tried made read grown name bytes sees =
    let part = sees.0 in
    let split : reads read ≡ reads part.before ++ (reads part.those ++ reads part.after) = ap reads part.all
    ∙ reads-append part.before (part.those ++ part.after) ∙ ap (λ (es : List Event). reads part.before ++ es) (reads-append part.those part.after) in
    record {
      front = puts tried ++ reads part.before;
      those = part.those;
      behind = reads part.after ++ puts made;
      logged = grown ∙ ap (λ (es : List Event). r.before.calls ++ (puts tried ++ (es ++ puts made))) split
          ∙ ap (λ (es : List Event). r.before.calls ++ es) (parts_of (puts tried) (reads part.before) (reads part.those) (reads part.after) (puts made));
      gave = part.such;
      held = λ told is. subst (λ (files : Option Told). where_told files name (Whole bytes)) is sees.1;
    }

-- what is seen whole was read whole
abbrev Sees : Ended → View → Type 0
Sees r view = (name bytes : List ℕ) → view name (Whole bytes) → ReadsWhole r name bytes

of_calls : {names : List (List ℕ)} {Goal : Type 0} (r : Ended) (Of : View → Type 0) → ((view : View) → Sees r view → Of view → Goal)
    → Did r names Of → Goal
of_calls r Of goal a = goal (seen r.before.files a.read) (λ name bytes sees. read_so r a.tried a.made a.read a.grown name bytes sees) a.such

-- what is so of the file that FILE means, is so of each file that `show` prints of FILE's bytes
says : {l : Limits} (r : Ended) (Such : List ℕ → File → Type 0) (name : List ℕ) (view : View) → Sees r view → (file : File) → IsFile l view name file
    → (text : List ℕ)
    → r.after.written ≡ with_text r.before.written text → Such text file → Says Such r name
says {l} r Such name view sees file is_file text gained such = record {
  bytes = is_file.bytes;
  read = sees name is_file.bytes is_file.had.seen;
  text = text;
  gained = gained;
  such = λ shown other orders printed e.
      let same : file ≡ other = one_legal_file l printed.limits is_file.bytes file printed.file is_file.means printed.legal
      ∙ file_same printed.file other (map pair_of printed.is.orders) orders (sym printed.is.shown ∙ sym e) in
      subst (Such text) same such;
}

module _ (words : List (List ℕ)) (number : ℕ) (before after : State) (h : Runs (request_of words) number before after) where
  abbrev ended : Ended
  ended = run_of words number before after

  -- the words ask for a command
  abbrev runs_so : List (List ℕ) → Type 0
  runs_so ws = Runs (request_of ws) number before after

  of_verify : (Such : List ℕ → File → Type 0) (name : List ℕ) (more : List (List ℕ)) → Asks ended (codes "verify") name more → number ≤ 2
      → ((asked : VerifyWords) → verify_words (name ∷ more) ≡ Some asked
      → (view : View) (r : ReportHolds number view asked before.out.written after.out.written)
      → Such (report_of false asked.json r.file r.pick r.sample r.verdicts) r.file)
      → Says Such ended name
  of_verify Such name more asks low such =
      let so : runs_so (codes "verify" ∷ name ∷ more) = subst runs_so asks.are h in
      let found = were_asked (λ a. LegalPicked (limits_of a.wide) a.file a.pattern) verify_meaning (verify_words (name ∷ more)) number before after so low in
      let asked = found.0 in
      let is : verify_of words ≡ Some asked = ap verify_of asks.are ∙ found.1 in
      let Of : View → Type 0 = λ view. ReportHolds number view asked before.out.written after.out.written in
      subst (Says Such ended) (file_of_verify name more asked asks.plain found.1)
      (of_calls ended Of (λ view sees r. says ended Such asked.file view sees r.file r.is_file (report_of false asked.json r.file r.pick r.sample r.verdicts)
      r.wrote
      (such asked found.1 view r))
      (gives_some words number before after h (verify_meaning asked) (as_verify words number before after h asked is) low Of
      (λ view made a. reported words number before after h asked view made a)))

  of_check : (Such : List ℕ → File → Type 0) (name : List ℕ) (more : List (List ℕ)) → Asks ended (codes "check") name more → number ≤ 2
      → ((asked : CheckWords) (view : View) (r : CheckHolds number view asked before.out.written after.out.written)
      → Such r.text r.file)
      → Says Such ended name
  of_check Such name more asks low such =
      let so : runs_so (codes "check" ∷ name ∷ more) = subst runs_so asks.are h in
      let found = were_asked (λ a told. LegalFile told (Some (a.file, limits_of a.wide))) check_meaning
      (check_words (name ∷ more)) number before after so low in
      let asked = found.0 in
      let is : check_of words ≡ Some asked = ap check_of asks.are ∙ found.1 in
      let Of : View → Type 0 = λ view. CheckHolds number view asked before.out.written after.out.written in
      subst (Says Such ended) (file_of_check name more asked asks.plain found.1)
      (of_calls ended Of (λ view sees r. says ended Such asked.file view sees r.file r.is_file r.text r.wrote (such asked view r))
      (gives_some words number before after h (check_meaning asked) (as_check words number before after h asked is) low Of
      (λ view made a. proved words number before after h asked view made a)))

  of_rest : (Such : List ℕ → File → Type 0) (name : List ℕ) (more : List (List ℕ)) → Asks ended (codes "rest") name more → number ≤ 2
      → ((asked : RestWords) → rest_of words ≡ Some asked → (view : View) (r : RestReportHolds number view asked before.out.written after.out.written)
      → Such (report_of true asked.verify.json r.file r.pick r.sample r.verdicts) r.file)
      → Says Such ended name
  of_rest Such name more asks low such =
      let so : runs_so (codes "rest" ∷ name ∷ more) = subst runs_so asks.are h in
      let found = were_asked LegalRest rest_meaning (rest_words (name ∷ more)) number before after so low in
      let asked = found.0 in
      let is : rest_of words ≡ Some asked = ap rest_of asks.are ∙ found.1 in
      let Of : View → Type 0 = λ view. RestReportHolds number view asked before.out.written after.out.written in
      subst (Says Such ended) (file_of_rest name more asked asks.plain found.1)
      (of_calls ended Of (λ view sees r. says ended Such asked.verify.file view sees r.file r.is_file
      (report_of true asked.verify.json r.file r.pick r.sample r.verdicts) r.wrote (such asked is view r))
      (gives_some words number before after h (rest_meaning asked) (as_rest words number before after h asked is) low Of
      (λ view made a. at_rest words number before after h asked view made a)))

  of_rest_check : (Such : List ℕ → File → Type 0) (name : List ℕ) (more : List (List ℕ)) → Asks ended (codes "rest-check") name more → number ≤ 2
      → ((asked : RestCheckWords) (view : View)
      (r : RestCheckHolds number view asked before.out.written after.out.written)
      → Such r.text r.file)
      → Says Such ended name
  of_rest_check Such name more asks low such =
      let so : runs_so (codes "rest-check" ∷ name ∷ more) = subst runs_so asks.are h in
      let found = were_asked (λ a. LegalSilently (limits_of a.wide) a.file a.silent) rest_check_meaning
      (rest_check_words (name ∷ more)) number before after so low in
      let asked = found.0 in
      let is : rest_check_of words ≡ Some asked = ap rest_check_of asks.are ∙ found.1 in
      let Of : View → Type 0 = λ view.
      RestCheckHolds number view asked before.out.written after.out.written in
      subst (Says Such ended) (file_of_rest_check name more asked asks.plain found.1)
      (of_calls ended Of (λ view sees r. says ended Such asked.file view sees r.file r.is_file r.text r.wrote (such asked view r))
      (gives_some words number before after h (rest_check_meaning asked)
      (as_rest_check words number before after h asked is) low Of
      (λ view made a. rest_checked words number before after h asked view made a)))

  -- RUN is seen, too
  run_occurs : (view : View) → Sees ended view → (asked : ReplayWords) (r : ReplayHolds view asked before.out.written after.out.written)
      → RunOccurs ended asked.other r.file
  run_occurs view sees asked r =
      let s = r.is_run.means in
      record {
        bytes = r.is_run.bytes;
        read = sees asked.other r.is_run.bytes r.is_run.had.seen;
        run = r.run;
        is = s.text;
        pattern = s.shows.pattern;
        named = s.shows.named;
        first = s.shows.shows.first;
        begins = s.shows.shows.begins;
        occurs = shown_occurs r.file r.run s.shows;
      }

  of_replay : (name run_name : List ℕ) → Asks ended (codes "replay") name (run_name ∷ []) → number ≡ 0
      → Says (λ text file. RunOccurs ended run_name file) ended name
  of_replay name run_name asks none =
      let so : runs_so (codes "replay" ∷ name ∷ run_name ∷ []) = subst runs_so asks.are h in
      let low : number ≤ 2 = omega (arith, none) in
      let found = were_asked (λ a told. LegalFile told (Some (a.file, limits_of a.wide))) replay_meaning
      (replay_words (name ∷ run_name ∷ [])) number before after so low in
      let asked = found.0 in
      let is : replay_of words ≡ Some asked = ap replay_of asks.are ∙ found.1 in
      let Of : View → Type 0 = λ view. ReplayHolds view asked before.out.written after.out.written in
      let run_is = run_of_replay name run_name asked asks.plain found.1 in
      subst (Says (λ text file. RunOccurs ended run_name file) ended) (file_of_replay name (run_name ∷ []) asked asks.plain found.1)
      (of_calls ended Of (λ view sees r. says ended (λ text file. RunOccurs ended run_name file) asked.file view sees r.file r.is_file
      (shown_text asked.json r.file.automaton.name r.pattern.name (shown_of r.run)) r.wrote
      (subst (λ (n : List ℕ). RunOccurs ended n r.file) run_is (run_occurs view sees asked r)))
      (gives_some words number before after h (replay_meaning asked) (as_replay words number before after h asked is) low Of
      (λ view made a. shown words number before after h asked view made a)))

  prints_so : (asked : OneFileWords) (view : View) → Sees ended view → ShowHolds view asked before.out.written after.out.written → Prints ended asked.file
  prints_so asked view sees r = record {
    bytes = r.bytes;
    read = sees asked.file r.bytes r.held;
    text = r.text;
    more = unknowns_text r.printed.file;
    gained = r.wrote;
    printed = r.printed;
    file = r.printed.file;
    orders = map pair_of r.printed.is.orders;
    is = r.printed.is.shown;
  }

  of_show : (name : List ℕ) (more : List (List ℕ)) → Asks ended (codes "show") name more → number ≡ 0 → Prints ended name
  of_show name more asks none =
      let so : runs_so (codes "show" ∷ name ∷ more) = subst runs_so asks.are h in
      let low : number ≤ 2 = omega (arith, none) in
      let found = were_asked (λ a told. LegalFile told (Some (a.file, limits_of a.wide))) (one_file_meaning (λ l. IsShown)) (one_file_words (name ∷ more))
      number before
      after so low in
      let asked = found.0 in
      let is : show_of words ≡ Some asked = ap show_of asks.are ∙ found.1 in
      let Of : View → Type 0 = λ view. ShowHolds view asked before.out.written after.out.written in
      subst (Prints ended) (file_of_show name more asked asks.plain found.1)
      (of_calls ended Of (λ view sees r. prints_so asked view sees r)
      (gives_some words number before after h (one_file_meaning (λ l. IsShown) asked) (as_show words number before after h asked is) low Of
      (λ view made a. shown_file words number before after h asked view made a)))

  pub understood : ZeroSays → Understood ended
  understood zero_says = record {
    shows = of_show;
    safe = λ name more asks all none. of_verify (λ text file. AllByRecursion (runs.Safe file.automaton) file.patterns) name more asks (omega (arith, none))
        (λ asked is view r.
        let unasked = of_all (name ∷ more) asked (not_behind (codes "--pattern") name asks.plain refl, all) is in
        subst (λ (given : Option (List ℕ)). EachPicked runs.Safe given r.file) unasked (picked_safe words number before after h zero_says asked view r none));
    safe_lines = λ name more asks low. of_verify (EachLine runs.Safe (codes "safe, ")) name more asks low (λ asked is view r k p named line.
        tells_safe words number before after h asked view r k p named
        (tells_by_line false asked.json r.file r.pick r.sample r.verdicts p.name line));
    unsafe_lines = λ name more asks low. of_verify (EachLine OccursSomewhere (codes "unsafe, ")) name more asks low (λ asked is view r k p named line.
        let u = unsafe_printed asked.json r.file r.pick asked.budget r.sample r.is_sample r.verdicts r.are k p named
        (tells_unsafe_by_line false asked.json r.file r.pick r.sample r.verdicts p.name line) in
        (u.first, unit_steps u.run.lines, u.happens));
    proved = λ name more asks low. of_check (EachLine runs.Safe (codes "proved")) name more asks low
        (λ asked view r. line_proved words number before after h asked view r);
    rest_safe = λ name more asks low. of_rest (EachLine NeverRests (codes "rest safe, ")) name more asks low (λ asked is view r k p named line.
        never_rests (limits_of asked.verify.wide) r.is_file.bytes r.file r.is_file.means r.are_ends.loops k p named asked.silent
        (tells_rest_safe words number before after h asked is view r k p named
        (tells_by_line true asked.verify.json r.file r.pick r.sample r.verdicts p.name line)));
    rest_proved = λ name more asks low. of_rest_check (EachLine NeverRests (codes "rest proved")) name more asks low (λ asked view r k p named line.
        never_rests (limits_of asked.wide) r.is_file.bytes r.file r.is_file.means r.are_ends.loops k p named asked.silent
        (line_rest_proved words number before after h asked view r k p named line));
    shown = of_replay;
  }
