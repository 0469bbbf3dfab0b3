-- A text is that of at most one run, and has then no error.
use Rattle.ta_replay.proofs.Common.{ℕ, ℤ, zero, suc, ◌+◌, ◌<◌, ◌≡◌, ◌⊎◌, List, [], ◌∷◌, ◌++◌, length, map, refl, sym, ap, subst, ◌∙◌, Some, None, Option, inl}
use Rattle.ta_replay.proofs.Common.{inr, append_assoc, append-nil, arith, codes, signed_decimal, length-map, append_cancel_left, same_from_push}
use Rattle.ta_replay.proofs.Common.{slice_get_within, AllByRecursion, each_append, each_at, each_back, each_front, last_only, word_avoids, avoids-append}
use Rattle.ta_replay.proofs.Common.{avoids_known, differ, first_byte, not_parted, same_parts, pattern_within, Automaton, Pattern, File, EachFrom, event_name}
use Rattle.ta_replay.proofs.Common.{pattern_name, EventWithin, PatternWithin, Event, name_of, Value, Run, RunLine, Step, Mark, RunFault, Fits, LineFits, Slot}
use Rattle.ta_replay.proofs.Common.{name_at, named_line, valued_line, slots, value_lines, line_of, head_line, run_lines, lines_text, IsRunText, FormFor, FormAt}
use Rattle.ta_replay.proofs.Common.{LinesGoOn, IsTrailingRun, IsUnfinishedRun, IsMisformed, IsMalformedRun, IsMisnamed, TextFault, Avoids, IsWord, slice_get}
use Rattle.ta_replay.specs.declared.fault.RunFault.TheVariants as fault
use Rattle.ta_replay.proofs.NumberedNames.{one_name}
use Rattle.ta_replay.proofs.Decimals.{number_avoids}
use Rattle.ta_replay.proofs.Forms.{valued_same}
use Rattle.ta_replay.proofs.Statements.{word_of, words_at, step_form}
use Rattle.ta_replay.proofs.ValueLines.{length-value_lines}
use Rattle.ta_replay.proofs.RunFacts.{IsNoEnd, IsAsked, asked, values_of, values_count, values_natural, behind_head, run_lines_are, value_behind, body_behind}
use Rattle.ta_replay.proofs.RunFacts.{each_of_body}
use Rattle.ta_replay.proofs.Fronts.{same_pattern}

-- a property of the lines of values
each_value_line : (Q : List ℕ → Type 0) (ss : List Slot) (vs : List ℤ) → ((s : Slot) (v : ℤ) → IsAsked s → Value v → Q (valued_line s.word s.name v))
    → AllByRecursion IsAsked ss → AllByRecursion Value vs → AllByRecursion Q (value_lines ss vs)
each_value_line Q [] vs gives each natural = tt
each_value_line Q (s ∷ ss) [] gives each natural = tt
each_value_line Q (s ∷ ss) (v ∷ vs) gives each natural = (gives s v each.0 natural.0, each_value_line Q ss vs gives each.1 natural.1)

-- the names of a pattern's events are words
events_words : (places k : ℕ) (events : List Event) → EachFrom (EventWithin places) k events → (i : ℕ) → i < length events
    → IsWord (name_at (map event_name events) i)
events_words places k [] each i within = absurd (omega arith)
events_words places k (e ∷ es) each zero within = word_of e.name each.0.name
events_words places k (e ∷ es) each (suc i) within = events_words places (k + 1) es each.1 i (omega arith)

event_word : (file : File) (k : ℕ) (p : Pattern) (i : ℕ) → slice_get file.patterns k ≡ Some p → i < length p.events
    → IsWord (name_at (map event_name p.events) i)
event_word file k p i named within = events_words (length file.automaton.parameters + length file.automaton.shared + length file.automaton.locations) 0 p.events
    (pattern_within file k p named).events i within

-- the name of a pattern is a word
pattern_word : (file : File) (k : ℕ) → k < length file.patterns → IsWord (name_at (map pattern_name file.patterns) k)
pattern_word file k within = words_at pattern_name
    (PatternWithin (length file.automaton.parameters + length file.automaton.shared + length file.automaton.locations) (length file.automaton.locations))
    file.patterns k (λ p is. word_of p.name is.name) file.shape.within within

-- a line of a name has no line feed
named_clear : (word name : List ℕ) → Avoids 10 word → IsWord name → Avoids 10 (named_line word name)
named_clear word name plain is = avoids-append 10 word name plain (word_avoids 10 name refl is)

-- a line of a value has no line feed
valued_clear : (word name : List ℕ) (v : ℤ) → Avoids 10 word → IsWord name → Value v → Avoids 10 (valued_line word name v)
valued_clear word name v plain is number =
    avoids-append 10 word (name ++ (32 ∷ signed_decimal v)) plain
    (avoids-append 10 name (32 ∷ signed_decimal v) (word_avoids 10 name refl is) ((λ e. omega arith), number_avoids 10 v (omega arith) number))

-- the line of a step or a mark has no line feed
step_clear : (file : File) (k : ℕ) (p : Pattern) → slice_get file.patterns k ≡ Some p → (l : RunLine) → LineFits file.automaton p l
    → Avoids 10 (line_of file.automaton p l)
step_clear file k p named (Step rule factor) fits =
    let form = step_form file.automaton p rule factor (line_of file.automaton p (Step rule factor)) fits refl in
    valued_clear (codes "step ") (name_at (map name_of file.automaton.rules) rule) factor (avoids_known 10 (codes "step ") refl) form.spelled form.number
step_clear file k p named (Mark event) fits = named_clear (codes "mark ") (name_at (map event_name p.events) event) (avoids_known 10 (codes "mark ") refl)
    (event_word file k p event named fits)

-- no line of a run has a line feed
pub run_clear : (file : File) (run : Run) → Fits file run → AllByRecursion (Avoids 10) (run_lines file run)
run_clear file run fits =
    let a = file.automaton in
    let p = fits.pattern in
    let head = named_clear (codes "run ") (name_at (map pattern_name file.patterns) run.pattern) (avoids_known 10 (codes "run ") refl)
    (pattern_word file run.pattern (slice_get_within file.patterns run.pattern p fits.named)) in
    let body = each_of_body (Avoids 10) a p run.lines fits.lines (step_clear file run.pattern p fits.named) (avoids_known 10 (codes "end") refl) in
    let values = each_value_line (Avoids 10) (slots a) (values_of run) (λ s v is number. valued_clear s.word s.name v is.clear is.named number) (asked a)
    (values_natural file run fits) in
    subst (AllByRecursion (Avoids 10)) (sym (run_lines_are file run p fits.named))
    (head, each_append (Avoids 10) (value_lines (slots a) (values_of run)) (map (line_of a p) run.lines ++ (codes "end" ∷ [])) values body)

-- lines at the front of the text of lines are among them
lines_begin : (ms ls : List (List ℕ)) (rest : List ℕ) → AllByRecursion (Avoids 10) ms → AllByRecursion (Avoids 10) ls → lines_text ms ≡ lines_text ls ++ rest
    → (more : List (List ℕ)) × (ms ≡ ls ++ more) × (rest ≡ lines_text more)
lines_begin ms [] rest plain clean e = (ms, refl, sym e)
lines_begin [] ([] ∷ ls) rest plain clean e = cc
lines_begin [] ((b ∷ l) ∷ ls) rest plain clean e = cc
lines_begin (m ∷ ms) (l ∷ ls) rest plain clean e =
    let parts = first_byte 10 m l (lines_text ms) (lines_text ls ++ rest) plain.0 clean.0 (e ∙ append_assoc l (10 ∷ lines_text ls) rest) in
    let more = lines_begin ms ls rest plain.1 clean.1 parts.1 in
    let head = parts.0 in
    let tail = more.1 in
    (more.0, cc, more.2)

-- lines whose text is empty are none
no_lines : (ls : List (List ℕ)) → [] ≡ lines_text ls → ls ≡ []
no_lines [] e = refl
no_lines ([] ∷ ls) e = cc
no_lines ((b ∷ l) ∷ ls) e = cc

-- lines are determined by their text
lines_same : (ms ls : List (List ℕ)) → AllByRecursion (Avoids 10) ms → AllByRecursion (Avoids 10) ls → lines_text ms ≡ lines_text ls → ms ≡ ls
lines_same ms ls plain clean e =
    let found = lines_begin ms ls [] plain clean (e ∙ sym (append-nil (lines_text ls))) in
    found.1 ∙ ap (λ xs. ls ++ xs) (no_lines found.0 found.2) ∙ append-nil ls

-- values are determined by their lines
values_same : (ss : List Slot) (vs ws : List ℤ) → AllByRecursion IsAsked ss → length vs ≡ length ss → length ws ≡ length ss → AllByRecursion Value vs
    → AllByRecursion Value ws → value_lines ss vs ≡ value_lines ss ws → vs ≡ ws
values_same [] [] [] each all whole natural numbers e = refl
values_same [] [] (w ∷ ws) each all whole natural numbers e = absurd (omega arith)
values_same [] (v ∷ vs) ws each all whole natural numbers e = absurd (omega arith)
values_same (s ∷ ss) [] ws each all whole natural numbers e = absurd (omega arith)
values_same (s ∷ ss) (v ∷ vs) [] each all whole natural numbers e = absurd (omega arith)
values_same (s ∷ ss) (v ∷ vs) (w ∷ ws) each all whole natural numbers e =
    let head : valued_line s.word s.name v ≡ valued_line s.word s.name w = cc in
    let tail : value_lines ss vs ≡ value_lines ss ws = cc in
    let first = (valued_same s.word (valued_line s.word s.name v) s.name s.name v w record { spelled = each.0.named; number = natural.0; text = refl } record
    { spelled = each.0.named; number = numbers.0; text = head }).1 in
    let rest = values_same ss vs ws each.1 (omega arith) (omega arith) natural.1 numbers.1 tail in
    cc

-- a step or a mark is determined by its line
line_same : (file : File) (k : ℕ) (p : Pattern) (l m : RunLine) → slice_get file.patterns k ≡ Some p → LineFits file.automaton p l → LineFits file.automaton p m
    → line_of file.automaton p l ≡ line_of file.automaton p m → l ≡ m
line_same file k p (Step rule factor) (Step other times) named fits fit e =
    let a = file.automaton in
    let names = map name_of a.rules in
    let is = step_form a p rule factor (line_of a p (Step rule factor)) fits refl in
    let are = step_form a p other times (line_of a p (Step rule factor)) fit e in
    let same = valued_same (codes "step ") (line_of a p (Step rule factor)) (name_at names rule) (name_at names other) factor times is are in
    let count = length-map a.rules name_of in
    let low = fits.0 in
    let high = fit.0 in
    let rules_same = one_name names rule other a.shape.rules_distinct (omega arith) (omega arith) same.0 in
    ap (λ r. Step r factor) rules_same ∙ ap (λ z. Step other z) same.1
line_same file k p (Step rule factor) (Mark event) named fits fit e = absurd
    (differ 0 (line_of file.automaton p (Step rule factor)) (line_of file.automaton p (Mark event)) refl e)
line_same file k p (Mark event) (Step rule factor) named fits fit e = absurd
    (differ 0 (line_of file.automaton p (Mark event)) (line_of file.automaton p (Step rule factor)) refl e)
line_same file k p (Mark event) (Mark other) named fits fit e =
    let names = map event_name p.events in
    let called = append_cancel_left (codes "mark ") (name_at names event) (name_at names other) e in
    let count = length-map p.events event_name in
    let low : event < length p.events = fits in
    let high : other < length p.events = fit in
    ap Mark (one_name names event other (pattern_within file k p named).events_distinct (omega arith) (omega arith) called)

-- steps and marks are determined by their lines
steps_same : (file : File) (k : ℕ) (p : Pattern) (ls ms : List RunLine) → slice_get file.patterns k ≡ Some p → AllByRecursion (LineFits file.automaton p) ls
    → AllByRecursion (LineFits file.automaton p) ms → map (line_of file.automaton p) ls ≡ map (line_of file.automaton p) ms → ls ≡ ms
steps_same file k p [] [] named fits fit e = refl
steps_same file k p [] (m ∷ ms) named fits fit e = cc
steps_same file k p (l ∷ ls) [] named fits fit e = cc
steps_same file k p (l ∷ ls) (m ∷ ms) named fits fit e =
    let head : line_of file.automaton p l ≡ line_of file.automaton p m = cc in
    let tail : map (line_of file.automaton p) ls ≡ map (line_of file.automaton p) ms = cc in
    let first = line_same file k p l m named fits.0 fit.0 head in
    let rest = steps_same file k p ls ms named fits.1 fit.1 tail in
    cc

-- a run is its pattern, its values and its lines
pub run_same : (r s : Run) → r.pattern ≡ s.pattern → r.parameters ≡ s.parameters → r.counts ≡ s.counts → r.lines ≡ s.lines → r ≡ s
run_same r s pattern parameters counts lines =
    ap (λ k. record r { pattern = k }) pattern ∙ ap (λ vs. record r { pattern = s.pattern; parameters = vs }) parameters
    ∙ ap (λ vs. record r { pattern = s.pattern; parameters = s.parameters; counts = vs }) counts ∙ ap (λ ls. record s { lines = ls }) lines

-- a text is that of one run
pub one_run : (file : File) (bytes : List ℕ) (run other : Run) → IsRunText file run bytes → IsRunText file other bytes → other ≡ run
one_run file bytes run other is are =
    let a = file.automaton in
    let p = is.fits.pattern in
    let named = is.fits.named in
    let lines = lines_same (run_lines file other) (run_lines file run) (run_clear file other are.fits) (run_clear file run is.fits) (sym are.text ∙ is.text) in
    let here = run_lines_are file run p named in
    let known = same_pattern file other run.pattern p (behind_head a p (values_of run) run.lines) named are.fits (lines ∙ here) in
    let there = run_lines_are file other p known.1 in
    let whole = sym there ∙ lines ∙ here in
    let tail : behind_head a p (values_of other) other.lines ≡ behind_head a p (values_of run) run.lines = cc in
    let count = values_count file other are.fits in
    let counts = values_count file run is.fits in
    let natural = values_natural file other are.fits in
    let numbers = values_natural file run is.fits in
    let long = length-value_lines (slots a) (values_of other) (omega arith) in
    let longs = length-value_lines (slots a) (values_of run) (omega arith) in
    let parts = same_parts (value_lines (slots a) (values_of other)) (value_lines (slots a) (values_of run))
    (map (line_of a p) other.lines ++ (codes "end" ∷ [])) (map (line_of a p) run.lines ++ (codes "end" ∷ [])) (omega arith) tail in
    let values = values_same (slots a) (values_of other) (values_of run) (asked a) count counts natural numbers parts.0 in
    let first = are.fits.parameters in
    let second = is.fits.parameters in
    let halves = same_parts other.parameters run.parameters other.counts run.counts (omega arith) values in
    let bodies = (same_from_push (map (line_of a p) other.lines) (map (line_of a p) run.lines) (codes "end") (codes "end") parts.1).0 in
    run_same other run known.0 halves.0 halves.1 (steps_same file run.pattern p other.lines run.lines named known.2 is.fits.lines bodies)

-- the line of a step or a mark is no end
step_no_end : (a : Automaton) (p : Pattern) (l : RunLine) → LineFits a p l → IsNoEnd (line_of a p l)
step_no_end a p (Step rule factor) fits = differ 0 (line_of a p (Step rule factor)) (codes "end") refl
step_no_end a p (Mark event) fits = differ 0 (line_of a p (Mark event)) (codes "end") refl

-- the lines of a run but its last
pub front_lines : (file : File) (run : Run) → Fits file run → List (List ℕ)
front_lines file run fits = head_line file run.pattern ∷
    (value_lines (slots file.automaton) (values_of run) ++ map (line_of file.automaton fits.pattern) run.lines)

pub front_whole : (file : File) (run : Run) (fits : Fits file run) → run_lines file run ≡ front_lines file run fits ++ (codes "end" ∷ [])
unfolding front_lines
front_whole file run fits =
    let a = file.automaton in
    run_lines_are file run fits.pattern fits.named ∙ ap (λ xs. head_line file run.pattern ∷ xs)
    (sym (append_assoc (value_lines (slots a) (values_of run)) (map (line_of a fits.pattern) run.lines) (codes "end" ∷ [])))

each_step_no_end : (a : Automaton) (p : Pattern) (ls : List RunLine) → AllByRecursion (LineFits a p) ls → AllByRecursion IsNoEnd (map (line_of a p) ls)
each_step_no_end a p [] fit = tt
each_step_no_end a p (l ∷ ls) fit = (step_no_end a p l fit.0, each_step_no_end a p ls fit.1)

pub front_no_end : (file : File) (run : Run) (fits : Fits file run) → AllByRecursion IsNoEnd (front_lines file run fits)
unfolding front_lines
front_no_end file run fits =
    let a = file.automaton in
    let values = each_value_line IsNoEnd (slots a) (values_of run) (λ s v is number. is.no_end v) (asked a) (values_natural file run fits) in (
      differ 0 (head_line file run.pattern) (codes "end") refl,
      each_append IsNoEnd (value_lines (slots a) (values_of run))
          (map (line_of a fits.pattern) run.lines) values (each_step_no_end a fits.pattern run.lines fits.lines),
    )

-- no run goes on behind a whole one
pub not_longer : (file : File) (run other : Run) (next : List ℕ) (later : List (List ℕ)) → Fits file run → Fits file other
    → run_lines file run ≡ run_lines file other ++ (next ∷ later) → ⊥
not_longer file run other next later fits fit e =
    let front = front_lines file other fit in
    let lines = sym (front_whole file run fits) ∙ e ∙ ap (λ xs. xs ++ (next ∷ later)) (front_whole file other fit)
    ∙ append_assoc front (codes "end" ∷ []) (next ∷ later) in
    let none = last_only (codes "end") (front_lines file run fits) front (next ∷ later) (front_no_end file run fits) lines in
    cc

-- the form of the lines of steps and marks
step_formed : (file : File) (k : ℕ) (p : Pattern) → slice_get file.patterns k ≡ Some p → (l : RunLine) → LineFits file.automaton p l
    → FormFor None (line_of file.automaton p l)
step_formed file k p named (Step rule factor) fits = inl (
  name_at (map name_of file.automaton.rules) rule,
  factor,
  step_form file.automaton p rule factor (line_of file.automaton p (Step rule factor)) fits refl,
  fits.1,
)
step_formed file k p named (Mark event) fits = inr
    (inl (name_at (map event_name p.events) event, record { spelled = event_word file k p event named fits; text = refl }))

-- the form of a line behind the first
later_formed : (file : File) (run : Run) (p : Pattern) (ls : List (List ℕ)) (line : List ℕ) (later : List (List ℕ)) (found : Option Slot) → Fits file run
    → slice_get file.patterns run.pattern ≡ Some p → AllByRecursion (LineFits file.automaton p) run.lines
    → behind_head file.automaton p (values_of run) run.lines ≡ ls ++ (line ∷ later) → slice_get (slots file.automaton) (length ls) ≡ found → FormFor found line
later_formed file run p ls line later (Some slot) fits named fit e next =
    let a = file.automaton in
    let found = value_behind (slots a) (values_of run) (map (line_of a p) run.lines ++ (codes "end" ∷ [])) ls line later slot (values_count file run fits)
    (values_natural file run fits) next e in
    (slot.name, found.0, record { spelled = (each_at IsAsked (slots a) (length ls) slot (asked a) next).named; number = found.1; text = found.2 })
later_formed file run p ls line later None fits named fit e next =
    let a = file.automaton in
    body_behind (FormFor None) (slots a) (values_of run) (map (line_of a p) run.lines ++ (codes "end" ∷ [])) ls line later (values_count file run fits)
    (each_of_body (FormFor None) a p run.lines fit (step_formed file run.pattern p named) (inr (inr refl))) next e

-- the lines of a run have the forms of their places
pub run_formed : (file : File) (run : Run) (ls : List (List ℕ)) (line : List ℕ) (later : List (List ℕ)) → Fits file run → run_lines file run ≡ ls
    ++ (line ∷ later) → FormAt file.automaton (length ls) line
run_formed file run [] line later fits e =
    let head : head_line file run.pattern ≡ line = cc in (
      name_at (map pattern_name file.patterns) run.pattern,
      record
          { spelled = pattern_word file run.pattern (slice_get_within file.patterns run.pattern fits.pattern fits.named); text = sym head },
    )
run_formed file run (l ∷ ls) line later fits e =
    let p = fits.pattern in
    let whole = sym (run_lines_are file run p fits.named) ∙ e in
    let tail : behind_head file.automaton p (values_of run) run.lines ≡ ls ++ (line ∷ later) = cc in
    later_formed file run p ls line later (slice_get (slots file.automaton) (length ls)) fits fits.named fits.lines tail refl

-- no line that a run begins with has a line feed
pub begun_clear : (file : File) (ls : List (List ℕ)) → LinesGoOn file ls → AllByRecursion (Avoids 10) ls
begun_clear file ls (inl none) = subst (AllByRecursion (Avoids 10)) (sym none) tt
begun_clear file ls (inr front) = each_front (Avoids 10) ls (front.next ∷ front.later)
    (subst (AllByRecursion (Avoids 10)) front.lines (run_clear file front.run front.fits))

-- a whole run isn't lines that go on
not_whole : (file : File) (run : Run) (ls more : List (List ℕ)) → Fits file run → run_lines file run ≡ ls ++ more → more ≡ [] → LinesGoOn file ls → ⊥
not_whole file run ls more fits e none (inl empty) = let whole = e ∙ ap (λ xs. xs ++ more) empty ∙ none in cc
not_whole file run ls more fits e none (inr front) =
    let same : run_lines file run ≡ ls = e ∙ ap (λ xs. ls ++ xs) none ∙ append-nil ls in
    not_longer file front.run run front.next front.later front.fits fits (front.lines ∙ ap (λ xs. xs ++ (front.next ∷ front.later)) (sym same))

-- a text has lines, or none that end
unended_lines : (more : List (List ℕ)) (rest : List ℕ) → Avoids 10 rest → rest ≡ lines_text more → more ≡ []
unended_lines [] rest none e = refl
unended_lines (m ∷ ms) rest none e = absurd (not_parted 10 m (lines_text ms) rest none e)

-- a text that is a run's isn't malformed
unfaulted : (file : File) (run : Run) (ls more : List (List ℕ)) (rest : List ℕ) → Fits file run → run_lines file run ≡ ls ++ more → rest ≡ lines_text more
    → IsTrailingRun file ls rest ⊎ (IsUnfinishedRun file ls rest ⊎ IsMisformed file ls rest) → ⊥
unfaulted file run ls [] rest fits e text (inl trailing) = trailing.some text
unfaulted file run ls (m ∷ ms) rest fits e text (inl trailing) =
    let whole = trailing.whole in
    not_longer file run whole.run m ms fits whole.fits (e ∙ ap (λ xs. xs ++ (m ∷ ms)) (sym whole.lines))
unfaulted file run ls more rest fits e text (inr (inl unfinished)) = not_whole file run ls more fits e (unended_lines more rest unfinished.no_feed text)
    unfinished.begun
unfaulted file run ls [] rest fits e text (inr (inr misformed)) = not_whole file run ls [] fits e refl misformed.begun
unfaulted file run ls (m ∷ ms) rest fits e text (inr (inr misformed)) =
    let plain = (each_back (Avoids 10) ls (m ∷ ms) (subst (AllByRecursion (Avoids 10)) e (run_clear file run fits))).0 in
    let parts = first_byte 10 m misformed.line (lines_text ms) misformed.behind plain misformed.no_feed (sym text ∙ misformed.next) in
    misformed.other (subst (FormAt file.automaton (length ls)) parts.0 (run_formed file run ls m ms fits e))

-- the lines before an error have no line feed
pub fault_clear : (file : File) (ls : List (List ℕ)) (rest : List ℕ) → IsTrailingRun file ls rest ⊎ (IsUnfinishedRun file ls rest ⊎ IsMisformed file ls rest)
    → AllByRecursion (Avoids 10) ls
fault_clear file ls rest (inl trailing) = let whole = trailing.whole in subst (AllByRecursion (Avoids 10)) whole.lines (run_clear file whole.run whole.fits)
fault_clear file ls rest (inr (inl unfinished)) = begun_clear file ls unfinished.begun
fault_clear file ls rest (inr (inr misformed)) = begun_clear file ls misformed.begun

not_malformed : (file : File) (run : Run) (bytes : List ℕ) (n : ℕ) → IsRunText file run bytes → IsMalformedRun file bytes n → ⊥
not_malformed file run bytes n is bad =
    let found = lines_begin (run_lines file run) bad.ls bad.rest (run_clear file run is.fits) (fault_clear file bad.ls bad.rest bad.fault)
    (sym is.text ∙ bad.text) in
    unfaulted file run bad.ls found.0 bad.rest is.fits found.1 found.2 bad.fault

-- a line of a form has no line feed
form_clear : (found : Option Slot) → ((s : Slot) → found ≡ Some s → IsAsked s) → (line : List ℕ) → FormFor found line → Avoids 10 line
form_clear (Some slot) known line (name, value, is) = subst (Avoids 10) (sym is.text)
    (valued_clear slot.word name value (known slot refl).clear is.spelled is.number)
form_clear None known line (inl (name, value, is, some)) = subst (Avoids 10) (sym is.text)
    (valued_clear (codes "step ") name value (avoids_known 10 (codes "step ") refl) is.spelled is.number)
form_clear None known line (inr (inl (name, is))) = subst (Avoids 10) (sym is.text)
    (named_clear (codes "mark ") name (avoids_known 10 (codes "mark ") refl) is.spelled)
form_clear None known line (inr (inr e)) = subst (Avoids 10) (sym e) (avoids_known 10 (codes "end") refl)

pub formed_clear : (a : Automaton) (n : ℕ) (line : List ℕ) → FormAt a n line → Avoids 10 line
formed_clear a zero line form = subst (Avoids 10) (sym form.1.text) (named_clear (codes "run ") form.0 (avoids_known 10 (codes "run ") refl) form.1.spelled)
formed_clear a (suc n) line form = form_clear (slice_get (slots a) n) (λ s e. each_at IsAsked (slots a) n s (asked a) e) line form

-- a run goes on with the line that stands there
misnamed_line : (file : File) (run : Run) (ls more : List (List ℕ)) (line behind : List ℕ) → Fits file run → run_lines file run ≡ ls ++ more → line
    ++ (10 ∷ behind) ≡ lines_text more → LinesGoOn file ls → Avoids 10 line
    → ((other : Run) (later : List (List ℕ)) → Fits file other → run_lines file other ≡ ls ++ (line ∷ later) → ⊥) → ⊥
misnamed_line file run ls [] line behind fits e text begun plain unnamed = not_whole file run ls [] fits e refl begun
misnamed_line file run ls (m ∷ ms) line behind fits e text begun plain unnamed =
    let clean = (each_back (Avoids 10) ls (m ∷ ms) (subst (AllByRecursion (Avoids 10)) e (run_clear file run fits))).0 in
    let parts = first_byte 10 line m behind (lines_text ms) plain clean text in
    unnamed run ms fits (e ∙ ap (λ l. ls ++ (l ∷ ms)) (sym parts.0))

-- a text that is a run's isn't misnamed
not_misnamed : (file : File) (run : Run) (bytes : List ℕ) (n : ℕ) → IsRunText file run bytes → IsMisnamed file bytes n → ⊥
not_misnamed file run bytes n is bad =
    let found = lines_begin (run_lines file run) bad.ls (bad.line ++ (10 ∷ bad.behind)) (run_clear file run is.fits) (begun_clear file bad.ls bad.begun)
    (sym is.text ∙ bad.text) in
    misnamed_line file run bad.ls found.0 bad.line bad.behind is.fits found.1 found.2 bad.begun (formed_clear file.automaton (length bad.ls) bad.line bad.form)
    bad.unnamed

-- a text that is a run's has no error
pub no_fault : (file : File) (run : Run) (bytes : List ℕ) (e : RunFault) → IsRunText file run bytes → TextFault file bytes e → e ≡ fault.Memory
no_fault file run bytes (fault.Line n) is bad = absurd (not_malformed file run bytes n is bad)
no_fault file run bytes (fault.Name n) is bad = absurd (not_misnamed file run bytes n is bad)
no_fault file run bytes fault.Memory is bad = refl
no_fault file run bytes _ is bad = absurd bad
