-- The first error of a text.
use Rattle.ta_replay.proofs.Common.{ℕ, ℤ, zero, suc, pos, ◌+◌, ◌-◌, ◌<◌, ◌≡◌, ◌≢◌, ◌⊎◌, List, [], ◌∷◌, ◌++◌, length, map, replicate, refl, sym, ap, subst, ◌∙◌}
use Rattle.ta_replay.proofs.Common.{Some, None, Option, inl, inr, append_assoc, length-append, arith, codes, length-map, length-replicate, append_cancel_left}
use Rattle.ta_replay.proofs.Common.{slice_get_within, slice_get_past, AllByRecursion, each_append, each_at, some_at, Automaton, Pattern, File, pattern_name}
use Rattle.ta_replay.proofs.Common.{Value, Run, RunLine, RunFault, Fits, LineFits, Slot, name_at, valued_line, slots, value_lines, line_of, head_line}
use Rattle.ta_replay.proofs.Common.{run_lines, lines_text, IsValued, FormFor, IsFront, IsMalformedRun, IsMisnamed, TextFault, Avoids, SplitAt, HeadRead}
use Rattle.ta_replay.proofs.Common.{NoValue, OtherValue, ValueRefused, ValuesRead, ValuesStopped, ValuesFault, IsStatement, StatementRefused, StepRefused}
use Rattle.ta_replay.proofs.Common.{StepsBegun, StepsStopped, StepsFault, Unfinished, Refused, Trailing, slice_get}
use Rattle.ta_replay.specs.declared.fault.RunFault.TheVariants as fault
use Rattle.ta_replay.proofs.NumberedNames.{one_name}
use Rattle.ta_replay.proofs.ListSteps.{read_more, read_both}
use Rattle.ta_replay.proofs.Decimals.{value_is}
use Rattle.ta_replay.proofs.Forms.{valued_same}
use Rattle.ta_replay.proofs.ValueLines.{length-value_lines}
use Rattle.ta_replay.proofs.RunFacts.{IsAsked, asked, values_of, values_count, values_natural, behind_head, run_lines_are, run_of, run_of_fits, run_of_lines}
use Rattle.ta_replay.proofs.RunFacts.{value_behind, body_behind, each_of_body}

-- zeros are values
zeros_natural : (n : ℕ) → AllByRecursion Value (replicate n (pos 0))
zeros_natural zero = tt
zeros_natural (suc n) = (value_is 0 (omega arith), zeros_natural n)

-- further values have further lines
zeros_behind : (ss : List Slot) (values : List ℤ) (n : ℕ) (slot : Slot) → slice_get ss (length values) ≡ Some slot → (more : List (List ℕ))
    × (value_lines ss (values ++ (pos 0 ∷ replicate n (pos 0))) ≡ value_lines ss values ++ (valued_line slot.word slot.name (pos 0) ∷ more))
zeros_behind [] values n slot next = cc
zeros_behind (s ∷ ss) [] n slot next = let same : s ≡ slot = cc in
    (value_lines ss (replicate n (pos 0)), ap (λ t. valued_line t.word t.name (pos 0) ∷ value_lines ss (replicate n (pos 0))) same)
zeros_behind (s ∷ ss) (v ∷ vs) n slot next = let more = zeros_behind ss vs n slot next in (more.0, ap (λ xs. valued_line s.word s.name v ∷ xs) more.1)

-- a run begins with the lines of its first values
values_front : (file : File) (k : ℕ) (values : List ℤ) (slot : Slot) → k < length file.patterns → AllByRecursion Value values
    → slice_get (slots file.automaton) (length values) ≡ Some slot → IsFront file (head_line file k ∷ value_lines (slots file.automaton) values)
values_front file k values slot exists natural next =
    let a = file.automaton in
    let p = some_at file.patterns k exists in
    let within = slice_get_within (slots a) (length values) slot next in
    let n = length (slots a) - length values - 1 in
    let all = values ++ (pos 0 ∷ replicate n (pos 0)) in
    let count : length all ≡ length (slots a) = omega (arith, length-append values (pos 0 ∷ replicate n (pos 0)), length-replicate n (pos 0)) in
    let more = zeros_behind (slots a) values n slot next in
    let next_line = valued_line slot.word slot.name (pos 0) in
    record {
      run = run_of a k all [];
      next = next_line;
      later = more.0 ++ (codes "end" ∷ []);
      fits = run_of_fits file k p.0 all [] p.1 count
          (each_append Value values (pos 0 ∷ replicate n (pos 0)) natural (value_is 0 (omega arith), zeros_natural n)) tt;
      lines = run_of_lines file k p.0 all [] p.1 ∙ ap (λ xs. head_line file k ∷ (xs ++ (codes "end" ∷ []))) more.1
          ∙ ap (λ xs. head_line file k ∷ xs) (append_assoc (value_lines (slots a) values) (next_line ∷ more.0) (codes "end" ∷ []));
    }

-- a run begins with the lines of its values and of its first steps and marks
steps_front : (file : File) (k : ℕ) (p : Pattern) (values : List ℤ) (lines : List RunLine) → slice_get file.patterns k ≡ Some p
    → length values ≡ length (slots file.automaton) → AllByRecursion Value values → AllByRecursion (LineFits file.automaton p) lines
    → IsFront file (head_line file k ∷ (value_lines (slots file.automaton) values ++ map (line_of file.automaton p) lines))
steps_front file k p values lines named count natural fit =
    let a = file.automaton in
    record {
      run = run_of a k values lines;
      next = codes "end";
      later = [];
      fits = run_of_fits file k p values lines named count natural fit;
      lines = run_of_lines file k p values lines named
          ∙ ap (λ xs. head_line file k ∷ xs) (sym (append_assoc (value_lines (slots a) values) (map (line_of a p) lines) (codes "end" ∷ [])));
    }

-- the text of the first line and those behind it
pub with_head : (file : File) (bytes r1 rest : List ℕ) (k : ℕ) (ls : List (List ℕ)) → HeadRead file bytes k r1 → r1 ≡ lines_text ls ++ rest
    → bytes ≡ lines_text (head_line file k ∷ ls) ++ rest
with_head file bytes r1 rest k ls head read = head.read ∙ ap (λ xs. head_line file k ++ (10 ∷ xs)) read
    ∙ sym (append_assoc (head_line file k) (10 ∷ lines_text ls) rest)

-- some values are read behind the first line, and another is asked for
record AtValue (file : File) (bytes : List ℕ) (k : ℕ) (values : List ℤ) (slot : Slot) (rest : List ℕ) : Type 0 where
  exists : k < length file.patterns
  numbers : AllByRecursion Value values
  next : slice_get (slots file.automaton) (length values) ≡ Some slot
  read : bytes ≡ lines_text (head_line file k ∷ value_lines (slots file.automaton) values) ++ rest

-- the lines so far
value_front : (file : File) (bytes : List ℕ) (k : ℕ) (values : List ℤ) (slot : Slot) (rest : List ℕ) → AtValue file bytes k values slot rest
    → IsFront file (head_line file k ∷ value_lines (slots file.automaton) values)
value_front file bytes k values slot rest at = values_front file k values slot at.exists at.numbers at.next

-- how many they are
value_place : (file : File) (bytes : List ℕ) (k : ℕ) (values : List ℤ) (slot : Slot) (rest : List ℕ) → AtValue file bytes k values slot rest
    → length (value_lines (slots file.automaton) values) ≡ length values
value_place file bytes k values slot rest at = let within = slice_get_within (slots file.automaton) (length values) slot at.next in length-value_lines
    (slots file.automaton) values (omega arith)

-- the slot of the next line
value_next : (file : File) (bytes : List ℕ) (k : ℕ) (values : List ℤ) (slot : Slot) (rest : List ℕ) → AtValue file bytes k values slot rest
    → slice_get (slots file.automaton) (length (value_lines (slots file.automaton) values)) ≡ Some slot
value_next file bytes k values slot rest at = ap (slice_get (slots file.automaton)) (value_place file bytes k values slot rest at) ∙ at.next

-- the next line isn't of its form
value_malformed : (file : File) (bytes : List ℕ) (k : ℕ) (values : List ℤ) (slot : Slot) (rest : List ℕ) (n : ℕ) → AtValue file bytes k values slot rest
    → n ≡ 2 + length values → Avoids 10 rest ⊎ NoValue slot.word rest → IsMalformedRun file bytes n
value_malformed file bytes k values slot rest n at place (inl none) =
    let same = value_place file bytes k values slot rest at in
    record {
      ls = head_line file k ∷ value_lines (slots file.automaton) values;
      rest = rest;
      text = at.read;
      fault = inr (inl record { begun = inr (value_front file bytes k values slot rest at); no_feed = none });
      place = omega arith;
    }
value_malformed file bytes k values slot rest n at place (inr missing) =
    let same = value_place file bytes k values slot rest at in
    let next = value_next file bytes k values slot rest at in
    record {
      ls = head_line file k ∷ value_lines (slots file.automaton) values;
      rest = rest;
      text = at.read;
      fault = inr (inr record {
        line = missing.line;
        behind = missing.behind;
        begun = inr (value_front file bytes k values slot rest at);
        next =
            missing.split.split;
        no_feed = missing.split.first;
        other = λ form. missing.other (subst (λ o. FormFor o missing.line) next form);
      });
      place = omega arith;
    }

-- the next line gives another name
value_misnamed : (file : File) (bytes : List ℕ) (k : ℕ) (values : List ℤ) (slot : Slot) (rest : List ℕ) (n : ℕ) → AtValue file bytes k values slot rest
    → n ≡ 2 + length values → OtherValue slot.word slot.name rest → IsMisnamed file bytes n
value_misnamed file bytes k values slot rest n at place other =
    let a = file.automaton in
    let ls = value_lines (slots a) values in
    let same = value_place file bytes k values slot rest at in
    let next = value_next file bytes k values slot rest at in
    record {
      ls = head_line file k ∷ ls;
      line = other.line;
      behind = other.behind;
      text = at.read ∙ ap (λ xs. lines_text (head_line file k ∷ ls) ++ xs) other.next;
      begun = inr (value_front file bytes k values slot rest at);
      form = subst (λ o. FormFor o other.line) (sym next) (other.name, other.value, other.is);
      unnamed = λ run later fits lines.
          let p = fits.pattern in
          let whole = sym (run_lines_are file run p fits.named) ∙ lines in
          let tail : behind_head a p (values_of run) run.lines ≡ ls ++ (other.line ∷ later) = cc in
          let found = value_behind (slots a) (values_of run) (map (line_of a p) run.lines ++ (codes "end" ∷ [])) ls other.line later slot
          (values_count file run fits) (values_natural file run fits) next tail in
          let is : IsValued slot.word other.line slot.name found.0 = record
          { spelled = (each_at IsAsked (slots a) (length values) slot (asked a) at.next).named; number = found.1; text = found.2 } in
          other.other (valued_same slot.word other.line other.name slot.name other.value found.0 other.is is).0;
      place = omega arith;
    }

-- why the next value isn't read
value_fault : (file : File) (bytes : List ℕ) (k : ℕ) (values : List ℤ) (slot : Slot) (rest : List ℕ) (e : RunFault) → AtValue file bytes k values slot rest
    → ValueRefused slot.word slot.name rest (2 + length values) e → TextFault file bytes e
value_fault file bytes k values slot rest (fault.Line n) at refused = value_malformed file bytes k values slot rest n at refused.0 refused.1
value_fault file bytes k values slot rest (fault.Name n) at refused = value_misnamed file bytes k values slot rest n at refused.0 refused.1
value_fault file bytes k values slot rest _ at refused = absurd refused

-- why not all values are read
values_stopped : (file : File) (bytes r1 : List ℕ) (k : ℕ) (e : RunFault) → HeadRead file bytes k r1 → ValuesStopped (slots file.automaton) r1 2 e
    → TextFault file bytes e
values_stopped file bytes r1 k e head s =
    value_fault file bytes k s.values s.slot s.rest e record {
      exists = head.exists;
      numbers = s.begun.numbers;
      next = s.next;
      read = with_head file bytes r1 s.rest k (value_lines (slots file.automaton) s.values)
          head s.begun.read;
    } s.refused

pub values_fault : (file : File) (bytes r1 : List ℕ) (k : ℕ) (e : RunFault) → HeadRead file bytes k r1 → ValuesFault (slots file.automaton) r1 2 e
    → TextFault file bytes e
values_fault file bytes r1 k fault.Memory head stopped = tt
values_fault file bytes r1 k e head stopped = values_stopped file bytes r1 k e head stopped

-- all values are read behind the first line, and then some steps and marks
pub record AtStep (file : File) (bytes : List ℕ) (k : ℕ) (p : Pattern) (values : List ℤ) (lines : List RunLine) (rest : List ℕ) : Type 0 where
  pub named : slice_get file.patterns k ≡ Some p
  pub count : length values ≡ length (slots file.automaton)
  pub numbers : AllByRecursion Value values
  pub fit : AllByRecursion (LineFits file.automaton p) lines
  pub read : bytes ≡ lines_text (head_line file k ∷ (value_lines (slots file.automaton) values ++ map (line_of file.automaton p) lines)) ++ rest

-- the lines behind the first
abbrev later_lines : Automaton → Pattern → List ℤ → List RunLine → List (List ℕ)
later_lines a p values lines = value_lines (slots a) values ++ map (line_of a p) lines

step_place : (file : File) (bytes : List ℕ) (k : ℕ) (p : Pattern) (values : List ℤ) (lines : List RunLine) (rest : List ℕ)
    → AtStep file bytes k p values lines rest → length (later_lines file.automaton p values lines) ≡ length (slots file.automaton) + length lines
step_place file bytes k p values lines rest at =
    let a = file.automaton in
    let count = at.count in
    let vs = length-value_lines (slots a) values (omega arith) in
    let ms = length-map lines (line_of a p) in
    length-append (value_lines (slots a) values) (map (line_of a p) lines) ∙ ap (λ n. n + length (map (line_of a p) lines)) (vs ∙ count)
    ∙ ap (λ n. length (slots a) + n) ms

-- no value is asked for in the next line
step_next : (file : File) (bytes : List ℕ) (k : ℕ) (p : Pattern) (values : List ℤ) (lines : List RunLine) (rest : List ℕ)
    → AtStep file bytes k p values lines rest → slice_get (slots file.automaton) (length (later_lines file.automaton p values lines)) ≡ None
step_next file bytes k p values lines rest at = let place = step_place file bytes k p values lines rest at in slice_get_past (slots file.automaton)
    (length (later_lines file.automaton p values lines)) (omega arith)

step_front : (file : File) (bytes : List ℕ) (k : ℕ) (p : Pattern) (values : List ℤ) (lines : List RunLine) (rest : List ℕ)
    → AtStep file bytes k p values lines rest → IsFront file (head_line file k ∷ later_lines file.automaton p values lines)
step_front file bytes k p values lines rest at = steps_front file k p values lines at.named at.count at.numbers at.fit

-- the next line is unfinished
step_unfinished : (file : File) (bytes : List ℕ) (k : ℕ) (p : Pattern) (values : List ℤ) (lines : List RunLine) (rest : List ℕ) (n : ℕ)
    → AtStep file bytes k p values lines rest → n ≡ 2 + length values + length lines → Avoids 10 rest → IsMalformedRun file bytes n
step_unfinished file bytes k p values lines rest n at place none =
    let same = step_place file bytes k p values lines rest at in
    let count = at.count in
    record {
      ls = head_line file k ∷ later_lines file.automaton p values lines;
      rest = rest;
      text = at.read;
      fault = inr (inl record { begun = inr (step_front file bytes k p values lines rest at); no_feed = none });
      place = omega arith;
    }

-- the next line has no form of its place
step_misformed : (file : File) (bytes : List ℕ) (k : ℕ) (p : Pattern) (values : List ℤ) (lines : List RunLine) (rest line behind : List ℕ) (n : ℕ)
    → AtStep file bytes k p values lines rest → n ≡ 2 + length values + length lines → SplitAt 10 rest line behind → (FormFor None line → ⊥)
    → IsMalformedRun file bytes n
step_misformed file bytes k p values lines rest line behind n at place parted other =
    let same = step_place file bytes k p values lines rest at in
    let next = step_next file bytes k p values lines rest at in
    let count = at.count in
    record {
      ls = head_line file k ∷ later_lines file.automaton p values lines;
      rest = rest;
      text = at.read;
      fault = inr (inr record {
        line = line;
        behind = behind;
        begun = inr (step_front file bytes k p values lines rest at);
        next = parted.split;
        no_feed =
            parted.first;
        other = λ form. other (subst (λ o. FormFor o line) next form);
      });
      place = omega arith;
    }

-- lines that begin with the line of a pattern are of a run of that pattern
pub same_pattern : (file : File) (run : Run) (k : ℕ) (p : Pattern) (ls : List (List ℕ)) → slice_get file.patterns k ≡ Some p → Fits file run
    → run_lines file run ≡ head_line file k ∷ ls → (run.pattern ≡ k) × (slice_get file.patterns run.pattern ≡ Some p)
    × AllByRecursion (LineFits file.automaton p) run.lines
same_pattern file run k p ls named fits e =
    let names = map pattern_name file.patterns in
    let heads : head_line file run.pattern ≡ head_line file k = cc in
    let called = append_cancel_left (codes "run ") (name_at names run.pattern) (name_at names k) heads in
    let low = slice_get_within file.patterns run.pattern fits.pattern fits.named in
    let high = slice_get_within file.patterns k p named in
    let count = length-map file.patterns pattern_name in
    let same = one_name names run.pattern k file.shape.distinct (omega arith) (omega arith) called in
    let here = ap (slice_get file.patterns) same ∙ named in
    let whole = fits.named in
    let one : fits.pattern ≡ p = cc in
    (same, here, subst (λ q. AllByRecursion (LineFits file.automaton q) run.lines) one fits.lines)

-- no run goes on with the next line
step_misnamed : (file : File) (bytes : List ℕ) (k : ℕ) (p : Pattern) (values : List ℤ) (lines : List RunLine) (rest line behind : List ℕ) (n : ℕ)
    → AtStep file bytes k p values lines rest → n ≡ 2 + length values + length lines → SplitAt 10 rest line behind → FormFor None line
    → ((found : Option RunLine) → IsStatement file.automaton p line found → ⊥) → IsMisnamed file bytes n
step_misnamed file bytes k p values lines rest line behind n at place parted form none =
    let a = file.automaton in
    let ls = later_lines a p values lines in
    let same = step_place file bytes k p values lines rest at in
    let next = step_next file bytes k p values lines rest at in
    let count = at.count in
    record {
      ls = head_line file k ∷ ls;
      line = line;
      behind = behind;
      text = at.read ∙ ap (λ xs. lines_text (head_line file k ∷ ls) ++ xs) parted.split;
      begun = inr (step_front file bytes k p values lines rest at);
      form = subst (λ o. FormFor o line) (sym next) form;
      unnamed = λ run later fits e.
          let known = same_pattern file run k p (ls ++ (line ∷ later)) at.named fits e in
          let whole = sym (run_lines_are file run p known.1) ∙ e in
          let tail : behind_head a p (values_of run) run.lines ≡ ls ++ (line ∷ later) = cc in
          let each = each_of_body (λ l. (found : Option RunLine) × IsStatement a p l found) a p run.lines known.2 (λ l is. (Some l, (is, refl))) (None, refl) in
          let found = body_behind (λ l. (found : Option RunLine) × IsStatement a p l found) (slots a) (values_of run)
          (map (line_of a p) run.lines ++ (codes "end" ∷ [])) ls line later (values_count file run fits) each next tail in
          none found.0 found.1;
      place = omega arith;
    }

-- more stands behind the end
step_trailing : (file : File) (bytes : List ℕ) (k : ℕ) (p : Pattern) (values : List ℤ) (lines : List RunLine) (rest behind : List ℕ) (n : ℕ)
    → AtStep file bytes k p values lines rest → n ≡ 2 + length values + length lines + 1 → rest ≡ codes "end" ++ (10 ∷ behind) → behind ≢ []
    → IsMalformedRun file bytes n
step_trailing file bytes k p values lines rest behind n at place end some =
    let a = file.automaton in
    let ls = later_lines a p values lines in
    let same = step_place file bytes k p values lines rest at in
    let count = at.count in
    let longer = length-append ls (codes "end" ∷ []) in
    record {
      ls = head_line file k ∷ (ls ++ (codes "end" ∷ []));
      rest = behind;
      text = read_more bytes rest (codes "end") behind (head_line file k ∷ ls) at.read end;
      fault = inl record {
        whole = record {
          run = run_of a k values lines;
          fits = run_of_fits file k p values lines at.named at.count at.numbers at.fit;
          lines = run_of_lines file k p values lines at.named
              ∙ ap (λ xs. head_line file k ∷ xs) (sym (append_assoc (value_lines (slots a) values) (map (line_of a p) lines) (codes "end" ∷ [])));
        };
        some = some;
      };
      place = omega arith;
    }

-- the next line is no step or mark
step_refused : (file : File) (bytes : List ℕ) (k : ℕ) (p : Pattern) (values : List ℤ) (lines : List RunLine) (rest line behind : List ℕ) (number : ℕ)
    (e : RunFault) → AtStep file bytes k p values lines rest → number ≡ 2 + length values + length lines → SplitAt 10 rest line behind
    → StatementRefused file.automaton p line number e → TextFault file bytes e
step_refused file bytes k p values lines rest line behind number (fault.Line n) at place parted r = step_misformed file bytes k p values lines rest line behind
    n at (r.0 ∙ place) parted r.1
step_refused file bytes k p values lines rest line behind number (fault.Name n) at place parted r = step_misnamed file bytes k p values lines rest line behind n
    at (r.0 ∙ place) parted r.1 r.2
step_refused file bytes k p values lines rest line behind number _ at place parted r = absurd r

-- why the next line isn't read
step_fault : (file : File) (bytes : List ℕ) (k : ℕ) (p : Pattern) (values : List ℤ) (lines : List RunLine) (rest : List ℕ) (number : ℕ) (e : RunFault)
    → AtStep file bytes k p values lines rest → number ≡ 2 + length values + length lines → StepRefused file.automaton p rest number e → TextFault file bytes e
step_fault file bytes k p values lines rest number e at place (Unfinished is none) = subst (TextFault file bytes) (sym is)
    (step_unfinished file bytes k p values lines rest number at place none)
step_fault file bytes k p values lines rest number e at place (Refused line behind parted r) = step_refused file bytes k p values lines rest line behind number
    e at place parted r
step_fault file bytes k p values lines rest number e at place (Trailing behind is end some) = subst (TextFault file bytes) (sym is)
    (step_trailing file bytes k p values lines rest behind (number + 1) at (ap (λ m. m + 1) place) end some)

-- the first line and the values are read
pub at_steps : (file : File) (bytes r1 r2 rest : List ℕ) (k : ℕ) (p : Pattern) (values : List ℤ) (lines : List RunLine) → HeadRead file bytes k r1
    → slice_get file.patterns k ≡ Some p → ValuesRead (slots file.automaton) r1 values r2 → StepsBegun file.automaton p r2 lines rest
    → AtStep file bytes k p values lines rest
at_steps file bytes r1 r2 rest k p values lines head named read begun = record {
  named = named;
  count = read.all;
  numbers = read.begun.numbers;
  fit = begun.fit;
  read = with_head file bytes r1 rest k (later_lines file.automaton p values lines) head
      (read_both r1 r2 rest (value_lines (slots file.automaton) values) (map (line_of file.automaton p) lines) read.begun.read begun.read);
}

steps_stopped : (file : File) (bytes r1 r2 : List ℕ) (k first : ℕ) (p : Pattern) (values : List ℤ) (e : RunFault) → HeadRead file bytes k r1
    → slice_get file.patterns k ≡ Some p → ValuesRead (slots file.automaton) r1 values r2 → first ≡ 2 + length values → StepsStopped file.automaton p r2 first e
    → TextFault file bytes e
steps_stopped file bytes r1 r2 k first p values e head named read place s =
    step_fault file bytes k p values s.lines s.rest (first + length s.lines) e (at_steps file bytes r1 r2 s.rest k p values s.lines head named read s.begun)
    (ap (λ n. n + length s.lines) place) s.refused

-- why the steps and marks aren't read to the end
pub steps_fault : (file : File) (bytes r1 r2 : List ℕ) (k first : ℕ) (p : Pattern) (values : List ℤ) (e : RunFault) → HeadRead file bytes k r1
    → slice_get file.patterns k ≡ Some p → ValuesRead (slots file.automaton) r1 values r2 → first ≡ 2 + length values → StepsFault file.automaton p r2 first e
    → TextFault file bytes e
steps_fault file bytes r1 r2 k first p values fault.Memory head named read place s = tt
steps_fault file bytes r1 r2 k first p values e head named read place s = steps_stopped file bytes r1 r2 k first p values e head named read place s
