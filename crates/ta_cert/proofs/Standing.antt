-- What is read is what was written.
use Rattle.ta_cert.proofs.Common.{ℕ, ◌+◌, ◌<◌, ◌≤◌, ◌≡◌, ◌==◌, ◌||◌, Bool, true, false, not, nat_lt, beq, if◌then◌else◌, List, [], ◌∷◌, ◌++◌, length}
use Rattle.ta_cert.proofs.Common.{Option, None, Some, Ok, Err, Result, refl, sym, ap, subst, ◌∙◌, append_assoc, append-nil, length-append, arith, rules, tests}
use Rattle.ta_cert.proofs.Common.{false≢true, or_parts, or-false, whole_more, IsLine, cert_lines_text, has_end, is_end, is_header, line_text, AreLater}
use Rattle.ta_cert.proofs.Common.{AreLines, IsWhole, has_line, line_number, numbered_lines, unnumbered, Outcome, State, add_lines, behind_line, end_of}
use Rattle.ta_cert.proofs.Common.{ended_by, failed, finish, finished, line_feed, text_lines, on, other_byte, start, step, steps, Line, CertFault}
use Rattle.ta_cert.specs.declared.fault.CertFault.TheVariants as fault
use Rattle.ta_cert.specs.Lines.{line_of}
use Rattle.ta_cert.proofs.LinesRead.{line_sound}
use Rattle.ta_cert.proofs.Writing.{lines_text-append}

-- a text stands behind these lines, which may stand where they stand, and a line has at most this many bytes
pub record StandsAt (limit : ℕ) (s : State) (text : List ℕ) (ls : List Line) : Type 0 where
  pub limited : s.line_bytes ≡ limit
  pub whole : text ≡ cert_lines_text ls ++ s.line
  pub legal : AreLines limit ls
  pub short : length s.line ≤ limit
  pub number : s.number ≡ line_number (length ls)
  pub begun : s.begun ≡ has_line ls
  pub ended : s.ended ≡ has_end ls
  pub none : s.ended ≡ true → s.line ≡ []

-- ---- one line more

has_end_push : (ls : List Line) (l : Line) → has_end ls ≡ false → has_end (ls ++ (l ∷ [])) ≡ is_end l
has_end_push [] l going_on = or-false (is_end l)
has_end_push (m ∷ ls) l going_on =
    let parts = or_parts (is_end m) (has_end ls) going_on in
    ap (λ b. b || has_end (ls ++ (l ∷ []))) parts.0 ∙ has_end_push ls l parts.1

has_line_push : (ls : List Line) (l : Line) → has_line (ls ++ (l ∷ [])) ≡ true
has_line_push [] l = refl
has_line_push (m ∷ ls) l = refl

later_push : (limit : ℕ) (ls : List Line) (l : Line) → AreLater limit ls → has_end ls ≡ false → IsLine l → length (line_text l) ≤ limit
    → is_header l ≡ false → AreLater limit (ls ++ (l ∷ []))
later_push limit [] l later going_on form short other = (form, short, other, λ _. refl, tt)
later_push limit (m ∷ ls) l later going_on form short other =
    let parts = or_parts (is_end m) (has_end ls) going_on in
    (later.0, later.1, later.2, λ ends. absurd (false≢true (sym parts.0 ∙ ends)), later_push limit ls l later.4 parts.1 form short other)

legal_push : (limit : ℕ) (ls : List Line) (l : Line) → AreLines limit ls → has_end ls ≡ false → IsLine l → length (line_text l) ≤ limit
    → is_header l ≡ not (has_line ls) → AreLines limit (ls ++ (l ∷ []))
legal_push limit [] l legal going_on form short header = ((form, short, header), tt)
legal_push limit (m ∷ ls) l legal going_on form short header =
    (legal.0, later_push limit ls l legal.1 (or_parts (is_end m) (has_end ls) going_on).1 form short header)

numbered-append : (n : ℕ) (ls ms : List Line) → numbered_lines n (ls ++ ms) ≡ numbered_lines n ls ++ numbered_lines (n + length ls) ms
numbered-append n [] ms = let e : n + 0 ≡ n = omega arith in ap (λ k. numbered_lines k ms) (sym e)
numbered-append n (l ∷ ls) ms =
    let e : n + 1 + length ls ≡ n + length (l ∷ ls) = omega arith in
    ap (λ xs. (line_number n, l) ∷ xs) (numbered-append (n + 1) ls ms ∙ ap (λ k. numbered_lines (n + 1) ls ++ numbered_lines k ms) e)

place_is : (a b : Bool) → beq a b ≡ false → a ≡ not b
place_is true true e = absurd (false≢true (sym e))
place_is true false e = refl
place_is false true e = refl
place_is false false e = absurd (false≢true (sym e))

-- ---- what becomes of a text of these lines

-- lines were read behind these, and where the text stands then; or it has an error
stood : ℕ → List ℕ → List Line → List (ℕ × Line) → Result State CertFault → Type 0
stood limit text ls out (Ok t) = (more : List Line) × StandsAt limit t text (ls ++ more) × (out ≡ numbered_lines (length ls) more)
stood limit text ls out (Err e) = Unit {0}

Stood : ℕ → List ℕ → List Line → Outcome → Type 0
Stood limit text ls o = stood limit text ls o.0 o.1

choose : (limit : ℕ) (text : List ℕ) (ls : List Line) (t : Bool) (a b : Outcome) → (t ≡ true → Stood limit text ls a) → (t ≡ false → Stood limit text ls b)
    → Stood limit text ls (if t then a else b)
choose limit text ls true a b f g = f refl
choose limit text ls false a b f g = g refl

-- a byte more
grows : (limit : ℕ) (s : State) (b : ℕ) (text : List ℕ) (ls : List Line) → StandsAt limit s text ls → s.ended ≡ false
    → Stood limit (text ++ b ∷ []) ls (other_byte s b)
unfolding Stood stood
grows limit s b text ls at going =
    let t : State = record { line_bytes = s.line_bytes; line = s.line ++ b ∷ []; number = s.number; begun = s.begun; ended = s.ended } in
    choose limit (text ++ b ∷ []) ls (nat_lt (length s.line) s.line_bytes) ([], Ok t) (failed (fault.Line s.number))
    (λ room. let low : length s.line < s.line_bytes = search (rules, tests) in (
      [],
      subst (StandsAt limit t (text ++ b ∷ [])) (sym (append-nil ls)) record {
        limited = at.limited;
        whole = whole_more text (cert_lines_text ls) s.line (b ∷ []) at.whole;
        legal = at.legal;
        short = omega (arith, at.limited, length-append s.line (b ∷ []));
        number = at.number;
        begun = at.begun;
        ended = at.ended;
        none = λ end. absurd (false≢true (sym going ∙ end));
      },
      refl,
    ))
    (λ full. tt)

-- the line feed
feeds : (limit : ℕ) (s : State) (text : List ℕ) (ls : List Line) → StandsAt limit s text ls → s.ended ≡ false → (o : Option Line) → line_of s.line ≡ o
    → Stood limit (text ++ 10 ∷ []) ls (line_feed s o)
unfolding Stood stood
feeds limit s text ls at going None is = tt
feeds limit s text ls at going (Some l) is =
    let says = line_sound s.line l is in
    let going_on : has_end ls ≡ false = sym at.ended ∙ going in
    choose limit (text ++ 10 ∷ []) ls (beq (is_header l) s.begun) (failed (fault.Line s.number)) ((s.number, l) ∷ [], Ok (behind_line s l))
    (λ place. tt)
    (λ place.
    let header = place_is (is_header l) (has_line ls) (ap (beq (is_header l)) (sym at.begun) ∙ place) in
    let short : length (line_text l) ≤ limit = subst (λ xs. length xs ≤ limit) says.text at.short in (
      l ∷ [],
      record {
        limited = at.limited;
        whole = whole_more text (cert_lines_text ls) s.line (10 ∷ []) at.whole ∙ ap (λ xs. cert_lines_text ls ++ (xs ++ 10 ∷ [])) says.text
            ∙ sym (lines_text-append ls (l ∷ [])) ∙ sym (append-nil (cert_lines_text (ls ++ l ∷ [])));
        legal = legal_push limit ls l at.legal going_on says.form short header;
        short = omega arith;
        number = omega (arith, at.number, length-append ls (l ∷ []));
        begun = sym (has_line_push ls l);
        ended = sym (has_end_push ls l going_on);
        none = λ e. refl;
      },
      ap (λ k. (k, l) ∷ []) at.number,
    ))

-- a byte
step_stood : (limit : ℕ) (s : State) (b : ℕ) (text : List ℕ) (ls : List Line) → StandsAt limit s text ls → Stood limit (text ++ b ∷ []) ls (step s b)
unfolding Stood stood
step_stood limit s b text ls at =
    choose limit (text ++ b ∷ []) ls s.ended (failed (fault.Trailing s.number)) (if b == 10 then line_feed s (line_of s.line) else other_byte s b)
    (λ ended. tt)
    (λ going. choose limit (text ++ b ∷ []) ls (b == 10) (line_feed s (line_of s.line)) (other_byte s b)
    (λ is. let e : b ≡ 10 = search (rules, tests) in subst (λ k. Stood limit (text ++ k ∷ []) ls (line_feed s (line_of s.line))) (sym e)
    (feeds limit s text ls at going (line_of s.line) refl))
    (λ other. grows limit s b text ls at going))

added : (limit : ℕ) (text : List ℕ) (ls more : List Line) (out : List (ℕ × Line)) (o : Outcome) → out ≡ numbered_lines (length ls) more
    → Stood limit text (ls ++ more) o → Stood limit text ls (add_lines out o)
unfolding Stood stood
added limit text ls more out (xs, Err e) is r = tt
added limit text ls more out (xs, Ok s) is (later, at, numbers) = (
  more ++ later,
  subst (StandsAt limit s text) (append_assoc ls more later) at,
  ap (λ ys. ys ++ xs) is ∙ ap (λ ys. numbered_lines (length ls) more ++ ys) (numbers ∙ ap (λ k. numbered_lines k later) (length-append ls more))
      ∙ sym (numbered-append (length ls) more later),
)

on_stood : (limit : ℕ) (front text : List ℕ) (ls : List Line) (o : Outcome) (f : State → Outcome) → Stood limit front ls o
    → ((t : State) (ms : List Line) → StandsAt limit t front ms → Stood limit text ms (f t)) → Stood limit text ls (on o f)
unfolding Stood stood
on_stood limit front text ls (xs, Err e) f r goes = tt
on_stood limit front text ls (xs, Ok s) f (lines, at, numbers) goes = added limit text ls lines xs (f s) numbers (goes s (ls ++ lines) at)

-- bytes
steps_stood : (limit : ℕ) (bytes : List ℕ) (s : State) (text : List ℕ) (ls : List Line) → StandsAt limit s text ls
    → Stood limit (text ++ bytes) ls (steps bytes s)
unfolding Stood stood
steps_stood limit [] s text ls at =
    ([], subst (λ t. StandsAt limit s t (ls ++ [])) (sym (append-nil text)) (subst (StandsAt limit s text) (sym (append-nil ls)) at), refl)
steps_stood limit (b ∷ bs) s text ls at =
    subst (λ t. Stood limit t ls (steps (b ∷ bs) s)) (append_assoc text (b ∷ []) bs)
    (on_stood limit (text ++ b ∷ []) ((text ++ b ∷ []) ++ bs) ls (step s b) (steps bs) (step_stood limit s b text ls at)
    (λ t ms here. steps_stood limit bs t (text ++ b ∷ []) ms here))

begins : (limit : ℕ) → StandsAt limit (start limit) [] []
begins limit = record { limited = refl; whole = refl; legal = tt; short = omega arith; number = refl; begun = refl; ended = refl; none = λ e. refl }

-- what was read of a text stands in it
pub stands : (limit : ℕ) (text : List ℕ) (out : List (ℕ × Line)) (s : State) → steps text (start limit) ≡ (out, Ok s)
    → (ls : List Line) × StandsAt limit s text ls × (out ≡ numbered_lines 0 ls)
unfolding Stood stood
stands limit text out s e = subst (Stood limit text []) e (steps_stood limit text (start limit) [] [] (begins limit))

-- ---- the end

finish_ends : (s : State) → finish s ≡ Ok tt → s.ended ≡ true
finish_ends s e = by_end s.ended e
  where
    by_end : (t : Bool) → finish (record { line_bytes = s.line_bytes; line = s.line; number = s.number; begun = s.begun; ended = t }) ≡ Ok tt → t ≡ true
    by_end true e = refl
    by_end false e = absurd cc

-- what stands at the end of a text is all of it
pub whole_at : (limit : ℕ) (s : State) (text : List ℕ) (ls : List Line) → StandsAt limit s text ls → finish s ≡ Ok tt → IsWhole limit text ls
whole_at limit s text ls at end =
    let ends = finish_ends s end in
    record {
      whole = at.whole ∙ ap (λ xs. cert_lines_text ls ++ xs) (at.none ends) ∙ append-nil (cert_lines_text ls);
      legal = at.legal;
      ended = sym at.ended
          ∙ ends;
    }

-- what a whole text says, and that it ends
pub finished_parts : (o : Outcome) (ls : List (ℕ × Line)) → finished o ≡ Ok ls → (o.0 ≡ ls) × (end_of o.1 ≡ Ok tt)
finished_parts o ls e = by_end (end_of o.1) e
  where
    by_end : (r : Result (Unit {0}) CertFault) → ended_by o.0 r ≡ Ok ls → (o.0 ≡ ls) × (r ≡ Ok tt)
    by_end (Ok u) e = (cc, refl)
    by_end (Err f) e = absurd cc

-- what was read is what was written
pub read_is_written : (limit : ℕ) (text : List ℕ) (out : List (ℕ × Line)) → text_lines limit text ≡ Ok out
    → (ls : List Line) × IsWhole limit text ls × (out ≡ numbered_lines 0 ls)
read_is_written limit text out e = by_outcome (steps text (start limit)) refl (finished_parts (steps text (start limit)) out e)
  where
    by_outcome : (o : Outcome) → steps text (start limit) ≡ o → (o.0 ≡ out) × (end_of o.1 ≡ Ok tt)
        → (ls : List Line) × IsWhole limit text ls × (out ≡ numbered_lines 0 ls)
    by_outcome (xs, Ok s) is (same, end) = let found = stands limit text xs s is in (found.0, whole_at limit s text found.0 found.1 end, sym same ∙ found.2)
    by_outcome (xs, Err f) is (same, end) = absurd cc

-- ---- lines and their numbers

pub lines_numbered : (n : ℕ) (ls : List Line) → unnumbered (numbered_lines n ls) ≡ ls
lines_numbered n [] = refl
lines_numbered n (l ∷ ls) = ap (λ ks. l ∷ ks) (lines_numbered (n + 1) ls)

unnumbered-push : (xs : List (ℕ × Line)) (x : ℕ × Line) → unnumbered (xs ++ x ∷ []) ≡ unnumbered xs ++ x.1 ∷ []
unnumbered-push [] x = refl
unnumbered-push (y ∷ xs) x = ap (λ ls. y.1 ∷ ls) (unnumbered-push xs x)

later_last : (limit : ℕ) (ls : List Line) (l : Line) → AreLater limit (ls ++ (l ∷ [])) → IsLine l
later_last limit [] l later = later.0
later_last limit (m ∷ ls) l later = later_last limit ls l later.4

legal_last : (limit : ℕ) (ls : List Line) (l : Line) → AreLines limit (ls ++ (l ∷ [])) → IsLine l
legal_last limit [] l legal = legal.0.0
legal_last limit (m ∷ ls) l legal = later_last limit ls l legal.1

-- the last line that was read has its form
pub last_line : (limit : ℕ) (text : List ℕ) (xs : List (ℕ × Line)) (x : ℕ × Line) (s : State) → steps text (start limit) ≡ (xs ++ x ∷ [], Ok s)
    → IsLine x.1
last_line limit text xs x s e =
    let found = stands limit text (xs ++ x ∷ []) s e in
    let same : found.0 ≡ unnumbered xs ++ x.1 ∷ [] = sym (lines_numbered 0 found.0) ∙ ap unnumbered (sym found.2) ∙ unnumbered-push xs x in
    legal_last limit (unnumbered xs) x.1 (subst (AreLines limit) same found.1.legal)
