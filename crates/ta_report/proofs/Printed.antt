-- What a printed line of a pattern says.
use Rattle.ta_report.proofs.Common.{ℕ, ℤ, zero, suc, ◌+◌, ◌<◌, ◌^◌, ◌≡◌, ◌⊎◌, inl, inr, Bool, true, false, List, [], ◌∷◌, ◌++◌, map, codes, decimal, refl, sym}
use Rattle.ta_report.proofs.Common.{ap, subst, ◌∙◌, append_assoc, arith, lit<, slice_get, Some, signed_decimal, append_cancel_left, AllByRecursion, between}
use Rattle.ta_report.proofs.Common.{number_clear, each_at, each_front, word_avoids, apart_third, avoids-append, avoids_known, behind_line, differ, either_clear}
use Rattle.ta_report.proofs.Common.{first_byte, heads_apart, File, Pattern, Pick, entry_of, first_picked, picked, distinct_map_at, PatternWithin, pattern_name}
use Rattle.ta_report.proofs.Common.{Value, lines_text, named_line, run_lines, run_text, valued_line, Avoids, number_avoids, each_run_line, run_clear}
use Rattle.ta_report.proofs.Common.{ReportKind, Pivot, Leaf, Run, ReportSample, Verdict, Safe, Unsafe, Spent, Overflow, is_proved, proofs_text, proofs_told}
use Rattle.ta_report.proofs.Common.{word_told, PlaceFits, SampleFits, VerdictFits, overflow_text, place_text, rest_word, run_part, sample_line, sample_text}
use Rattle.ta_report.proofs.Common.{spent_text, told_lines, told_text, values_text, verdict_text, word_before, Distinct, Name, Option, None, IsTrue, given_line}
use Rattle.ta_report.proofs.Common.{proved_word, HasLine, LineAt, told_of, unsafe_words}
use Rattle.ta_replay.specs.declared.run.Run.{Run as RunOf}
use Rattle.ta_replay.specs.Fits.{Fits}
use Rattle.ta_replay.proofs.Statements.{word_of}
use Rattle.std.specs.Prelude.{IfSome}
use Rattle.ta_report.specs.Printed.{PrintedRestSafe, PrintedRestUnsafe, PrintedSafe, PrintedUnsafe}
use Rattle.ta_report.specs.PrintedRuns.{BeginsText, IsPlain, PrintedRuns, RunsArePrinted}
use Rattle.ta_report.proofs.Distinct.{sample_flat}
use Rattle.ta_report.proofs.Picks.{each_picked, entry_picked, entry_there, picked_there}
use Rattle.ta_base.proofs.Lists.{first_chosen}
use Rattle.ta_report.specs.declared.verdict.ReportSample.TheVariants as sample

-- a line begins so, or one behind it does
here_or_behind : (front xs rest behind : List ℕ) → Avoids 10 xs → LineAt front behind (xs ++ (10 ∷ rest)) → (xs ++ (10 ∷ rest) ≡ front ++ behind)
    ⊎ LineAt front behind rest
here_or_behind front xs rest behind free (inl e) = inl e
here_or_behind front xs rest behind free (inr (before, e)) = inr (behind_line xs rest before (front ++ behind) free e)

-- a line of a text is one of a text with more lines in front
later_line : (front behind xs rest : List ℕ) → LineAt front behind rest → LineAt front behind (xs ++ (10 ∷ rest))
later_line front behind xs rest (inl e) = inr (xs, ap (λ t. xs ++ (10 ∷ t)) e)
later_line front behind xs rest (inr (before, e)) = inr
    (xs ++ (10 ∷ before), ap (λ t. xs ++ (10 ∷ t)) e ∙ sym (append_assoc xs (10 ∷ before) (10 ∷ (front ++ behind))))

later_lines : (front behind rest : List ℕ) (more : List (List ℕ)) → LineAt front behind rest → LineAt front behind (lines_text more ++ rest)
later_lines front behind rest [] at = at
later_lines front behind rest (l ∷ ls) at = subst (LineAt front behind) (sym (append_assoc l (10 ∷ lines_text ls) rest))
    (later_line front behind l (lines_text ls ++ rest) (later_lines front behind rest ls at))

-- a line that begins so together with its line feed begins so
within_line : (front l tail behind : List ℕ) → Avoids 10 front → l ++ (10 ∷ tail) ≡ front ++ behind → BeginsText front l
within_line [] l tail behind free e = (l, refl)
within_line (x ∷ front) [] tail behind free e = let head : x ≡ 10 = cc in absurd (free.0 head)
within_line (x ∷ front) (y ∷ l) tail behind free e =
    let head : y ≡ x = cc in
    let rest : l ++ (10 ∷ tail) ≡ front ++ behind = cc in
    let more = within_line front l tail behind free.1 rest in
    (more.0, ap (λ z. z ∷ l) head ∙ ap (λ t. x ∷ t) more.1)

-- what is told of a pattern, and what stands behind it
told_flat : (name word tail : List ℕ) → told_of name word ++ tail ≡ codes "pattern " ++ (name ++ (codes ": " ++ (word ++ tail)))
told_flat name word tail = ap (λ t. codes "pattern " ++ t) (append_assoc name (codes ": " ++ word) tail)

-- a legal name has no line feed and no colon
no_feed : (name : List ℕ) → Name name → Avoids 10 name
no_feed name is = word_avoids 10 name refl (word_of name is)

no_colon : (name : List ℕ) → Name name → Avoids 58 name
no_colon name is = word_avoids 58 name refl (word_of name is)

told_clear : (name word : List ℕ) → Name name → Avoids 10 word → Avoids 10 (told_of name word)
told_clear name word is free =
    let said = avoids-append 10 (codes ": ") word (avoids_known 10 (codes ": ") refl) free in
    avoids-append 10 (codes "pattern ") (name ++ (codes ": " ++ word)) (avoids_known 10 (codes "pattern ") refl)
    (avoids-append 10 name (codes ": " ++ word) (no_feed name is) said)

-- the names of two lines that begin alike are the same, and so is what is said
told_same : (name other word front rest behind : List ℕ) → Name name → Name other → told_of name word ++ rest ≡ told_of other front ++ behind → (name ≡ other)
    × (word ++ rest ≡ front ++ behind)
told_same name other word front rest behind is is_other e =
    let told = append_cancel_left (codes "pattern ") _ _ (sym (told_flat name word rest) ∙ e ∙ told_flat other front behind) in
    let parts = first_byte 58 name other (32 ∷ (word ++ rest)) (32 ∷ (front ++ behind)) (no_colon name is) (no_colon other is_other) told in
    let said = parts.1 in
    (parts.0, cc)

-- no plain line tells of a pattern
plain_other : (line tail behind : List ℕ) → IsPlain line → line ++ (10 ∷ tail) ≡ codes "pattern " ++ behind → ⊥
plain_other line tail behind plain e = plain.other (within_line (codes "pattern ") line tail behind (avoids_known 10 (codes "pattern ") refl) e)

past_plain : (name front behind rest : List ℕ) (more : List (List ℕ)) → AllByRecursion IsPlain more
    → LineAt (told_of name front) behind (lines_text more ++ rest) → LineAt (told_of name front) behind rest
past_plain name front behind rest [] plain at = at
past_plain name front behind rest (l ∷ ls) plain at =
    elim (here_or_behind (told_of name front) l (lines_text ls ++ rest) behind plain.0.no_feed
    (subst (LineAt (told_of name front) behind) (append_assoc l (10 ∷ lines_text ls) rest) at)) [
      | inl here ↦ absurd (plain_other l (lines_text ls ++ rest) (name ++ (codes ": " ++ (front ++ behind))) plain.0 (here ∙ told_flat name front behind))
      | inr later ↦ past_plain name front behind rest ls plain.1 later
    ]

-- what a text says of a pattern: the words of its line, and the lines behind it
pub record Said : Type 0 where
  pub word : List ℕ
  pub more : List (List ℕ)

abbrev IsSaid : Said → Type 0
IsSaid s = Avoids 10 s.word × AllByRecursion IsPlain s.more

-- what is said of each pattern
abbrev lines_of : List Pattern → List Said → List ℕ
lines_of [] ws = []
lines_of (p ∷ ps) [] = []
lines_of (p ∷ ps) (w ∷ ws) = told_of p.name w.word ++ (10 ∷ (lines_text w.more ++ lines_of ps ws))

-- nothing is left, or the line of a pattern
abbrev IsNext : List ℕ → Type 0
IsNext text = (text ≡ []) ⊎ BeginsText (codes "pattern ") text

lines_next : (ps : List Pattern) (ws : List Said) → IsNext (lines_of ps ws)
lines_next [] ws = inl refl
lines_next (p ∷ ps) [] = inl refl
lines_next (p ∷ ps) (w ∷ ws) = inr
    (p.name ++ (codes ": " ++ (w.word ++ (10 ∷ (lines_text w.more ++ lines_of ps ws)))), told_flat p.name w.word (10 ∷ (lines_text w.more ++ lines_of ps ws)))

no_line : (front behind : List ℕ) (x : ℕ) (xs : List ℕ) → front ≡ x ∷ xs → LineAt front behind [] → ⊥
no_line [] behind x xs is has = cc
no_line (y ∷ ys) behind x xs is (inl e) = cc
no_line (y ∷ ys) behind x xs is (inr ([], e)) = cc
no_line (y ∷ ys) behind x xs is (inr (b ∷ before, e)) = cc

-- a line of the first pattern, or of one behind it
first_or_later : (q : Pattern) (w : Said) (rest name front behind : List ℕ) → Name q.name → IsSaid w
    → LineAt (told_of name front) behind (told_of q.name w.word ++ (10 ∷ (lines_text w.more ++ rest)))
    → (told_of q.name w.word ++ (10 ∷ (lines_text w.more ++ rest)) ≡ told_of name front ++ behind) ⊎ LineAt (told_of name front) behind rest
first_or_later q w rest name front behind is clear at =
    elim (here_or_behind (told_of name front) (told_of q.name w.word) (lines_text w.more ++ rest) behind (told_clear q.name w.word is clear.0) at) [
      | inl here ↦ inl here
      | inr later ↦ inr (past_plain name front behind rest w.more clear.1 later)
    ]

-- a name that lines tell of is a pattern's
named : {P : Pattern → Type 0} (ps : List Pattern) (ws : List Said) (name front behind : List ℕ) → ((p : Pattern) → P p → Name p.name) → AllByRecursion P ps
    → AllByRecursion IsSaid ws → Name name → LineAt (told_of name front) behind (lines_of ps ws) → ¬ AllByRecursion (λ y. name ≡ y → ⊥) (map pattern_name ps)
named [] ws name front behind names are clears is at = absurd (no_line (told_of name front) behind 112 _ refl at)
named (p ∷ ps) [] name front behind names are clears is at = absurd (no_line (told_of name front) behind 112 _ refl at)
named (p ∷ ps) (w ∷ ws) name front behind names are clears is at = λ none.
    elim (first_or_later p w (lines_of ps ws) name front behind (names p are.0) clears.0 at) [
      | inl here ↦ none.0 (sym (told_same p.name name w.word front (10 ∷ (lines_text w.more ++ lines_of ps ws)) behind (names p are.0) is here).0)
      | inr later ↦ named ps ws name front behind names are.1 clears.1 is later none.1
    ]

-- each item but none is this one
pub not_there : (name : List ℕ) (ps : List Pattern) (k : ℕ) (p : Pattern) → slice_get ps k ≡ Some p → p.name ≡ name
    → ¬ AllByRecursion (λ y. name ≡ y → ⊥) (map pattern_name ps)
not_there name [] k p at same none = cc
not_there name (q ∷ ps) zero p at same none = let is : q ≡ p = cc in none.0 (sym same ∙ ap pattern_name (sym is))
not_there name (q ∷ ps) (suc k) p at same none = not_there name ps k p at same none.1

-- what the line of a pattern says, and what stands behind it
pub record SaidAt (ws : List Said) (k : ℕ) (front behind : List ℕ) : Type 0 where
  pub said : Said
  pub at : slice_get ws k ≡ Some said
  pub rest : List ℕ
  pub next : IsNext rest
  pub same : said.word ++ (10 ∷ (lines_text said.more ++ rest)) ≡ front ++ behind

said_at : {P : Pattern → Type 0} (ps : List Pattern) (ws : List Said) (k : ℕ) (p : Pattern) (front behind : List ℕ) → ((q : Pattern) → P q → Name q.name)
    → AllByRecursion P ps → Distinct (map pattern_name ps) → AllByRecursion IsSaid ws → Name p.name
    → slice_get ps k ≡ Some p → LineAt (told_of p.name front) behind (lines_of ps ws) → SaidAt ws k front behind
said_at [] ws k p front behind names are distinct clears is at has = cc
said_at (q ∷ ps) [] k p front behind names are distinct clears is at has = absurd (no_line (told_of p.name front) behind 112 _ refl has)
said_at (q ∷ ps) (w ∷ ws) zero p front behind names are distinct clears is at has =
    let same : q ≡ p = cc in
    elim (first_or_later q w (lines_of ps ws) p.name front behind (names q are.0) clears.0 has) [
      | inl here ↦ record {
        said = w;
        at = refl;
        rest = lines_of ps ws;
        next = lines_next ps ws;
        same =
            (told_same q.name p.name w.word front (10 ∷ (lines_text w.more ++ lines_of ps ws)) behind (names q are.0) is here).1;
      }
      | inr later ↦ absurd (named ps ws p.name front behind names are.1 clears.1 is later
          (subst (λ n. AllByRecursion (λ y. n ≡ y → ⊥) (map pattern_name ps)) (ap pattern_name same) distinct.0))
    ]
said_at (q ∷ ps) (w ∷ ws) (suc k) p front behind names are distinct clears is at has =
    elim (first_or_later q w (lines_of ps ws) p.name front behind (names q are.0) clears.0 has) [
      | inl here ↦ absurd (not_there q.name ps k p at
          (sym (told_same q.name p.name w.word front (10 ∷ (lines_text w.more ++ lines_of ps ws)) behind (names q are.0) is here).0) distinct.0)
      | inr later ↦ (
          let found = said_at ps ws k p front behind names are.1 distinct.1 clears.1 is at later in
          record { said = found.said; at = found.at; rest = found.rest; next = found.next; same = found.same })
    ]

-- the pattern that a line tells of, and what the line says
pub record SaidOf (ps : List Pattern) (ws : List Said) (name front behind : List ℕ) : Type 0 where
  pub place : ℕ
  pub pattern : Pattern
  pub here : slice_get ps place ≡ Some pattern
  pub named : pattern.name ≡ name
  pub is : SaidAt ws place front behind

said_of_line :
    {P : Pattern → Type 0} (ps : List Pattern) (ws : List Said) (name front behind : List ℕ) → ((q : Pattern) → P q → Name q.name) → AllByRecursion P ps
    → AllByRecursion IsSaid ws → Name name → LineAt (told_of name front) behind (lines_of ps ws) → SaidOf ps ws name front behind
said_of_line [] ws name front behind names are clears is has = absurd (no_line (told_of name front) behind 112 _ refl has)
said_of_line (q ∷ ps) [] name front behind names are clears is has = absurd (no_line (told_of name front) behind 112 _ refl has)
said_of_line (q ∷ ps) (w ∷ ws) name front behind names are clears is has =
    elim (first_or_later q w (lines_of ps ws) name front behind (names q are.0) clears.0 has) [
      | inl here ↦ (
          let same = told_same q.name name w.word front (10 ∷ (lines_text w.more ++ lines_of ps ws)) behind (names q are.0) is here in
          record {
            place = 0;
            pattern = q;
            here = refl;
            named = same.0;
            is = record { said = w; at = refl; rest = lines_of ps ws; next = lines_next ps ws; same = same.1 };
          })
      | inr later ↦ (
          let found = said_of_line ps ws name front behind names are.1 clears.1 is later in
          record {
            place = suc found.place;
            pattern = found.pattern;
            here = found.here;
            named = found.named;
            is = record { said = found.is.said; at = found.is.at; rest = found.is.rest; next = found.is.next; same = found.is.same };
          })
    ]

-- the line of a pattern, and what stands behind it
pub record StandsAt (p : Pattern) (s : Said) (text : List ℕ) : Type 0 where
  pub rest : List ℕ
  pub next : IsNext rest
  pub stands : LineAt (told_of p.name s.word) (10 ∷ (lines_text s.more ++ rest)) text

stands_at : (ps : List Pattern) (ws : List Said) (k : ℕ) (p : Pattern) (s : Said) → slice_get ps k ≡ Some p → slice_get ws k ≡ Some s
    → StandsAt p s (lines_of ps ws)
stands_at [] ws k p s at said = cc
stands_at (q ∷ ps) [] k p s at said = cc
stands_at (q ∷ ps) (w ∷ ws) zero p s at said =
    let same : q ≡ p = cc in
    let is : w ≡ s = cc in
    subst (λ (o : Pattern). StandsAt o s (told_of q.name w.word ++ (10 ∷ (lines_text w.more ++ lines_of ps ws)))) same
    (subst (λ (o : Said). StandsAt q o (told_of q.name w.word ++ (10 ∷ (lines_text w.more ++ lines_of ps ws)))) is
    record { rest = lines_of ps ws; next = lines_next ps ws; stands = inl refl })
stands_at (q ∷ ps) (w ∷ ws) (suc k) p s at said =
    let later = stands_at ps ws k p s at said in
    record {
      rest = later.rest;
      next = later.next;
      stands = later_line (told_of p.name s.word) (10 ∷ (lines_text s.more ++ later.rest)) (told_of q.name w.word) (lines_text w.more ++ lines_of ps ws)
          (later_lines (told_of p.name s.word) (10 ∷ (lines_text s.more ++ later.rest)) (lines_of ps ws) w.more later.stands);
    }

-- a line of a text is that of a pattern
line_of_word : (name w rest : List ℕ) → (codes "pattern " ++ (name ++ (codes ": " ++ (w ++ codes "\n")))) ++ rest ≡ told_of name w ++ (10 ∷ rest)
line_of_word name w rest =
    ap (λ t. codes "pattern " ++ t)
    (append_assoc name (codes ": " ++ (w ++ codes "\n")) rest ∙ ap (λ t. name ++ (codes ": " ++ t)) (append_assoc w (codes "\n") rest))
    ∙ sym (told_flat name w (10 ∷ rest))

-- no pattern is told of in the first line
behind_first : (file : File) (front behind text rest : List ℕ) → Name file.automaton.name → text ≡ (codes "automaton " ++ file.automaton.name) ++ (10 ∷ rest)
    → (name : List ℕ) → LineAt (told_of name front) behind text → LineAt (told_of name front) behind rest
behind_first file front behind text rest is e name at =
    let free = avoids-append 10 (codes "automaton ") file.automaton.name (avoids_known 10 (codes "automaton ") refl) (no_feed file.automaton.name is) in
    elim (here_or_behind (told_of name front) (codes "automaton " ++ file.automaton.name) rest behind free (subst (LineAt (told_of name front) behind) e at)) [
      | inl here ↦ heads_apart 97 112 _ _ (inl (lit< tt)) here
      | inr later ↦ later
    ]

-- no line of a run tells of a pattern
run_other : (file : File) (run : RunOf) → AllByRecursion (λ line. ¬ BeginsText (codes "pattern ") line) (run_lines file run)
run_other file run = each_run_line (λ line. ¬ BeginsText (codes "pattern ") line) file run
    (λ name begins. differ 0 (named_line (codes "run ") name) (codes "pattern " ++ begins.0) refl begins.1)
    (λ name v begins. differ 2 (valued_line (codes "parameter ") name v) (codes "pattern " ++ begins.0) refl begins.1)
    (λ name v begins. differ 0 (valued_line (codes "start ") name v) (codes "pattern " ++ begins.0) refl begins.1)
    (λ name v begins. differ 0 (valued_line (codes "step ") name v) (codes "pattern " ++ begins.0) refl begins.1)
    (λ name begins. differ 0 (named_line (codes "mark ") name) (codes "pattern " ++ begins.0) refl begins.1)
    (λ begins. differ 0 (codes "end") (codes "pattern " ++ begins.0) refl begins.1)

each_plain : (ls : List (List ℕ)) → AllByRecursion (Avoids 10) ls → AllByRecursion (λ line. ¬ BeginsText (codes "pattern ") line) ls → AllByRecursion IsPlain ls
each_plain [] free other = tt
each_plain (l ∷ ls) free other = (record { no_feed = free.0; other = other.0 }, each_plain ls free.1 other.1)

run_plain : (file : File) (run : RunOf) → Fits file run → AllByRecursion IsPlain (run_lines file run)
run_plain file run fits = each_plain (run_lines file run) (run_clear file run fits) (run_other file run)

place_clear : (kind : ReportKind) → PlaceFits kind → Avoids 10 (place_text kind)
place_clear (Pivot pivot) fits = avoids-append 10 (codes "pivot ") (decimal pivot) (avoids_known 10 (codes "pivot ") refl) (number_clear pivot fits)
place_clear Leaf fits = avoids_known 10 (codes "leaf") refl
place_clear Run fits = avoids_known 10 (codes "run") refl

spent_clear : (n : ℕ) → n < 2 ^ 64 → Avoids 10 (spent_text n)
spent_clear n fits = between (codes "unknown, ") _ n (avoids_known 10 (codes "unknown, ") refl) fits (avoids_known 10 (codes " nodes spent") refl)

overflow_clear : (n : ℕ) (kind : ReportKind) → (n < 2 ^ 64) × PlaceFits kind → Avoids 10 (overflow_text n kind)
overflow_clear n kind fits =
    let place = avoids-append 10 (codes ", ") (place_text kind) (avoids_known 10 (codes ", ") refl) (place_clear kind fits.1) in
    between (codes "unknown, outside 128 bits at node ") _ n (avoids_known 10 (codes "unknown, outside 128 bits at node ") refl) fits.0 place

verdict_clear : (file : File) (v : Verdict) → VerdictFits file v → Avoids 10 (verdict_text v)
verdict_clear file (Safe n l) fits = between (codes "safe, ") _ n (avoids_known 10 (codes "safe, ") refl) fits.0
    (between (codes " nodes, ") _ l (avoids_known 10 (codes " nodes, ") refl) fits.1 (avoids_known 10 (codes " leaves") refl))
verdict_clear file (Unsafe n run) fits = between (codes "unsafe, ") _ n (avoids_known 10 (codes "unsafe, ") refl) fits.0 (avoids_known 10 (codes " nodes") refl)
verdict_clear file (Spent n) fits = spent_clear n fits
verdict_clear file (Overflow n kind) fits = overflow_clear n kind fits

-- the values of the parameters stand in one line
values_clear : (ns : List (List ℕ)) (vs : List ℤ) → AllByRecursion Name ns → AllByRecursion Value vs → Avoids 10 (values_text ns vs)
values_clear [] vs are fits = tt
values_clear (n ∷ ns) [] are fits = tt
values_clear (n ∷ ns) (v ∷ vs) are fits =
    let rest = avoids-append 10 (signed_decimal v) (values_text ns vs) (number_avoids 10 v (lit< tt) fits.0) (values_clear ns vs are.1 fits.1) in
    avoids-append 10 (codes " ") (n ++ (codes "=" ++ (signed_decimal v ++ values_text ns vs))) (avoids_known 10 (codes " ") refl)
    (avoids-append 10 n (codes "=" ++ (signed_decimal v ++ values_text ns vs)) (no_feed n are.0)
    (avoids-append 10 (codes "=") (signed_decimal v ++ values_text ns vs) (avoids_known 10 (codes "=") refl) rest))

sample_clear : (file : File) (x : ReportSample) → SampleFits file x → Avoids 10 (sample_text file x)
sample_clear file (sample.Sample values) fits =
    let a = file.automaton in
    let names = each_front Name a.parameters a.shared (each_front Name (a.parameters ++ a.shared) a.locations a.shape.names_legal) in
    avoids-append 10 (codes "sample") (values_text a.parameters values) (avoids_known 10 (codes "sample") refl) (values_clear a.parameters values names fits.1)
sample_clear file sample.Empty fits = avoids_known 10 (codes "none") refl
sample_clear file (sample.Spent n) fits = spent_clear n fits
sample_clear file (sample.Overflow n kind) fits = overflow_clear n kind fits

-- the line of the parameters tells of no pattern
abbrev first_plain : File → ReportSample → List ℕ
first_plain file x = codes "parameters: " ++ sample_text file x

sample_plain : (file : File) (x : ReportSample) → SampleFits file x → IsPlain (first_plain file x)
sample_plain file x fits = record {
  no_feed = avoids-append 10 (codes "parameters: ") (sample_text file x) (avoids_known 10 (codes "parameters: ") refl) (sample_clear file x fits);
  other = λ begins. differ 2 (first_plain file x) (codes "pattern " ++ begins.0) refl begins.1;
}

-- what a report says of a pattern
abbrev run_more : File → Verdict → List (List ℕ)
run_more file (Safe nodes leaves) = []
run_more file (Unsafe nodes run) = run_lines file run
run_more file (Spent nodes) = []
run_more file (Overflow node kind) = []

abbrev said_of : Bool → File → Verdict → Said
said_of rest file v = record { word = word_before rest v ++ verdict_text v; more = run_more file v }

before_clear : (rest : Bool) (v : Verdict) → Avoids 10 (word_before rest v)
before_clear false v = tt
before_clear true (Safe nodes leaves) = avoids_known 10 (codes "rest ") refl
before_clear true (Unsafe nodes run) = avoids_known 10 (codes "rest ") refl
before_clear true (Spent nodes) = tt
before_clear true (Overflow node kind) = tt

said_clear : (rest : Bool) (file : File) (v : Verdict) → VerdictFits file v → Avoids 10 (word_before rest v ++ verdict_text v)
said_clear rest file v fits = avoids-append 10 (word_before rest v) (verdict_text v) (before_clear rest v) (verdict_clear file v fits)

more_plain : (file : File) (v : Verdict) → VerdictFits file v → AllByRecursion IsPlain (run_more file v)
more_plain file (Safe nodes leaves) fits = tt
more_plain file (Unsafe nodes run) fits = run_plain file run fits.1
more_plain file (Spent nodes) fits = tt
more_plain file (Overflow node kind) fits = tt

more_text : (file : File) (v : Verdict) → run_part file v ≡ lines_text (run_more file v)
more_text file (Safe nodes leaves) = refl
more_text file _ = refl

verdicts_clear : (rest : Bool) (file : File) (vs : List Verdict) → AllByRecursion (VerdictFits file) vs → AllByRecursion IsSaid (map (said_of rest file) vs)
verdicts_clear rest file [] fits = tt
verdicts_clear rest file (v ∷ vs) fits = ((said_clear rest file v fits.0, more_plain file v fits.0), verdicts_clear rest file vs fits.1)

told_lines_are : (rest : Bool) (file : File) (ps : List Pattern) (vs : List Verdict) → told_lines rest file ps vs ≡ lines_of ps (map (said_of rest file) vs)
told_lines_are rest file [] vs = refl
told_lines_are rest file (p ∷ ps) [] = refl
told_lines_are rest file (p ∷ ps) (v ∷ vs) =
    let word = word_before rest v ++ verdict_text v in
    ap (λ said. (codes "pattern " ++ (p.name ++ (codes ": " ++ said))) ++ (run_part file v ++ told_lines rest file ps vs))
    (sym (append_assoc (word_before rest v) (verdict_text v) (codes "\n")))
    ∙ line_of_word p.name word (run_part file v ++ told_lines rest file ps vs)
    ∙ ap (λ part. told_of p.name word ++ (10 ∷ (part ++ told_lines rest file ps vs))) (more_text file v)
    ∙ ap (λ behind. told_of p.name word ++ (10 ∷ (lines_text (run_more file v) ++ behind))) (told_lines_are rest file ps vs)

said_get : (rest : Bool) (file : File) (vs : List Verdict) (k : ℕ) (s : Said) → slice_get (map (said_of rest file) vs) k ≡ Some s → (v : Verdict)
    × (slice_get vs k ≡ Some v) × (said_of rest file v ≡ s)
said_get rest file [] k s at = cc
said_get rest file (v ∷ vs) zero s at = (v, refl, cc)
said_get rest file (v ∷ vs) (suc k) s at = said_get rest file vs k s at

verdict_get : (rest : Bool) (file : File) (vs : List Verdict) (k : ℕ) (v : Verdict) → slice_get vs k ≡ Some v
    → slice_get (map (said_of rest file) vs) k ≡ Some (said_of rest file v)
verdict_get rest file [] k v at = cc
verdict_get rest file (w ∷ vs) zero v at = let same : w ≡ v = cc in ap (λ (o : Verdict). Some (said_of rest file o)) same
verdict_get rest file (w ∷ vs) (suc k) v at = verdict_get rest file vs k v at

safe_word : (v : Verdict) (rest behind : List ℕ) → verdict_text v ++ (10 ∷ rest) ≡ codes "safe, " ++ behind → (n : ℕ) × (l : ℕ) × (v ≡ Safe n l)
safe_word (Safe n l) rest behind e = (n, l, refl)
safe_word _ rest behind e = heads_apart 117 115 _ _ (inr (lit< tt)) e

unsafe_word : (v : Verdict) (rest behind : List ℕ) → verdict_text v ++ (10 ∷ rest) ≡ codes "unsafe, " ++ behind → (n : ℕ) × (run : RunOf) × (v ≡ Unsafe n run)
unsafe_word (Safe n l) rest behind e = heads_apart 115 117 _ _ (inl (lit< tt)) e
unsafe_word (Unsafe n run) rest behind e = (n, run, refl)
unsafe_word _ rest behind e = apart_third 117 110 107 115 _ _ (inl (lit< tt)) e

rest_safe_word : (v : Verdict) (rest behind : List ℕ) → (rest_word v ++ verdict_text v) ++ (10 ∷ rest) ≡ codes "rest safe, " ++ behind → (n : ℕ) × (l : ℕ)
    × (v ≡ Safe n l)
rest_safe_word (Safe n l) rest behind e = (n, l, refl)
rest_safe_word (Unsafe n run) rest behind e = heads_apart 117 115 _ _ (inr (lit< tt)) (append_cancel_left (codes "rest ") _ _ e)
rest_safe_word _ rest behind e = heads_apart 117 114 _ _ (inr (lit< tt)) e

rest_unsafe_word : (v : Verdict) (rest behind : List ℕ) → (rest_word v ++ verdict_text v) ++ (10 ∷ rest) ≡ codes "rest unsafe, " ++ behind → (n : ℕ)
    × (run : RunOf) × (v ≡ Unsafe n run)
rest_unsafe_word (Safe n l) rest behind e = heads_apart 115 117 _ _ (inl (lit< tt)) (append_cancel_left (codes "rest ") _ _ e)
rest_unsafe_word (Unsafe n run) rest behind e = (n, run, refl)
rest_unsafe_word _ rest behind e = heads_apart 117 114 _ _ (inr (lit< tt)) e

within_name : (places locations : ℕ) (p : Pattern) → PatternWithin places locations p → Name p.name
within_name places locations p is = is.name

-- the first lines of a report, and those behind them
report_flat :
    (rest : Bool) (file : File) (pick : Pick) (x : ReportSample) (vs : List Verdict)
    → told_text rest file pick x vs
    ≡ (codes "automaton " ++ file.automaton.name) ++ (10 ∷ (first_plain file x ++ (10 ∷ lines_of (picked pick file.patterns) (map (said_of rest file) vs))))
report_flat rest file pick x vs =
    let ps = picked pick file.patterns in
    sym (append_assoc (codes "automaton ") file.automaton.name (10 ∷ (sample_line file x ++ told_lines rest file ps vs)))
    ∙ ap (λ behind. (codes "automaton " ++ file.automaton.name) ++ (10 ∷ behind))
    (sample_flat file x (told_lines rest file ps vs) ∙ ap (λ lines. first_plain file x ++ (10 ∷ lines)) (told_lines_are rest file ps vs))

-- the verdict that a line of a report tells, and what stands behind it
pub record Told (rest : Bool) (file : File) (pick : Pick) (vs : List Verdict) (k : ℕ) (front behind : List ℕ) : Type 0 where
  pub verdict : Verdict
  pub at : entry_of pick vs k ≡ Some verdict
  pub fit : VerdictFits file verdict
  pub later : List ℕ
  pub next : IsNext later
  pub same : (word_before rest verdict ++ verdict_text verdict) ++ (10 ∷ (lines_text (run_more file verdict) ++ later)) ≡ front ++ behind

told_at :
    (rest : Bool) (file : File) (pick : Pick) (x : ReportSample) (vs : List Verdict) (k : ℕ) (p : Pattern) (front behind : List ℕ)
    → slice_get file.patterns k ≡ Some p → SampleFits file x → AllByRecursion (VerdictFits file) vs
    → LineAt (told_of p.name front) behind (told_text rest file pick x vs) → Told rest file pick vs k front behind
told_at rest file pick x vs k p front behind at fit fits has =
    let ps = picked pick file.patterns in
    let lines_behind = lines_of ps (map (said_of rest file) vs) in
    let later = behind_first file front behind (told_text rest file pick x vs) (first_plain file x ++ (10 ∷ lines_behind)) file.automaton.shape.name_legal
    (report_flat rest file pick x vs) p.name has in
    let more : List (List ℕ) = first_plain file x ∷ [] in
    let lines = past_plain p.name front behind lines_behind more (sample_plain file x fit, tt)
    (subst (LineAt (told_of p.name front) behind) (sym (append_assoc (first_plain file x) (10 ∷ []) lines_behind)) later) in
    let name = within_name _ _ p (each_at _ file.patterns k p file.shape.within at) in
    let within = each_picked _ pick file.patterns file.shape.within in
    let found = said_of_line ps (map (said_of rest file) vs) p.name front behind (within_name _ _) within (verdicts_clear rest file vs fits) name lines in
    let verdict = said_get rest file vs found.place found.is.said found.is.at in
    let there = picked_there pick file.patterns found.place found.pattern found.here in
    let number : first_picked pick + found.place ≡ k = distinct_map_at pattern_name file.patterns (first_picked pick + found.place) k found.pattern p
    file.shape.distinct there at found.named in
    record {
      verdict = verdict.0;
      at = ap (entry_of pick vs) (sym number) ∙ entry_there pick file.patterns vs found.place found.pattern verdict.0 found.here verdict.1;
      fit = each_at (VerdictFits file) vs found.place verdict.0 fits verdict.1;
      later = found.is.rest;
      next = found.is.next;
      same = ap (λ (s : Said). s.word ++ (10 ∷ (lines_text s.more ++ found.is.rest))) verdict.2 ∙ found.is.same;
    }

pub printed_safe : PrintedSafe
printed_safe file pick x vs k p at fit fits has =
    let told = told_at false file pick x vs k p (codes "safe, ") has.0 at fit fits has.1 in
    let word = safe_word told.verdict (lines_text (run_more file told.verdict) ++ told.later) has.0 told.same in
    (word.0, word.1, told.at ∙ ap Some word.2)

pub printed_unsafe : PrintedUnsafe
printed_unsafe file pick x vs k p at fit fits has =
    let told = told_at false file pick x vs k p (codes "unsafe, ") has.0 at fit fits has.1 in
    let word = unsafe_word told.verdict (lines_text (run_more file told.verdict) ++ told.later) has.0 told.same in
    (word.0, word.1, told.at ∙ ap Some word.2)

pub printed_rest_safe : PrintedRestSafe
printed_rest_safe file pick x vs k p at fit fits has =
    let told = told_at true file pick x vs k p (codes "rest safe, ") has.0 at fit fits has.1 in
    let word = rest_safe_word told.verdict (lines_text (run_more file told.verdict) ++ told.later) has.0 told.same in
    (word.0, word.1, told.at ∙ ap Some word.2)

pub printed_rest_unsafe : PrintedRestUnsafe
printed_rest_unsafe file pick x vs k p at fit fits has =
    let told = told_at true file pick x vs k p (codes "rest unsafe, ") has.0 at fit fits has.1 in
    let word = rest_unsafe_word told.verdict (lines_text (run_more file told.verdict) ++ told.later) has.0 told.same in
    (word.0, word.1, told.at ∙ ap Some word.2)

-- what is said of an unsafe pattern begins so
unsafe_said : (rest : Bool) (nodes : ℕ) (run : RunOf) → word_before rest (Unsafe nodes run) ++ verdict_text (Unsafe nodes run) ≡ unsafe_words rest
    ++ (decimal nodes ++ codes " nodes")
unsafe_said false nodes run = refl
unsafe_said true nodes run = refl

-- the text of a run stands behind the line of its pattern
pub runs_printed : RunsArePrinted
runs_printed rest file pick x vs k p at fit fits nodes run is =
    let v : Verdict = Unsafe nodes run in
    let ps = picked pick file.patterns in
    let here = entry_picked pick file.patterns vs k p v at is in
    let fit_of : VerdictFits file v = each_at (VerdictFits file) vs here.place v fits here.entry in
    let found = stands_at ps (map (said_of rest file) vs) here.place p (said_of rest file v) here.item (verdict_get rest file vs here.place v here.entry) in
    let front = told_of p.name (word_before rest v ++ verdict_text v) in
    let words = decimal nodes ++ codes " nodes" in
    let behind = 10 ∷ (run_text file run ++ found.rest) in
    let lines = lines_of ps (map (said_of rest file) vs) in
    let stands = subst (LineAt front behind) (sym (report_flat rest file pick x vs))
    (later_line front behind (codes "automaton " ++ file.automaton.name) (first_plain file x ++ (10 ∷ lines))
    (later_line front behind (first_plain file x) lines found.stands)) in
    record {
      lines = run_lines file run;
      bytes_are = refl;
      plain = run_plain file run fit_of.1;
      words = words;
      no_feed = avoids-append 10 (decimal nodes) (codes " nodes") (number_clear nodes fit_of.0) (avoids_known 10 (codes " nodes") refl);
      behind = found.rest;
      ends = found.next;
      stands = subst (λ (said : List ℕ). LineAt (told_of p.name said) behind (told_text rest file pick x vs)) (unsafe_said rest nodes run) stands;
    }

-- plain lines up to the next pattern, or to the end, are determined
not_next : (line tail text : List ℕ) → IsPlain line → IsNext text → text ≡ line ++ (10 ∷ tail) → ⊥
not_next [] tail text plain (inl none) e = cc
not_next (x ∷ xs) tail text plain (inl none) e = cc
not_next line tail text plain (inr begins) e = plain_other line tail begins.0 plain (sym e ∙ begins.1)

plain_same : (ms ls : List (List ℕ)) (x y : List ℕ) → AllByRecursion IsPlain ms → AllByRecursion IsPlain ls → IsNext x → IsNext y → lines_text ms
    ++ x ≡ lines_text ls ++ y → lines_text ms ≡ lines_text ls
plain_same [] [] x y pm pl nx ny e = refl
plain_same [] (l ∷ ls) x y pm pl nx ny e = absurd (not_next l (lines_text ls ++ y) x pl.0 nx (e ∙ append_assoc l (10 ∷ lines_text ls) y))
plain_same (m ∷ ms) [] x y pm pl nx ny e = absurd (not_next m (lines_text ms ++ x) y pm.0 ny (sym e ∙ append_assoc m (10 ∷ lines_text ms) x))
plain_same (m ∷ ms) (l ∷ ls) x y pm pl nx ny e =
    let parts = first_byte 10 m l (lines_text ms ++ x) (lines_text ls ++ y) pm.0.no_feed pl.0.no_feed
    (sym (append_assoc m (10 ∷ lines_text ms) x) ∙ e ∙ append_assoc l (10 ∷ lines_text ls) y) in
    ap (λ h. h ++ (10 ∷ lines_text ms)) parts.0 ∙ ap (λ t. l ++ (10 ∷ t)) (plain_same ms ls x y pm.1 pl.1 nx ny parts.1)

-- only what is said of an unsafe pattern begins so
said_unsafe : (rest : Bool) (v : Verdict) (later behind : List ℕ) → (word_before rest v ++ verdict_text v) ++ (10 ∷ later) ≡ unsafe_words rest ++ behind
    → (n : ℕ) × (run : RunOf) × (v ≡ Unsafe n run)
said_unsafe false v later behind e = unsafe_word v later behind e
said_unsafe true v later behind e = rest_unsafe_word v later behind e

unsafe_avoids : (rest : Bool) → Avoids 10 (unsafe_words rest)
unsafe_avoids false = avoids_known 10 (codes "unsafe, ") refl
unsafe_avoids true = avoids_known 10 (codes "rest unsafe, ") refl

-- the lines behind that of an unsafe pattern are those of its run
run_of_word : (rest : Bool) (file : File) (v : Verdict) (later words bytes behind : List ℕ) → VerdictFits file v → Avoids 10 words → (lines : List (List ℕ))
    → bytes ≡ lines_text lines → AllByRecursion IsPlain lines → IsNext later → IsNext behind → (word_before rest v ++ verdict_text v)
    ++ (10 ∷ (lines_text (run_more file v) ++ later)) ≡ (unsafe_words rest ++ words) ++ (10 ∷ (bytes ++ behind)) → (n : ℕ) × (run : RunOf) × (v ≡ Unsafe n run)
    × (bytes ≡ run_text file run)
run_of_word rest file v later words bytes behind fits free lines are plain next ends e =
    let is = said_unsafe rest v (lines_text (run_more file v) ++ later) (words ++ (10 ∷ (bytes ++ behind)))
    (e ∙ append_assoc (unsafe_words rest) words (10 ∷ (bytes ++ behind))) in
    let parts = first_byte 10 (word_before rest v ++ verdict_text v) (unsafe_words rest ++ words) (lines_text (run_more file v) ++ later) (bytes ++ behind)
    (said_clear rest file v fits) (avoids-append 10 (unsafe_words rest) words (unsafe_avoids rest) free) e in
    let same = plain_same (run_more file v) lines later behind (more_plain file v fits) plain next ends (parts.1 ∙ ap (λ b. b ++ behind) are) in
    (is.0, is.1, is.2, are ∙ sym same ∙ sym (more_text file v) ∙ ap (run_part file) is.2)

pub printed_runs : PrintedRuns
printed_runs rest file pick x vs k p at fit_sample fits bytes part =
    let told = told_at rest file pick x vs k p (unsafe_words rest ++ part.words) (10 ∷ (bytes ++ part.behind)) at fit_sample fits part.stands in
    let is = run_of_word rest file told.verdict told.later part.words bytes part.behind told.fit part.no_feed part.lines part.bytes_are part.plain told.next
    part.ends told.same in
    (is.0, is.1, told.at ∙ ap Some is.2, is.3)

-- the lines of `check`, and of `rest-check`
abbrev words_from : Bool → List ℕ → ℕ → List Pattern → List Said
words_from rest numbers number [] = []
words_from rest numbers number (p ∷ ps) = record { word = word_told rest numbers number; more = [] } ∷ words_from rest numbers (number + 1) ps

word_clear : (rest : Bool) (numbers : List ℕ) (number : ℕ) → Avoids 10 (word_told rest numbers number)
word_clear false numbers number = either_clear (is_proved numbers number) (codes "proved") (codes "not proved") (avoids_known 10 (codes "proved") refl)
    (avoids_known 10 (codes "not proved") refl)
word_clear true numbers number = either_clear (is_proved numbers number) (codes "rest proved") (codes "not rest proved")
    (avoids_known 10 (codes "rest proved") refl) (avoids_known 10 (codes "not rest proved") refl)

words_clear : (rest : Bool) (numbers : List ℕ) (number : ℕ) (ps : List Pattern) → AllByRecursion IsSaid (words_from rest numbers number ps)
words_clear rest numbers number [] = tt
words_clear rest numbers number (p ∷ ps) = ((word_clear rest numbers number, tt), words_clear rest numbers (number + 1) ps)

proofs_told_are : (rest : Bool) (numbers : List ℕ) (number : ℕ) (ps : List Pattern)
    → proofs_told rest numbers number ps ≡ lines_of ps (words_from rest numbers number ps)
proofs_told_are rest numbers number [] = refl
proofs_told_are rest numbers number (p ∷ ps) =
    line_of_word p.name (word_told rest numbers number) (proofs_told rest numbers (number + 1) ps)
    ∙ ap (λ behind. told_of p.name (word_told rest numbers number) ++ (10 ∷ behind)) (proofs_told_are rest numbers (number + 1) ps)

word_at : (rest : Bool) (numbers : List ℕ) (number : ℕ) (ps : List Pattern) (k : ℕ) (w : Said) → slice_get (words_from rest numbers number ps) k ≡ Some w
    → word_told rest numbers (number + k) ≡ w.word
word_at rest numbers number [] k w at = cc
word_at rest numbers number (p ∷ ps) zero w at = let same : record { word = word_told rest numbers number; more = [] } ≡ w = cc in
    let is : word_told rest numbers number ≡ w.word = ap (λ (s : Said). s.word) same in let here : number + 0 ≡ number = omega arith in ap
    (word_told rest numbers) here ∙ is
word_at rest numbers number (p ∷ ps) (suc k) w at = let there : number + suc k ≡ (number + 1) + k = omega arith in ap (word_told rest numbers) there
    ∙ word_at rest numbers (number + 1) ps k w at

-- what a line tells of the pattern of a number
record ProofTold (rest : Bool) (numbers : List ℕ) (k : ℕ) (front behind : List ℕ) : Type 0 where
  later : List ℕ
  same : word_told rest numbers k ++ (10 ∷ later) ≡ front ++ behind

-- the line of the parameters, if it is there, tells of no pattern
given_past : (file : File) (x : Option ReportSample) (told name front behind : List ℕ) → IfSome x (SampleFits file)
    → LineAt (told_of name front) behind (given_line file x ++ told) → LineAt (told_of name front) behind told
given_past file None told name front behind fits at = at
given_past file (Some x) told name front behind fits at =
    past_plain name front behind told (first_plain file x ∷ []) (sample_plain file x fits, tt)
    (subst (LineAt (told_of name front) behind) (sample_flat file x told ∙ sym (append_assoc (first_plain file x) (10 ∷ []) told)) at)

proof_told : (rest : Bool) (file : File) (x : Option ReportSample) (numbers : List ℕ) (k : ℕ) (p : Pattern) (front behind : List ℕ)
    → slice_get file.patterns k ≡ Some p → IfSome x (SampleFits file)
    → LineAt (told_of p.name front) behind (proofs_text rest file x numbers) → ProofTold rest numbers k front behind
proof_told rest file x numbers k p front behind at fits has =
    let told = proofs_told rest numbers 0 file.patterns in
    let more = given_line file x ++ told in
    let flat : (codes "automaton " ++ (file.automaton.name ++ codes "\n")) ++ more ≡ (codes "automaton " ++ file.automaton.name) ++ (10 ∷ more) =
    ap (λ t. codes "automaton " ++ t) (append_assoc file.automaton.name (codes "\n") more)
    ∙ sym (append_assoc (codes "automaton ") file.automaton.name (10 ∷ more)) in
    let later = behind_first file front behind _ more file.automaton.shape.name_legal flat p.name has in
    let lines = subst (LineAt (told_of p.name front) behind) (proofs_told_are rest numbers 0 file.patterns)
    (given_past file x told p.name front behind fits later) in
    let name = within_name _ _ p (each_at _ file.patterns k p file.shape.within at) in
    let found = said_at file.patterns (words_from rest numbers 0 file.patterns) k p front behind (within_name _ _) file.shape.within file.shape.distinct
    (words_clear rest numbers 0 file.patterns) name at lines in
    let word = word_at rest numbers 0 file.patterns k found.said found.at in
    let after = lines_text found.said.more ++ found.rest in
    let number : 0 + k ≡ k = omega arith in
    record { later = after; same = ap (λ (n : ℕ). word_told rest numbers n ++ (10 ∷ after)) (sym number) ∙ ap (λ w. w ++ (10 ∷ after)) word ∙ found.same }

-- a pattern that a line calls proved is one of the proved ones
pub printed_proved : (rest : Bool) (file : File) (x : Option ReportSample) (numbers : List ℕ) (k : ℕ) (p : Pattern) → slice_get file.patterns k ≡ Some p
    → IfSome x (SampleFits file)
    → HasLine (told_of p.name (proved_word rest)) (proofs_text rest file x numbers) → IsTrue (is_proved numbers k)
printed_proved false file x numbers k p at fits has =
    let told = proof_told false file x numbers k p (codes "proved") has.0 at fits has.1 in
    first_chosen (is_proved numbers k) (codes "proved") (codes "not proved") (10 ∷ told.later) has.0 told.same (heads_apart 110 112 _ _ (inl (lit< tt)))
printed_proved true file x numbers k p at fits has =
    let told = proof_told true file x numbers k p (codes "rest proved") has.0 at fits has.1 in
    first_chosen (is_proved numbers k) (codes "rest proved") (codes "not rest proved") (10 ∷ told.later) has.0 told.same
    (heads_apart 110 114 _ _ (inl (lit< tt)))
