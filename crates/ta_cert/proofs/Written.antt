-- What is written is read: lines, lists of lines, and pieces.
use Rattle.ta_cert.proofs.Common.{ℕ, ℤ, pos, negsuc, ints, ◌+◌, ◌<◌, ◌≤◌, ◌^◌, ◌≡◌, Bool, true, false, List, [], ◌∷◌, ◌++◌, length, concat, codes, decimal}
use Rattle.ta_cert.proofs.Common.{signed_decimal, Option, None, Some, Ok, Err, refl, sym, ap, subst, ◌∙◌, append_assoc, length-append, arith, lit<, lit≤}
use Rattle.ta_cert.proofs.Common.{false≢true, beq, AllByRecursion, Avoids, avoids-append, avoids_known, decimal_avoids, multiplier_number, first_byte, ArePairs}
use Rattle.ta_cert.proofs.Common.{IsLine, cert_lines_text, has_end, is_end, is_header, line_text, order_of, pair_text, pairs_text, split_text, AreLater}
use Rattle.ta_cert.proofs.Common.{AreLines, by_pieces, has_line, line_number, numbered_lines, Outcome, State, add_lines, line_feed, next, on, start}
use Rattle.ta_cert.proofs.Common.{steps, text_lines, finished, Line}
use Rattle.ta_cert.specs.declared.line.Node.TheVariants as node
use Rattle.ta_cert.specs.declared.line.Line.TheVariants as line
use Rattle.ta_cert.specs.Lines.{line_of}
use Rattle.ta_cert.proofs.LinesRead.{line_complete}
use Rattle.ta_cert.proofs.Streaming.{kept, fed, steps-append}

-- ---- no line feed in the text of a line

clear : (limit n : ℕ) → n < limit → limit ≤ 2 ^ 128 → Avoids 10 (decimal n)
clear limit n below small = decimal_avoids 10 limit n (lit< tt) below small

pairs_unbroken : (low : ℕ) (ts : List (ℕ × ℤ)) → ArePairs low ts → Avoids 10 (pairs_text ts)
pairs_unbroken low [] are = tt
pairs_unbroken low (t ∷ ts) are =
    let m = multiplier_number t.1 (signed_decimal t.1 ++ []) [] are.1.low are.1.high refl in
    let number = subst (λ z. Avoids 10 (signed_decimal z)) (sym m.4) (clear (2 ^ 127) m.0 m.2 (lit≤ tt)) in
    avoids-append 10 (pair_text t) (pairs_text ts)
    ((λ e. omega arith), avoids-append 10 (decimal t.0) (58 ∷ signed_decimal t.1) (clear (2 ^ 32) t.0 are.1.row (lit≤ tt)) ((λ e. omega arith), number))
    (pairs_unbroken (t.0 + 1) ts are.2)

behind_word : (w rest : List ℕ) → Avoids 10 w → Avoids 10 rest → Avoids 10 (w ++ rest)
behind_word w rest front back = avoids-append 10 w rest front back

two : (m : ℕ) (rest : List ℕ) → m < 2 ^ 32 → Avoids 10 rest → Avoids 10 (decimal m ++ (32 ∷ rest))
two m rest below back = avoids-append 10 (decimal m) (32 ∷ rest) (clear (2 ^ 32) m below (lit≤ tt)) ((λ e. omega arith), back)

-- no line has a line feed in its text
pub line_unbroken : (l : Line) → IsLine l → Avoids 10 (line_text l)
line_unbroken (line.Header v) form = behind_word (codes "threshold-certificate ") (decimal v) (avoids_known 10 (codes "threshold-certificate ") refl)
    (clear 4 v form.1 (lit≤ tt))
line_unbroken (line.Pattern k) form = behind_word (codes "pattern ") (decimal k) (avoids_known 10 (codes "pattern ") refl) (clear (2 ^ 32) k form (lit≤ tt))
line_unbroken (line.Tree node.Extend) form = avoids_known 10 (codes "e") refl
line_unbroken (line.Tree (node.Split u (pos k))) form = behind_word (codes "s ") (split_text u (pos k)) (avoids_known 10 (codes "s ") refl)
    (two u (decimal k) form.number (clear (2 ^ 126) k (omega (arith, ints, form.high)) (lit≤ tt)))
line_unbroken (line.Tree (node.Split u (negsuc k))) form = absurd (omega (arith, ints, form.low))
line_unbroken (line.Tree (node.Leaf ts)) form = behind_word (codes "f") (pairs_text ts) (avoids_known 10 (codes "f") refl) (pairs_unbroken 0 ts form.1)
line_unbroken (line.Tree (node.Guard g)) form = behind_word (codes "g ") (decimal g) (avoids_known 10 (codes "g ") refl) (clear (2 ^ 32) g form (lit≤ tt))
line_unbroken (line.Tree (node.Order j i)) form = behind_word (codes "o ") (order_of j i) (avoids_known 10 (codes "o ") refl)
    (two j (decimal i) form.0 (clear (2 ^ 32) i form.1 (lit≤ tt)))
line_unbroken (line.Tree (node.Stuck r)) form = behind_word (codes "r ") (decimal r) (avoids_known 10 (codes "r ") refl) (clear (2 ^ 32) r form (lit≤ tt))
line_unbroken line.End form = avoids_known 10 (codes "end") refl

-- ---- a text is that of one list of lines

unfoldable pub or_end : Option Line → Line
or_end (Some l) = l
or_end None = line.End

pub line_unique : (a b : Line) → IsLine a → IsLine b → line_text a ≡ line_text b → a ≡ b
unfolding or_end
line_unique a b x y e = ap or_end (sym (line_complete a x) ∙ ap line_of e ∙ line_complete b y)

pub lines_unique : (ls ms : List Line) → AllByRecursion IsLine ls → AllByRecursion IsLine ms → cert_lines_text ls ≡ cert_lines_text ms → ls ≡ ms
lines_unique [] [] x y e = refl
lines_unique [] (m ∷ ms) x y e = absurd (omega (arith, ap length e, length-append (line_text m) (10 ∷ cert_lines_text ms)))
lines_unique (l ∷ ls) [] x y e = absurd (omega (arith, ap length e, length-append (line_text l) (10 ∷ cert_lines_text ls)))
lines_unique (l ∷ ls) (m ∷ ms) x y e =
    let first = first_byte 10 (line_text l) (line_text m) (cert_lines_text ls) (cert_lines_text ms) (line_unbroken l x.0) (line_unbroken m y.0) e in
    ap (λ k. k ∷ ls) (line_unique l m x.0 y.0 first.0) ∙ ap (λ ks. m ∷ ks) (lines_unique ls ms x.1 y.1 first.1)

-- ---- lines are read one after another

-- where a text stands behind n lines
abbrev pub at_line : ℕ → ℕ → Bool → Bool → State
at_line limit n begun ended = record { line_bytes = limit; line = []; number = line_number n; begun = begun; ended = ended }

next_line : (n : ℕ) → next (line_number n) ≡ line_number (n + 1)
next_line n = omega arith

-- one line
pub line_read : (limit : ℕ) (l : Line) (n : ℕ) (begun : Bool) → IsLine l → length (line_text l) ≤ limit → beq (is_header l) begun ≡ false
    → steps (line_text l ++ 10 ∷ []) (at_line limit n begun false) ≡ ((line_number n, l) ∷ [], Ok (at_line limit (n + 1) true (is_end l)))
line_read limit l n begun form short place =
    let s : State = record { line_bytes = limit; line = line_text l; number = line_number n; begun = begun; ended = false } in
    let before = at_line limit n begun false in
    let held : steps (line_text l) before ≡ ([], Ok s) = kept (line_text l) before (line_unbroken l form) refl (omega (arith, short)) in
    fed (line_text l) before s held refl
    ∙ ap (line_feed s) (line_complete l form)
    ∙ rw place (ap (λ k. ((line_number n, l) ∷ [], Ok (record { line_bytes = limit; line = []; number = k; begun = true; ended = is_end l }))) (next_line n))

on_line : (l : Line) (ls : List Line) (s t : State) (found : List (ℕ × Line)) → steps (line_text l ++ 10 ∷ []) s ≡ (found, Ok t)
    → steps (cert_lines_text (l ∷ ls)) s ≡ add_lines found (steps (cert_lines_text ls) t)
on_line l ls s t found is =
    ap (λ bytes. steps bytes s) (sym (append_assoc (line_text l) (10 ∷ []) (cert_lines_text ls)))
    ∙ steps-append (line_text l ++ 10 ∷ []) (cert_lines_text ls) s
    ∙ ap (λ o. on o (steps (cert_lines_text ls))) is

header_other : (l : Line) → is_header l ≡ false → beq (is_header l) true ≡ false
header_other l e = rw e refl

-- lines behind the first
pub later_read : (limit : ℕ) (ls : List Line) (n : ℕ) → AreLater limit ls
    → steps (cert_lines_text ls) (at_line limit n true false) ≡ (numbered_lines n ls, Ok (at_line limit (n + length ls) true (has_end ls)))
later_read limit [] n later = let e : n ≡ n + 0 = omega arith in ap (λ k. ([], Ok (at_line limit k true false))) e
later_read limit (l ∷ ls) n later =
    on_line l ls (at_line limit n true false) (at_line limit (n + 1) true (is_end l)) ((line_number n, l) ∷ [])
    (line_read limit l n true later.0 later.1 (header_other l later.2))
    ∙ by_end (is_end l) refl ls n later.3 (λ m. later_read limit ls m later.4)
  where
    by_end : (ends : Bool) → is_end l ≡ ends → (ks : List Line) (n : ℕ) → (is_end l ≡ true → ks ≡ [])
        → ((m : ℕ) → steps (cert_lines_text ks) (at_line limit m true false) ≡ (numbered_lines m ks, Ok (at_line limit (m + length ks) true (has_end ks))))
        → add_lines ((line_number n, l) ∷ []) (steps (cert_lines_text ks) (at_line limit (n + 1) true ends)) ≡
        (numbered_lines n (l ∷ ks), Ok (at_line limit (n + length (l ∷ ks)) true (has_end (l ∷ ks))))
    by_end false is ks n none more = let e : n + 1 + length ks ≡ n + length (l ∷ ks) = omega arith in ap (add_lines ((line_number n, l) ∷ [])) (more (n + 1))
        ∙ rw (is, e) refl
    by_end true is [] n none more = rw is refl
    by_end true is (k ∷ ks) n none more = let nothing = none is in absurd cc

pub header_end : (l : Line) → is_header l ≡ true → is_end l ≡ false
header_end line.End e = absurd (false≢true e)
header_end _ e = refl

-- the first line and those behind it
pub lines_read : (limit : ℕ) (ls : List Line) → AreLines limit ls
    → steps (cert_lines_text ls) (start limit) ≡ (numbered_lines 0 ls, Ok (at_line limit (length ls) (has_line ls) (has_end ls)))
lines_read limit [] are = refl
lines_read limit (l ∷ ls) are =
    let first = are.0 in
    let ends = header_end l first.2 in
    let e : 1 + length ls ≡ length (l ∷ ls) = omega arith in
    let same : has_end ls ≡ has_end (l ∷ ls) = rw ends refl in
    on_line l ls (start limit) (at_line limit 1 true (is_end l)) ((1, l) ∷ []) (line_read limit l 0 false first.0 first.1 (rw first.2 refl))
    ∙ ap (λ b. add_lines ((1, l) ∷ []) (steps (cert_lines_text ls) (at_line limit 1 true b))) ends
    ∙ ap (add_lines ((1, l) ∷ [])) (later_read limit ls 1 are.1)
    ∙ ap (λ k. ((1, l) ∷ numbered_lines 1 ls, Ok (at_line limit k true (has_end ls)))) e
    ∙ ap (λ b. ((1, l) ∷ numbered_lines 1 ls, Ok (at_line limit (length (l ∷ ls)) true b))) same

pub written_is_read : (limit : ℕ) (ls : List Line) → AreLines limit ls → has_end ls ≡ true
    → text_lines limit (cert_lines_text ls) ≡ Ok (numbered_lines 0 ls)
written_is_read limit ls are ends = ap finished (lines_read limit ls are) ∙ rw ends refl

-- ---- pieces

on_same : (o : Outcome) (f g : State → Outcome) → ((t : State) → f t ≡ g t) → on o f ≡ on o g
on_same (xs, Ok s) f g same = ap (add_lines xs) (same s)
on_same (xs, Err e) f g same = refl

pub pieces_same : (pieces : List (List ℕ)) (s : State) → by_pieces pieces s ≡ steps (concat pieces) s
pieces_same [] s = refl
pieces_same (piece ∷ pieces) s = on_same (steps piece s) (by_pieces pieces) (steps (concat pieces)) (pieces_same pieces)
    ∙ sym (steps-append piece (concat pieces) s)
