-- What the parser answers of the tokens of a file: they are those of a tree within the limits, or there is a first error.
use Rattle.ta_syntax.proofs.Common.{refl, ap, sym, subst, ◌≡◌, ◌∙◌, ◌++◌, ◌≤◌, ℕ, true, false, List, [], ◌∷◌, length, arith, append_assoc, Ok, Err, append-nil}
use Rattle.ta_syntax.proofs.Common.{Limits, Either, StopsReading, PlainTree, IsTree, FileText, file_kinds, Counts, at_start, run, StaysWithin, IsDeep, IsMany}
use Rattle.ta_syntax.proofs.Common.{kinds, SameStart, offset_of, IsWrong, IsPast, Kind, Token, wrong, many, deep, Parsed, parse, file, AllByRecursion, IsKind}
use Rattle.ta_syntax.proofs.Common.{IsTreeWithin, counted_after}
use Rattle.ta_syntax.specs.Faults.{Refuses}
use Rattle.ta_syntax.proofs.Parsing.{Spans, Agrees, Goes, GoesOn, goes, IsRead, is_read, false_true}
use Rattle.ta_syntax.proofs.Halting.{Said, Read, Halted}
use Rattle.ta_syntax.proofs.UniqueTrees.{file_unique}
use Rattle.ta_syntax.proofs.FileReady.{ready_file}
use Rattle.ta_syntax.proofs.FileSpans.{t_file, file_legal}
use Rattle.ta_syntax.proofs.FileCounts.{says_file}
use Rattle.ta_syntax.proofs.Counting.{kinds-append}
use Rattle.ta_syntax.specs.declared.fault.FileFault.TheVariants as fault

-- ---- tokens and kinds

-- kinds that go on as the tokens do, up to the first of `bad`
agrees_there : (front bad : List Token) (other : List Kind) → SameStart (kinds bad) other → Agrees (length bad) (front ++ bad) (kinds front ++ other)
agrees_there [] [] other same = same
agrees_there [] (t ∷ bad) [] same = let e = same.1 in cc
agrees_there [] (t ∷ bad) (k ∷ other) same = let e = same.1 in ((cc), λ le. absurd (omega arith))
agrees_there (t ∷ front) bad other same = (refl, λ le. agrees_there front bad other same)

-- tokens of these kinds
abbrev tokens_of : (ks : List Kind) → AllByRecursion IsKind ks → List Token
tokens_of [] all = []
tokens_of (k ∷ ks) all = record { kind = k; at = 0; legal = all.0 } ∷ tokens_of ks all.1

kinds_of-tokens : (ks : List Kind) (all : AllByRecursion IsKind ks) → kinds (tokens_of ks all) ≡ ks
kinds_of-tokens [] all = refl
kinds_of-tokens (k ∷ ks) all = ap (λ (z : List Kind). k ∷ z) (kinds_of-tokens ks all.1)

agrees_all : (ts : List Token) → Agrees 0 ts (kinds ts)
agrees_all [] = refl
agrees_all (t ∷ ts) = (refl, λ le. agrees_all ts)

pub same_start : (ks : List Kind) → SameStart ks ks
same_start [] = refl
same_start (k ∷ ks) = (ks, refl)

module _ (l : Limits) where
  file_says : (ts : List Token) → Said l (file l) (λ c. Unit {0}) at_start ts (parse (file l) ts)
  file_says ts = let s = says_file l in s.says at_start refl ts

  text_is : (ks : List Kind) → Spans true (file l) ks [] → FileText ks
  text_is ks s = let t = t_file true l in let x = t.from ks [] s in (x.0, x.1.0, sym (append-nil (file_kinds x.0)) ∙ sym x.2)

  spans_text : (ks : List Kind) → FileText ks → Spans true (file l) ks []
  spans_text ks x = let t = t_file true l in subst (λ (z : List Kind). Spans true (file l) z []) (append-nil (file_kinds x.0) ∙ x.2)
      (t.to x.0 (x.1, λ e. absurd (false_true (sym e))) [])

  -- no text goes on with the first of `bad`
  refused_there : (ts front bad : List Token) (r : Parsed) → ts ≡ front ++ bad → parse (file l) ts ≡ r
      → ((other : List Kind) → SameStart (kinds bad) other → Goes true (length bad) [] r → ⊥) → (length bad ≤ length (Rattle.ta_syntax.proofs.Parsing.left r))
      → Refuses FileText (kinds front) (kinds bad)
  refused_there ts front bad r split e never le other same text =
      never other same (subst (GoesOn true (length bad) []) e (goes true (file l) [] (length bad) ts (kinds front ++ other) [] (ready_file l)
      (subst (λ (z : List Token). Agrees (length bad) z (kinds front ++ other)) (sym split) (agrees_there front bad other same))
      (spans_text (kinds front ++ other) text) tt) le)

  pub wrong_there : (end : ℕ) (ts bad : List Token) → parse (file l) ts ≡ Err (wrong, bad) → IsWrong l FileText at_start end ts (offset_of end bad)
  wrong_there end ts bad e =
      let x : Halted l (file l) wrong at_start ts bad = subst (Said l (file l) (λ c. Unit {0}) at_start ts) e (file_says ts) in
      let y = x.goes_on [] in
      record {
        front = x.front;
        bad = bad;
        split = x.split;
        place = refl;
        begins = (y.0, text_is (kinds x.front ++ y.0) y.1);
        refused = refused_there ts x.front bad (Err (wrong, bad)) x.split e (λ other same g. g) (omega arith);
        within = x.within;
      }

  pub trailing_there : (end : ℕ) (ts : List Token) (t : Token) (bad : List Token) → parse (file l) ts ≡ Ok (t ∷ bad) → IsWrong l FileText at_start end ts t.at
  trailing_there end ts t bad e =
      let x : Read l (file l) (λ c. Unit {0}) at_start ts (t ∷ bad) = subst (Said l (file l) (λ c. Unit {0}) at_start ts) e (file_says ts) in
      record {
        front = x.front;
        bad = t ∷ bad;
        split = x.split;
        place = refl;
        begins = ([], text_is (kinds x.front ++ []) (x.spans []));
        refused = refused_there ts x.front (t ∷ bad) (Ok (t ∷ bad)) x.split e (λ other same g. g) (omega arith);
        within = x.within;
      }

  past_there : (over : Counts → Kind → Type 0) (ts front bad : List Token) (t : Token) (x more : List Kind) → ts ≡ front ++ t ∷ bad
      → StaysWithin l at_start (kinds front)
      → over (run l at_start (kinds front)) t.kind → Spans true (file l) (kinds front ++ x) [] → x ≡ t.kind ∷ more → IsPast l over FileText at_start ts t.at
  past_there over ts front bad t x more split within past s e = record {
    front = front;
    first = t;
    bad = bad;
    split = split;
    place = refl;
    begins = (
      more,
      subst FileText (ap (λ (z : List Kind). kinds front ++ z) e ∙ sym (append_assoc (kinds front) (t.kind ∷ []) more))
          (text_is (kinds front ++ x) s),
    );
    within = within;
    past = past;
  }

  pub many_there : (end : ℕ) (ts bad : List Token) → parse (file l) ts ≡ Err (many, bad) → IsPast l (IsMany l) FileText at_start ts (offset_of end bad)
  many_there end ts bad e = by_bad bad (subst (Said l (file l) (λ c. Unit {0}) at_start ts) e (file_says ts))
    where
      by_bad : (bad : List Token) → Halted l (file l) many at_start ts bad → IsPast l (IsMany l) FileText at_start ts (offset_of end bad)
      by_bad [] x = absurd x.over
      by_bad (t ∷ bad) x = let y = x.goes_on [] in past_there (IsMany l) ts x.front bad t y.0 y.2.0 x.split x.within x.over y.1 y.2.1

  pub deep_there : (end : ℕ) (ts bad : List Token) → parse (file l) ts ≡ Err (deep, bad) → IsPast l IsDeep FileText at_start ts (offset_of end bad)
  deep_there end ts bad e = by_bad bad (subst (Said l (file l) (λ c. Unit {0}) at_start ts) e (file_says ts))
    where
      by_bad : (bad : List Token) → Halted l (file l) deep at_start ts bad → IsPast l IsDeep FileText at_start ts (offset_of end bad)
      by_bad [] x = absurd x.over
      by_bad (t ∷ bad) x = let y = x.goes_on [] in past_there IsDeep ts x.front bad t y.0 y.2.0 x.split x.within x.over y.1 y.2.1

  pub whole_there : (ts : List Token) → parse (file l) ts ≡ Ok [] → FileText (kinds ts) × StaysWithin l at_start (kinds ts)
  whole_there ts e =
      let x : Read l (file l) (λ c. Unit {0}) at_start ts [] = subst (Said l (file l) (λ c. Unit {0}) at_start ts) e (file_says ts) in
      let same : x.front ≡ ts = sym (x.split ∙ append-nil x.front) in (
        subst (λ (z : List Token). FileText (kinds z)) same (subst FileText (append-nil (kinds x.front)) (text_is (kinds x.front ++ []) (x.spans []))),
        subst (λ (z : List Token). StaysWithin l at_start (kinds z)) same x.within,
      )

  -- ---- the two statements of the limits agree

  -- a text within the limits is parsed to its end
  whole_parse : (ts : List Token) (t : PlainTree) → IsTree t → IsTreeWithin l t → kinds ts ≡ file_kinds t → parse (file l) ts ≡ Ok []
  whole_parse ts t is within e =
      let tells = t_file false l in
      let spans : Spans false (file l) (kinds ts) [] = subst (λ (z : List Kind). Spans false (file l) z []) (append-nil (file_kinds t) ∙ sym e)
      (tells.to t (is, λ f. within) []) in
      by_parse (parse (file l) ts) refl (goes false (file l) [] 0 ts (kinds ts) [] (ready_file l) (agrees_all ts) spans tt (omega arith))
    where
      by_parse : (r : Parsed) → parse (file l) ts ≡ r → Goes false 0 [] r → parse (file l) ts ≡ Ok []
      by_parse (Ok []) e g = e
      by_parse (Ok (t ∷ rest)) e g = absurd g
      by_parse (Err (wrong, bad)) e g = absurd g
      by_parse (Err (many, bad)) e g = absurd (false_true g)
      by_parse (Err (deep, bad)) e g = absurd (false_true g)

  pub tree_scan : (t : PlainTree) → IsTree t → IsTreeWithin l t → StaysWithin l at_start (file_kinds t)
  tree_scan t is within =
      let all = file_legal t is in
      let ts = tokens_of (file_kinds t) all in
      let e = kinds_of-tokens (file_kinds t) all in
      let w = whole_there ts (whole_parse ts t is within e) in
      subst (StaysWithin l at_start) e w.1

  -- a text has no wrong token
  pub text_goes_on : (c : Counts) (end at : ℕ) (ts : List Token) → FileText (kinds ts) → IsWrong l FileText c end ts at → ⊥
  text_goes_on c end at ts text w = w.refused (kinds w.bad) (same_start (kinds w.bad)) (subst FileText (ap kinds w.split ∙ kinds-append w.front w.bad) text)

  within_at : (c : Counts) (a : List Kind) (k : Kind) (b : List Kind) → StaysWithin l c (a ++ k ∷ b) → (IsDeep (run l c a) k → ⊥) × (IsMany l (run l c a) k → ⊥)
  within_at c [] k b w = (w.0, w.1)
  within_at c (x ∷ a) k b w = within_at (counted_after l c x) a k b w.2

  -- within the limits no token is past one
  pub not_past : (over : Counts → Kind → Type 0) (c : Counts) (ts : List Token) (at : ℕ)
      → ((d : Counts) (k : Kind) → (IsDeep d k → ⊥) × (IsMany l d k → ⊥) → over d k → ⊥) → StaysWithin l c (kinds ts) → IsPast l over FileText c ts at → ⊥
  not_past over c ts at never within w = never (run l c (kinds w.front)) w.first.kind
      (within_at c (kinds w.front) w.first.kind (kinds w.bad)
      (subst (StaysWithin l c) (ap kinds w.split ∙ kinds-append w.front (w.first ∷ w.bad)) within)) w.past

  pub tree_limits : (t : PlainTree) → IsTree t → StaysWithin l at_start (file_kinds t) → IsTreeWithin l t
  tree_limits t is within = by_parse (tokens_of (file_kinds t) (file_legal t is)) (kinds_of-tokens (file_kinds t) (file_legal t is))
    where
      by_result : (ts : List Token) → kinds ts ≡ file_kinds t → (r : Parsed) → parse (file l) ts ≡ r → IsRead (file l) ts r → IsTreeWithin l t
      by_result ts e (Ok []) p x =
          let tells = t_file false l in
          let u = tells.from (kinds ts) [] x in
          let same : t ≡ u.0 = file_unique t u.0 is u.1.0 (sym e ∙ u.2 ∙ append-nil (file_kinds u.0)) in
          subst (IsTreeWithin l) (sym same) (u.1.1 refl)
      by_result ts e (Ok (k ∷ bad)) p x = absurd (text_goes_on at_start 0 k.at ts (t, is, sym e) (trailing_there 0 ts k bad p))
      by_result ts e (Err (wrong, bad)) p x = absurd (text_goes_on at_start 0 (offset_of 0 bad) ts (t, is, sym e) (wrong_there 0 ts bad p))
      by_result ts e (Err (many, bad)) p x = absurd
          (not_past (IsMany l) at_start ts (offset_of 0 bad) (λ d k n. n.1) (subst (StaysWithin l at_start) (sym e) within) (many_there 0 ts bad p))
      by_result ts e (Err (deep, bad)) p x = absurd
          (not_past IsDeep at_start ts (offset_of 0 bad) (λ d k n. n.0) (subst (StaysWithin l at_start) (sym e) within) (deep_there 0 ts bad p))

      by_parse : (ts : List Token) → kinds ts ≡ file_kinds t → IsTreeWithin l t
      by_parse ts e = by_result ts e (parse (file l) ts) refl (is_read (file l) ts)

  -- tokens are a text of the grammar within the limits, or leave one of the two at a first token
  pub tokens_have_answers : (end : ℕ) (ts : List Token)
      → Either (FileText (kinds ts) × StaysWithin l at_start (kinds ts)) (StopsReading l FileText at_start end ts)
  tokens_have_answers end ts = by_parse (parse (file l) ts) refl
    where
      by_parse : (r : Parsed) → parse (file l) ts ≡ r → Either (FileText (kinds ts) × StaysWithin l at_start (kinds ts))
          (StopsReading l FileText at_start end ts)
      by_parse (Ok []) e no_text no_stop = no_text (whole_there ts e)
      by_parse (Ok (t ∷ bad)) e no_text no_stop = no_stop (fault.Syntax t.at, (λ f. cc), trailing_there end ts t bad e)
      by_parse (Err (wrong, bad)) e no_text no_stop = no_stop (fault.Syntax (offset_of end bad), (λ f. cc), wrong_there end ts bad e)
      by_parse (Err (many, bad)) e no_text no_stop = no_stop (fault.TooMany (offset_of end bad), (λ f. cc), many_there end ts bad e)
      by_parse (Err (deep, bad)) e no_text no_stop = no_stop (fault.TooDeep (offset_of end bad), (λ f. cc), deep_there end ts bad e)
