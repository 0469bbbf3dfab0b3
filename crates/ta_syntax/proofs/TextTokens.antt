-- Each text has tokens, or a first refused byte.
use Rattle.ta_syntax.proofs.Common.{Option, Some, None, MatchOption, ◌≡◌, ℕ, zero, suc, ◌-◌, ◌<◌, Bool, true, false, List, [], ◌∷◌, ◌++◌, length, take, drop}
use Rattle.ta_syntax.proofs.Common.{inl, inr, ⊎_elim, refl, sym, ap, ◌∙◌, arith, eqb-true, take-append-drop, ◌==◌, is_ascii_digit, prefix_len, nat_tests}
use Rattle.ta_syntax.proofs.Common.{begins_word, is_white, is_lone, mark_bytes, is_letter, is_word, BeginsByLetter, lengthens, IsLongest, IsSpace, AreTokens}
use Rattle.ta_syntax.proofs.Common.{begins_mark, IsRefused, MarkAt, BeginsNoGap, TokenFrom, NoToken, SkipsGap, Kind, Mark, Token, ◌⊎◌, Fails, fails_after}
use Rattle.std.proofs.lemmas.Bool.{cases_Bool, cases_eq}
use Rattle.ta_syntax.proofs.Words.{name_from, number_from}
use Rattle.ta_syntax.proofs.UniqueTokens.{keyword_of, keyword_is, of_word, IsWordMark}
use Rattle.ta_syntax.proofs.Scans.{ScanSoFar, scan_begins, scan_goes_on, scan_ends, scan_stops, after_shorter, kind_some}
use Rattle.ta_syntax.specs.declared.tokens.Kind.TheVariants as kind
use Rattle.ta_syntax.specs.declared.tokens.Mark.TheVariants as mark
use Rattle.ta_syntax.specs.declared.fault.FileFault.TheVariants as fault

-- ---- gaps

-- the bytes begin with white space and comments, inside a comment or not
record Gap (inside : Bool) (bytes : List ℕ) : Type 0 where
  gap : List ℕ
  rest : List ℕ
  split : bytes ≡ gap ++ rest
  space : IsSpace false inside gap ⊎ (IsSpace true inside gap × (rest ≡ []))
  begins : BeginsNoGap rest

longer : (before inside : Bool) (b : ℕ) (bs : List ℕ) → ((last : Bool) (gap : List ℕ) → IsSpace last inside gap → IsSpace last before (b ∷ gap)) → Gap inside bs
    → Gap before (b ∷ bs)
longer before inside b bs f g = record {
  gap = b ∷ g.gap;
  rest = g.rest;
  split = ap (λ (x : List ℕ). b ∷ x) g.split;
  space = ⊎_elim (λ (s : IsSpace false inside g.gap). inl (f false g.gap s)) (λ (s : IsSpace true inside g.gap × (g.rest ≡ [])). inr (f true g.gap s.0, s.1))
      g.space;
  begins = g.begins;
}

gap_of : (inside : Bool) (bytes : List ℕ) → Gap inside bytes
gap_of false [] = record { gap = []; rest = []; split = refl; space = inl tt; begins = tt }
gap_of true [] = record { gap = []; rest = []; split = refl; space = inr (refl, refl); begins = tt }
gap_of true (b ∷ bs) =
    ⊎_elim
    (λ (e : b ≡ 10). longer true false b bs (λ last gap s. inl (e, s)) (gap_of false bs))
    (λ (n : b ≡ 10 → ⊥). longer true true b bs (λ last gap s. inr (n, s)) (gap_of true bs))
    (cases_eq b 10)
gap_of false (b ∷ bs) =
    ⊎_elim
    (λ (w : is_white b ≡ true). longer false false b bs (λ last gap s. inl (w, s)) (gap_of false bs))
    (λ (w : is_white b ≡ false). ⊎_elim
    (λ (e : b ≡ 35). longer false true b bs (λ last gap s. inr (e, s)) (gap_of true bs))
    (λ (n : b ≡ 35 → ⊥). record { gap = []; rest = b ∷ bs; split = refl; space = inl tt; begins = (w, n) })
    (cases_eq b 35))
    (cases_Bool (is_white b))

skips : (bytes : List ℕ) (g : Gap false bytes) → SkipsGap bytes g.rest
skips bytes g = (g.gap, g.split, g.space)

-- ---- signs
abbrev Sign : List ℕ → Type 0
Sign bytes = (m : Mark) × (rest : List ℕ) × MarkAt bytes m rest

never_longer : (m : Mark) → ((c : ℕ) → lengthens (kind.Fixed m) c ≡ false) → (rest : List ℕ) → IsLongest (kind.Fixed m) rest
never_longer m h [] = tt
never_longer m h (c ∷ rest) = h c

-- a sign of one byte, of which no longer one begins
alone : (n : ℕ) (m : Mark) → mark_bytes m ≡ n ∷ [] → ((c : ℕ) → lengthens (kind.Fixed m) c ≡ false) → (b : ℕ) (bs : List ℕ) → b ≡ n → Sign (b ∷ bs)
alone n m spelled never b bs e = (m, bs, (ap (λ (z : ℕ). z ∷ bs) e ∙ ap (λ (z : List ℕ). z ++ bs) (sym spelled), never_longer m never bs))

-- a sign of two bytes, or that of the first alone
pair : (n c : ℕ) (short long : Mark) → mark_bytes short ≡ n ∷ [] → mark_bytes long ≡ n ∷ c ∷ [] → ((x : ℕ) → lengthens (kind.Fixed short) x ≡ (x == c))
    → ((x : ℕ) → lengthens (kind.Fixed long) x ≡ false) → (b : ℕ) (bs : List ℕ) → b ≡ n → Sign (b ∷ bs)
pair n c short long s l ends never b [] e = (short, [], (ap (λ (z : ℕ). z ∷ []) e ∙ ap (λ (z : List ℕ). z ++ []) (sym s), tt))
pair n c short long s l ends never b (x ∷ bs) e =
    ⊎_elim
    (λ (t : (x == c) ≡ true). (
      long,
      bs,
      (ap (λ (z : ℕ). z ∷ x ∷ bs) e ∙ ap (λ (z : ℕ). n ∷ z ∷ bs) (eqb-true x c t) ∙ ap (λ (z : List ℕ). z ++ bs) (sym l), never_longer long never bs),
    ))
    (λ (t : (x == c) ≡ false). (short, x ∷ bs, (ap (λ (z : ℕ). z ∷ x ∷ bs) e ∙ ap (λ (z : List ℕ). z ++ x ∷ bs) (sym s), ends x ∙ t)))
    (cases_Bool (x == c))

-- a byte that begins a sign with another of its kind
record OtherByte (b : ℕ) : Type 0 where
  plus : b ≡ 43 → ⊥
  minus : b ≡ 45 → ⊥
  less : b ≡ 60 → ⊥
  more : b ≡ 62 → ⊥
  semicolon : b ≡ 59 → ⊥
  comma : b ≡ 44 → ⊥
  colon : b ≡ 58 → ⊥
  open_brace : b ≡ 123 → ⊥
  close_brace : b ≡ 125 → ⊥
  opening : b ≡ 40 → ⊥
  closing : b ≡ 41 → ⊥
  star : b ≡ 42 → ⊥

not_lone : (b : ℕ) → OtherByte b → is_lone b ≡ false
not_lone b o = let f1 = o.plus in let f2 = o.minus in let f3 = o.less in let f4 = o.more in let f5 = o.semicolon in let f6 = o.comma in let f7 = o.colon in
    let f8 = o.open_brace in let f9 = o.close_brace in let f10 = o.opening in let f11 = o.closing in let f12 = o.star in grind (arith, nat_tests)

-- two equals signs, where none of the other signs stands
equal : (b : ℕ) (bs : List ℕ) → OtherByte b → begins_mark (b ∷ bs) ≡ true → Sign (b ∷ bs)
equal b [] o h = absurd (let f = not_lone b o in cc)
equal b (c ∷ bs) o h = step (cases_Bool (b == 61)) (cases_Bool (c == 61))
  where
    step : ((b == 61) ≡ true) ⊎ ((b == 61) ≡ false) → ((c == 61) ≡ true) ⊎ ((c == 61) ≡ false) → Sign (b ∷ c ∷ bs)
    step (inl e) (inl f) = (
      mark.Equal,
      bs,
      (ap (λ (z : ℕ). z ∷ c ∷ bs) (eqb-true b 61 e) ∙ ap (λ (z : ℕ). 61 ∷ z ∷ bs) (eqb-true c 61 f), never_longer mark.Equal (λ x. refl) bs),
    )
    step (inl e) (inr f) = absurd (let g = not_lone b o in let i : begins_mark (b ∷ c ∷ bs) ≡ false = rw (g, e, f) refl in cc)
    step (inr e) g = absurd (let i = not_lone b o in let j : begins_mark (b ∷ c ∷ bs) ≡ false = rw (i, e) refl in cc)

-- where a sign begins, it stands first
sign_from : (b : ℕ) (bs : List ℕ) → begins_mark (b ∷ bs) ≡ true → Sign (b ∷ bs)
sign_from b bs h =
    ⊎_elim (λ (e : b ≡ 43). pair 43 61 mark.Plus mark.PlusEquals refl refl (λ x. refl) (λ x. refl) b bs e) (λ (plus : b ≡ 43 → ⊥).
    ⊎_elim (λ (e : b ≡ 45). pair 45 62 mark.Minus mark.Arrow refl refl (λ x. refl) (λ x. refl) b bs e) (λ (minus : b ≡ 45 → ⊥).
    ⊎_elim (λ (e : b ≡ 60). pair 60 61 mark.Less mark.AtMost refl refl (λ x. refl) (λ x. refl) b bs e) (λ (less : b ≡ 60 → ⊥).
    ⊎_elim (λ (e : b ≡ 62). pair 62 61 mark.More mark.AtLeast refl refl (λ x. refl) (λ x. refl) b bs e) (λ (more : b ≡ 62 → ⊥).
    ⊎_elim (λ (e : b ≡ 59). alone 59 mark.Semicolon refl (λ x. refl) b bs e) (λ (semicolon : b ≡ 59 → ⊥).
    ⊎_elim (λ (e : b ≡ 44). alone 44 mark.Comma refl (λ x. refl) b bs e) (λ (comma : b ≡ 44 → ⊥).
    ⊎_elim (λ (e : b ≡ 58). alone 58 mark.Colon refl (λ x. refl) b bs e) (λ (colon : b ≡ 58 → ⊥).
    ⊎_elim (λ (e : b ≡ 123). alone 123 mark.OpenBrace refl (λ x. refl) b bs e) (λ (open_brace : b ≡ 123 → ⊥).
    ⊎_elim (λ (e : b ≡ 125). alone 125 mark.CloseBrace refl (λ x. refl) b bs e) (λ (close_brace : b ≡ 125 → ⊥).
    ⊎_elim (λ (e : b ≡ 40). alone 40 mark.Open refl (λ x. refl) b bs e) (λ (opening : b ≡ 40 → ⊥).
    ⊎_elim (λ (e : b ≡ 41). alone 41 mark.Close refl (λ x. refl) b bs e) (λ (closing : b ≡ 41 → ⊥).
    ⊎_elim (λ (e : b ≡ 42). alone 42 mark.Star refl (λ x. refl) b bs e) (λ (star : b ≡ 42 → ⊥).
    equal b bs (record {
      plus = plus;
      minus = minus;
      less = less;
      more = more;
      semicolon = semicolon;
      comma = comma;
      colon = colon;
      open_brace = open_brace;
      close_brace = close_brace;
      opening = opening;
      closing = closing;
      star = star;
    }) h
    ) (cases_eq b 42)) (cases_eq b 41)) (cases_eq b 40)) (cases_eq b 125)) (cases_eq b 123)) (cases_eq b 58)) (cases_eq b 44)) (cases_eq b 59)) (cases_eq b 62))
    (cases_eq b 60)) (cases_eq b 45)) (cases_eq b 43)

-- ---- tokens
abbrev FromToken : List ℕ → Type 0
FromToken bytes = (k : Kind) × (after : List ℕ) × TokenFrom bytes k after

word_ends : (m : Mark) (rest : List ℕ) → IsWordMark m → Fails is_word rest → IsLongest (kind.Fixed m) rest
word_ends m [] w fails = tt
word_ends m (c ∷ rest) w fails = w.longest c ∙ fails

module _ (bytes : List ℕ) (first : BeginsByLetter bytes) where
  abbrev word : List ℕ
  word = take (prefix_len is_word bytes) bytes

  abbrev behind : List ℕ
  behind = drop (prefix_len is_word bytes) bytes

  -- the word that stands first is a keyword or a name
  word_token : FromToken bytes
  word_token = choose (keyword_of word) (keyword_is word (begins_word bytes first))
    where
      choose : (o : Option Mark) → MatchOption o ((m : Mark) → mark_bytes m ≡ word → ⊥) (λ m. mark_bytes m ≡ word) → FromToken bytes
      choose None free = (kind.Name word, behind, name_from bytes first free)
      choose (Some m) spelled = (
        kind.Fixed m,
        behind,
        record {
          split = sym (take-append-drop (prefix_len is_word bytes) bytes) ∙ ap (λ (x : List ℕ). x ++ behind) (sym spelled);
          is = tt;
          longest = word_ends m behind (of_word m word spelled (begins_word bytes first)) (fails_after is_word bytes);
        },
      )

-- a token stands first, or none does
token_or_none : (b : ℕ) (bs : List ℕ) → FromToken (b ∷ bs) ⊎ NoToken (b ∷ bs)
token_or_none b bs =
    ⊎_elim (λ (e : is_letter b ≡ true). inl (word_token (b ∷ bs) e)) (λ (letter : is_letter b ≡ false).
    ⊎_elim (λ (e : is_ascii_digit b ≡ true). inl
    (kind.Number (take (prefix_len is_ascii_digit (b ∷ bs)) (b ∷ bs)), drop (prefix_len is_ascii_digit (b ∷ bs)) (b ∷ bs), number_from (b ∷ bs) e))
    (λ (digit : is_ascii_digit b ≡ false).
    ⊎_elim (λ (e : begins_mark (b ∷ bs) ≡ true). let s = sign_from b bs e in inl (kind.Fixed s.0, s.1, record { split = s.2.0; is = tt; longest = s.2.1 }))
    (λ (sign : begins_mark (b ∷ bs) ≡ false). inr (letter, digit, sign))
    (cases_Bool (begins_mark (b ∷ bs)))) (cases_Bool (is_ascii_digit b))) (cases_Bool (is_letter b))

-- ---- texts
abbrev TokensOrRefused : List ℕ → Type 0
TokensOrRefused bytes = ((ts : List Token) × AreTokens bytes ts) ⊎ ((refused : ℕ) × IsRefused bytes refused)

module _ (bytes rest : List ℕ) (ts : List Token) (so_far : ScanSoFar bytes rest ts)
    (go_on : (after : List ℕ) (us : List Token) → length after < length rest → ScanSoFar bytes after us → TokensOrRefused bytes) where
  went_on : (start after : List ℕ) (k : Kind) → SkipsGap rest start → 0 < length start → TokenFrom start k after → TokensOrRefused bytes
  went_on start after k skip some from =
      let t : Token = record { kind = k; at = length bytes - length start; legal = from.is } in
      go_on after (ts ++ t ∷ []) (after_shorter rest start after k skip from (kind_some k from.is))
      (scan_goes_on bytes rest start after ts t so_far skip some refl from)

  from_start : (start : List ℕ) → SkipsGap rest start → BeginsNoGap start → TokensOrRefused bytes
  from_start [] skip begins = inl (ts, scan_ends bytes rest [] ts so_far skip refl)
  from_start (b ∷ bs) skip begins =
      ⊎_elim
      (λ (t : FromToken (b ∷ bs)). went_on (b ∷ bs) t.1 t.0 skip (omega arith) t.2)
      (λ (none : NoToken (b ∷ bs)). inr (
        length bytes - length (b ∷ bs),
        scan_stops bytes rest (b ∷ bs) ts (length bytes - length (b ∷ bs)) (fault.Byte (length bytes - length (b ∷ bs)))
            so_far skip begins (omega arith) refl (refl, none),
      ))
      (token_or_none b bs)

-- the text from rest on, which has fewer than n bytes
tokens_from : (n : ℕ) (bytes rest : List ℕ) (ts : List Token) → length rest < n → ScanSoFar bytes rest ts → TokensOrRefused bytes
tokens_from zero bytes rest ts few so_far = absurd (omega arith)
tokens_from (suc n) bytes rest ts few so_far =
    let g = gap_of false rest in
    from_start bytes rest ts so_far (λ after us shorter next. tokens_from n bytes after us (omega arith) next) g.rest (skips rest g) g.begins

pub texts_have_tokens : (bytes : List ℕ) → TokensOrRefused bytes
texts_have_tokens bytes = tokens_from (suc (length bytes)) bytes bytes [] (omega arith) (scan_begins bytes)
