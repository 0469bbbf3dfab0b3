-- Where the parser has come to, the tokens before begin a text, and they are within the limits.
use Rattle.ta_syntax.proofs.Common.{refl, ap, sym, subst, ◌≡◌, ◌∙◌, ◌++◌, ◌⊎◌, ◌==◌, inl, inr, ℕ, zero, suc, Bool, true, false, cond, List, [], ◌∷◌}
use Rattle.ta_syntax.proofs.Common.{append_assoc, Ok, Err, Limits, IsKind, IsNameText, Counts, run, counted_after, StaysWithin, IsDeep, IsMany, kinds, Kind}
use Rattle.ta_syntax.proofs.Common.{Mark, Token, Class, code, has, stands, joined, Stop, wrong, many, deep, Production, nothing, one, both, choose, repeat}
use Rattle.ta_syntax.proofs.Common.{barred, Parsed, followed_by, turns, parse, nullable, first}
use Rattle.std.proofs.Common.{get_or}
use Rattle.ta_syntax.proofs.Parsing.{Spans, inside, false_true, has_inside, and_both}
use Rattle.ta_syntax.proofs.Counting.{kinds-append, run-append, within-append}
use Rattle.ta_syntax.proofs.UniqueTokens.{keyword_is}
use Rattle.ta_syntax.specs.declared.tokens.Kind.TheVariants as kind
use Rattle.ta_syntax.specs.declared.tokens.Mark.TheVariants as mark

-- ---- each production has a text, and one that begins with each token that may begin it

abbrev pub marks : List Mark
marks = mark.Semicolon ∷ mark.Comma ∷ mark.Colon ∷ mark.OpenBrace ∷ mark.CloseBrace ∷ mark.Open ∷ mark.Close ∷ mark.Star ∷ mark.Plus ∷ mark.Minus
    ∷ mark.PlusEquals ∷ mark.Arrow ∷ mark.Less ∷ mark.AtMost ∷ mark.Equal ∷ mark.AtLeast ∷ mark.More ∷ mark.Automaton ∷ mark.Parameters ∷ mark.Shared
    ∷ mark.Locations ∷ mark.Initial ∷ mark.Processes ∷ mark.Resilience ∷ mark.Rule ∷ mark.When ∷ mark.Do ∷ mark.Pattern ∷ mark.Start ∷ mark.Empty
    ∷ mark.Event ∷ mark.After ∷ []

abbrev pub example : Class → Kind
example [] = kind.Fixed mark.Semicolon
example (zero ∷ c) = kind.Name (97 ∷ [])
example (suc zero ∷ c) = kind.Number (48 ∷ [])
example (suc (suc n) ∷ c) = kind.Fixed (get_or marks n mark.Semicolon)

-- the name a
letter : IsNameText (97 ∷ [])
letter = record { first = refl; each = (refl, tt); free = keyword_is (97 ∷ []) refl }

legal : (c : Class) → IsKind (example c)
legal [] = tt
legal (zero ∷ c) = letter
legal (suc zero ∷ c) = (refl, tt)
legal (suc (suc n) ∷ c) = tt

abbrev pub Alive : Production → Type 0
Alive nothing = Unit {0}
Alive (one c) = has c (code (example c)) ≡ true
Alive (both a b) = Alive a × Alive b
Alive (choose c a b) = Alive a × Alive b
Alive (repeat c a) = Alive a
Alive (barred s c g) = Alive (g 0) × (inside c (first (g 0)) ≡ true)

pub some_text : (g : Production) → Alive g → (w : List Kind) → (us : List Kind) × Spans true g us w
some_text nothing v w = (w, refl)
some_text (one c) v w = (example c ∷ w, (legal c, v, refl))
some_text (both a b) v w = let y = some_text b v.1 w in let x = some_text a v.0 y.0 in (x.0, (y.0, x.1, y.1))
some_text (choose c a b) v w = let x = some_text a v.0 w in (x.0, inl x.1)
some_text (repeat c a) v w = (w, (0, refl))
some_text (barred s c g) v w = let x = some_text (g 0) v.0 w in (x.0, (refl, 0, x.1))

or_either : (b x y z : Bool) → (y ≡ true → (x ≡ true) ⊎ (z ≡ true)) → cond b true y ≡ true → (cond b true x ≡ true) ⊎ (z ≡ true)
or_either true x y z f h = inl refl
or_either false x y z f h = f h

has_joined : (xs ys : Class) (n : ℕ) → has (joined xs ys) n ≡ true → (has xs n ≡ true) ⊎ (has ys n ≡ true)
has_joined [] ys n h = inr h
has_joined (x ∷ xs) ys n h = or_either (n == x) (has xs n) (has (joined xs ys) n) (has ys n) (has_joined xs ys n) h

null_choose : (c : Class) (a b : Production) (w : List Kind) (t : Bool) → (nullable a ≡ true → (w : List Kind) → Spans true a w w)
    → (nullable b ≡ true → (w : List Kind) → Spans true b w w) → nullable a ≡ t → cond t true (nullable b) ≡ true → Spans true (choose c a b) w w
null_choose c a b w true f g e n = inl (f e w)
null_choose c a b w false f g e n = inr (g n w)

null_text : (g : Production) → nullable g ≡ true → (w : List Kind) → Spans true g w w
null_text nothing n w = refl
null_text (one c) n w = absurd (false_true n)
null_text (both a b) n w = let h = and_both (nullable a) (nullable b) n in (w, null_text a h.0 w, null_text b h.1 w)
null_text (choose c a b) n w = null_choose c a b w (nullable a) (null_text a) (null_text b) refl n
null_text (repeat c a) n w = (0, refl)
null_text (barred s c g) n w = absurd (false_true n)

abbrev From : Production → Kind → Type 0
From g k = has (first g) (code k) ≡ true → (w : List Kind) → (us : List Kind) × Spans true g (k ∷ us) w

from_both : (a b : Production) (k : Kind) (w : List Kind) (t : Bool) → Alive b → From a k → From b k → nullable a ≡ t
    → (has (first a) (code k) ≡ true) ⊎ (has (cond t (first b) []) (code k) ≡ true) → (us : List Kind) × Spans true (both a b) (k ∷ us) w
from_both a b k w t v f g e (inl h) = let y = some_text b v w in let x = f h y.0 in (x.0, (y.0, x.1, y.1))
from_both a b k w true v f g e (inr h) = let y = g h w in (y.0, (k ∷ y.0, null_text a e (k ∷ y.0), y.1))
from_both a b k w false v f g e (inr h) = absurd (false_true h)

from_choose : (c : Class) (a b : Production) (k : Kind) (w : List Kind) → From a k → From b k
    → (has (first a) (code k) ≡ true) ⊎ (has (first b) (code k) ≡ true) → (us : List Kind) × Spans true (choose c a b) (k ∷ us) w
from_choose c a b k w f g (inl h) = let x = f h w in (x.0, inl x.1)
from_choose c a b k w f g (inr h) = let x = g h w in (x.0, inr x.1)

pub text_from : (g : Production) (k : Kind) → Alive g → IsKind k → has (first g) (code k) ≡ true → (w : List Kind) → (us : List Kind) × Spans true g (k ∷ us) w
text_from nothing k v l h w = absurd (false_true h)
text_from (one c) k v l h w = (w, (l, h, refl))
text_from (both a b) k v l h w = from_both a b k w (nullable a) v.1 (text_from a k v.0 l) (text_from b k v.1 l) refl
    (has_joined (first a) (cond (nullable a) (first b) []) (code k) h)
text_from (choose c a b) k v l h w = from_choose c a b k w (text_from a k v.0 l) (text_from b k v.1 l) (has_joined (first a) (first b) (code k) h)
text_from (repeat c a) k v l h w = let x = text_from a k v l h w in (x.0, (1, (w, x.1, refl)))
text_from (barred s c g) k v l h w = let x = text_from (g 0) k v.0 l (has_inside c (first (g 0)) (code k) v.1 h) w in (x.0, (refl, 0, x.1))

-- ---- what was read, and where it stopped

pub record Read (l : Limits) (g : Production) (Q : Counts → Type 0) (c : Counts) (ts rest : List Token) : Type 0 where
  pub front : List Token
  pub split : ts ≡ front ++ rest
  pub within : StaysWithin l c (kinds front)
  pub counted : Q (run l c (kinds front))
  pub spans : (w : List Kind) → Spans true g (kinds front ++ w) w

-- with the token past a limit a text goes on
abbrev pub Resumes : Stop → List Token → List Kind → Type 0
Resumes wrong bad x = Unit {0}
Resumes many [] x = ⊥
Resumes many (t ∷ bad) x = (more : List Kind) × (x ≡ t.kind ∷ more)
Resumes deep [] x = ⊥
Resumes deep (t ∷ bad) x = (more : List Kind) × (x ≡ t.kind ∷ more)

abbrev pub IsOver : Limits → Stop → Counts → Kind → Type 0
IsOver l wrong c k = Unit {0}
IsOver l many c k = IsMany l c k
IsOver l deep c k = IsDeep c k

abbrev pub OverAt : Limits → Stop → Counts → List Token → Type 0
OverAt l wrong c bad = Unit {0}
OverAt l many c [] = ⊥
OverAt l many c (t ∷ bad) = IsMany l c t.kind
OverAt l deep c [] = ⊥
OverAt l deep c (t ∷ bad) = IsDeep c t.kind

pub record Halted (l : Limits) (g : Production) (s : Stop) (c : Counts) (ts bad : List Token) : Type 0 where
  pub front : List Token
  pub split : ts ≡ front ++ bad
  pub within : StaysWithin l c (kinds front)
  pub over : OverAt l s (run l c (kinds front)) bad
  pub goes_on : (w : List Kind) → (x : List Kind) × Spans true g (kinds front ++ x) w × Resumes s bad x

abbrev pub Said : Limits → Production → (Counts → Type 0) → Counts → List Token → Parsed → Type 0
Said l g Q c ts (Ok rest) = Read l g Q c ts rest
Said l g Q c ts (Err e) = Halted l g e.0 c ts e.1

-- from counts with P the parser comes to counts with Q
pub record Says (l : Limits) (g : Production) (P Q : Counts → Type 0) : Type 0 where
  pub alive : Alive g
  pub says : (c : Counts) → P c → (ts : List Token) → Said l g Q c ts (parse g ts)

pub said_as : (l : Limits) (g h : Production) (Q R : Counts → Type 0) (c : Counts) (ts : List Token) (r : Parsed)
    → ((ks w : List Kind) → Spans true g ks w → Spans true h ks w)
    → ((d : Counts) → Q d → R d) → Said l g Q c ts r → Said l h R c ts r
said_as l g h Q R c ts (Ok rest) f q x = record { front = x.front; split = x.split; within = x.within; counted = q _ x.counted; spans = λ w. f _ w (x.spans w) }
said_as l g h Q R c ts (Err (s, bad)) f q x = record {
  front = x.front;
  split = x.split;
  within = x.within;
  over = x.over;
  goes_on = λ w. let y = x.goes_on w in (y.0, f _ w y.1, y.2);
}

pub says_as : {l : Limits} {g : Production} {P P' Q Q' : Counts → Type 0} → ((c : Counts) → P' c → P c) → ((c : Counts) → Q c → Q' c) → Says l g P Q
    → Says l g P' Q'
says_as {l = l} {g = g} {Q = Q} {Q' = Q'} p q h = record {
  alive = h.alive;
  says = λ c x ts. said_as l g g Q Q' c ts (parse g ts) (λ ks w s. s) q (h.says c (p c x) ts);
}

-- given that P holds of the counts, from what holds of them
pub says_each : {l : Limits} {g : Production} {P Q : Counts → Type 0} (R : (c : Counts) → P c → Counts → Type 0) → Alive g
    → ((c : Counts) (p : P c) → Says l g (R c p) Q) → ((c : Counts) (p : P c) → R c p c) → Says l g P Q
says_each R v f h = record { alive = v; says = λ c p ts. let s = f c p in s.says c (h c p) ts }

pub says_nothing : {l : Limits} {P Q : Counts → Type 0} → ((c : Counts) → P c → Q c) → Says l nothing P Q
says_nothing f = record { alive = tt; says = λ c p ts. record { front = []; split = refl; within = tt; counted = f c p; spans = λ w. refl } }

-- a token goes past no limit
abbrev pub Passes : Limits → Counts → Kind → Type 0
Passes l c k = (IsDeep c k → ⊥) × (IsMany l c k → ⊥)

pub says_one : {l : Limits} {P Q : Counts → Type 0} (cl : Class) → Alive (one cl)
    → ((c : Counts) (k : Kind) → P c → has cl (code k) ≡ true → Passes l c k × Q (counted_after l c k)) → Says l (one cl) P Q
says_one {l = l} {P = P} {Q = Q} cl v f = record { alive = v; says = at_each }
  where
    by_test : (c : Counts) → P c → (t : Token) (ts : List Token) (s : Bool) → has cl (code t.kind) ≡ s
        → Said l (one cl) Q c (t ∷ ts) (cond s (Ok ts) (Err (wrong, t ∷ ts)))
    by_test c p t ts true e = let x = f c t.kind p e in record {
      front = t ∷ [];
      split = refl;
      within = (x.0.0, x.0.1, tt);
      counted = x.1;
      spans = λ w. (t.legal, e, refl);
    }
    by_test c p t ts false e = record { front = []; split = refl; within = tt; over = tt; goes_on = λ w. let x = some_text (one cl) v w in (x.0, x.1, tt) }

    at_each : (c : Counts) → P c → (ts : List Token) → Said l (one cl) Q c ts (parse (one cl) ts)
    at_each c p [] = record { front = []; split = refl; within = tt; over = tt; goes_on = λ w. let x = some_text (one cl) v w in (x.0, x.1, tt) }
    at_each c p (t ∷ ts) = by_test c p t ts (has cl (code t.kind)) refl

kinds_two : (a b : List Token) (w : List Kind) → kinds a ++ (kinds b ++ w) ≡ kinds (a ++ b) ++ w
kinds_two a b w = sym (append_assoc (kinds a) (kinds b) w) ∙ ap (λ (z : List Kind). z ++ w) (sym (kinds-append a b))

within_two : (l : Limits) (c : Counts) (a b : List Token) → StaysWithin l c (kinds a) → StaysWithin l (run l c (kinds a)) (kinds b)
    → StaysWithin l c (kinds (a ++ b))
within_two l c a b h g = subst (StaysWithin l c) (sym (kinds-append a b)) (within-append l c (kinds a) (kinds b) h g)

run_two : (l : Limits) (c : Counts) (a b : List Token) → run l (run l c (kinds a)) (kinds b) ≡ run l c (kinds (a ++ b))
run_two l c a b = sym (run-append l c (kinds a) (kinds b)) ∙ ap (run l c) (sym (kinds-append a b))

split_two : (ts a mid b rest : List Token) → ts ≡ a ++ mid → mid ≡ b ++ rest → ts ≡ (a ++ b) ++ rest
split_two ts a mid b rest e f = e ∙ ap (λ (z : List Token). a ++ z) f ∙ sym (append_assoc a b rest)

said_second : (l : Limits) (a b : Production) (R Q : Counts → Type 0) (c : Counts) (ts mid : List Token) (r : Parsed) → (x : Read l a R c ts mid)
    → Said l b Q (run l c (kinds x.front)) mid r → Said l (both a b) Q c ts r
said_second l a b R Q c ts mid (Ok rest) x y = record {
  front = x.front ++ y.front;
  split = split_two ts x.front mid y.front rest x.split y.split;
  within = within_two l c x.front y.front x.within y.within;
  counted = subst Q (run_two l c x.front y.front) y.counted;
  spans = λ w. (
    kinds y.front ++ w,
    subst (λ (z : List Kind). Spans true a z (kinds y.front ++ w)) (kinds_two x.front y.front w) (x.spans (kinds y.front ++ w)),
    y.spans w,
  );
}
said_second l a b R Q c ts mid (Err (s, bad)) x y = record {
  front = x.front ++ y.front;
  split = split_two ts x.front mid y.front bad x.split y.split;
  within = within_two l c x.front y.front x.within y.within;
  over = subst (λ (z : Counts). OverAt l s z bad) (run_two l c x.front y.front) y.over;
  goes_on = λ w.
      let z = y.goes_on w in (
        z.0,
        (
          kinds y.front ++ z.0,
          subst (λ (u : List Kind). Spans true a u (kinds y.front ++ z.0)) (kinds_two x.front y.front z.0)
              (x.spans (kinds y.front ++ z.0)),
          z.1,
        ),
        z.2,
      );
}

said_both : (l : Limits) (a b : Production) (R Q : Counts → Type 0) (c : Counts) (ts : List Token) (next : List Token → Parsed) (r : Parsed)
    → ((w : List Kind) → (us : List Kind) × Spans true b us w)
    → ((d : Counts) → R d → (mid : List Token) → Said l b Q d mid (next mid)) → Said l a R c ts r → Said l (both a b) Q c ts (followed_by next r)
said_both l a b R Q c ts next (Ok mid) v h x = said_second l a b R Q c ts mid (next mid) x (h (run l c (kinds x.front)) x.counted mid)
said_both l a b R Q c ts next (Err (s, bad)) v h x = record {
  front = x.front;
  split = x.split;
  within = x.within;
  over = x.over;
  goes_on = λ w. let y = v w in let z = x.goes_on y.0 in (z.0, (y.0, z.1, y.1), z.2);
}

pub says_both : {l : Limits} {a b : Production} {P R Q : Counts → Type 0} → Says l a P R → Says l b R Q → Says l (both a b) P Q
says_both {l = l} {a = a} {b = b} {R = R} {Q = Q} x y = record {
  alive = (x.alive, y.alive);
  says = λ c p ts. said_both l a b R Q c ts (parse b) (parse a ts) (some_text b y.alive) y.says (x.says c p ts);
}

pub says_choose : {l : Limits} {a b : Production} {P Q : Counts → Type 0} (cl : Class) → Says l a P Q → Says l b P Q → Says l (choose cl a b) P Q
says_choose {l = l} {a = a} {b = b} {P = P} {Q = Q} cl x y = record { alive = (x.alive, y.alive); says = λ c p ts. by_test c p ts (stands cl ts) }
  where
    by_test : (c : Counts) → P c → (ts : List Token) (s : Bool) → Said l (choose cl a b) Q c ts (cond s (parse a ts) (parse b ts))
    by_test c p ts true = said_as l a (choose cl a b) Q Q c ts (parse a ts) (λ ks w s. inl s) (λ d q. q) (x.says c p ts)
    by_test c p ts false = said_as l b (choose cl a b) Q Q c ts (parse b ts) (λ ks w s. inr s) (λ d q. q) (y.says c p ts)

says_turns : (l : Limits) (cl : Class) (a : Production) (P : Counts → Type 0) → Says l a P P → (fuel : List Token) (c : Counts) → P c → (ts : List Token)
    → Said l (repeat cl a) P c ts (turns (parse a) cl ts fuel)
says_turns l cl a P x [] c p ts = record { front = []; split = refl; within = tt; counted = p; spans = λ w. (0, refl) }
says_turns l cl a P x (t ∷ fuel) c p ts = by_test (stands cl ts) (said_both l a (repeat cl a) P P c ts (λ rest. turns (parse a) cl rest fuel) (parse a ts)
    (λ w. (w, (0, refl))) (says_turns l cl a P x fuel) (x.says c p ts))
  where
    by_test : (s : Bool) → Said l (both a (repeat cl a)) P c ts (followed_by (λ rest. turns (parse a) cl rest fuel) (parse a ts))
        → Said l (repeat cl a) P c ts (cond s (followed_by (λ rest. turns (parse a) cl rest fuel) (parse a ts)) (Ok ts))
    by_test true h = said_as l (both a (repeat cl a)) (repeat cl a) P P c ts _ (λ ks w s. (suc s.2.0, (s.0, s.1, s.2.1))) (λ d q. q) h
    by_test false h = record { front = []; split = refl; within = tt; counted = p; spans = λ w. (0, refl) }

pub says_repeat : {l : Limits} {a : Production} {P : Counts → Type 0} (cl : Class) → Says l a P P → Says l (repeat cl a) P P
says_repeat {l = l} {a = a} {P = P} cl x = record { alive = x.alive; says = λ c p ts. says_turns l cl a P x ts c p ts }

pub says_barred : {l : Limits} {P Q : Counts → Type 0} (s : Stop) (cl : Class) (g : ℕ → Production) → Alive (barred s cl g)
    → ((c : Counts) (k : Kind) → P c → has cl (code k) ≡ true → IsOver l s c k) → Says l (barred s cl g) P Q
says_barred {l = l} {P = P} {Q = Q} s cl g v f = record { alive = v; says = at_each }
  where
    over_at : (c : Counts) (t : Token) (ts : List Token) (s : Stop) → IsOver l s c t.kind → OverAt l s c (t ∷ ts)
    over_at c t ts wrong h = tt
    over_at c t ts many h = h
    over_at c t ts deep h = h

    resumes : (t : Token) (ts : List Token) (s : Stop) (us : List Kind) → Resumes s (t ∷ ts) (t.kind ∷ us)
    resumes t ts wrong us = tt
    resumes t ts many us = (us, refl)
    resumes t ts deep us = (us, refl)

    by_test : (c : Counts) → P c → (t : Token) (ts : List Token) (b : Bool) → has cl (code t.kind) ≡ b
        → Halted l (barred s cl g) (cond b s wrong) c (t ∷ ts) (t ∷ ts)
    by_test c p t ts true e = record {
      front = [];
      split = refl;
      within = tt;
      over = over_at c t ts s (f c t.kind p e);
      goes_on = λ w. let x = text_from (barred s cl g) t.kind v t.legal e w in (t.kind ∷ x.0, x.1, resumes t ts s x.0);
    }
    by_test c p t ts false e = record {
      front = [];
      split = refl;
      within = tt;
      over = tt;
      goes_on = λ w. let x = some_text (barred s cl g) v w in (x.0, x.1, tt);
    }

    at_each : (c : Counts) → P c → (ts : List Token) → Said l (barred s cl g) Q c ts (parse (barred s cl g) ts)
    at_each c p [] = record { front = []; split = refl; within = tt; over = tt; goes_on = λ w. let x = some_text (barred s cl g) v w in (x.0, x.1, tt) }
    at_each c p (t ∷ ts) = by_test c p t ts (has cl (code t.kind)) refl
