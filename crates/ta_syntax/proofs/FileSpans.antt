-- The texts of the productions are those of the grammar's trees.
use Rattle.ta_syntax.proofs.Common.{refl, ap, sym, subst, ◌≡◌, ◌∙◌, ◌++◌, ◌⊎◌, ◌≤◌, ◌==◌, inl, inr, ℕ, zero, suc, Bool, true, false, cond, List, [], ◌∷◌}
use Rattle.ta_syntax.proofs.Common.{append_assoc, append-nil, ⊎_elim, arith, length, eqb-true, Option, Some, None, AllByRecursion, Limits, IsKind, IsNameText}
use Rattle.ta_syntax.proofs.Common.{IsDigits, AreTerms, Factor, IsComparison, IsEvent, IsFactor, IsPattern, IsRule, IsSome, IsSum, IsTerm, IsTree, IsUpdate}
use Rattle.ta_syntax.proofs.Common.{PlainComparison, PlainEvent, PlainLocation, PlainPattern, PlainRule, PlainTree, Term, Terms, alone, blank, comparison_kinds}
use Rattle.ta_syntax.proofs.Common.{done, each, event_kinds, factor_kinds, file_kinds, initial_kinds, listed, location_kinds, more_kinds, name_kinds, named}
use Rattle.ta_syntax.proofs.Common.{nested, number, relation_kind, sign_kind, sum_kinds, term, term_kinds, times, update_kinds, IsShallow, IsRuleWithin}
use Rattle.ta_syntax.proofs.Common.{IsEventWithin, IsPatternWithin, IsTreeWithin, sum_depth, term_depth, factor_depth, Sign, Kind, Mark, Relation, Class, code}
use Rattle.ta_syntax.proofs.Common.{mark_code, has, only, names, numbers, Production, nothing, one, both, choose, repeat, barred, a_mark, a_name, a_number}
use Rattle.ta_syntax.proofs.Common.{signs, relations, maybe, term_with, sum_with, nested_with, free_factor, factor, items, blocks, list_end, declared_list}
use Rattle.ta_syntax.proofs.Common.{location, update, comparison, rule, event, pattern, file}
use Rattle.std.specs.Prelude.{max}
use Rattle.ta_base.specs.LimitRows.{narrow}
use Rattle.ta_syntax.specs.FileGrammar.{further, led, ended}
use Rattle.ta_syntax.proofs.Parsing.{Spans, One, Turns, false_true}
use Rattle.ta_syntax.proofs.Halting.{marks}
use Rattle.ta_syntax.specs.Grammar as grammar
use Rattle.ta_syntax.specs.declared.sums.Sign.TheVariants as sign
use Rattle.ta_syntax.specs.declared.tokens.Kind.TheVariants as kind
use Rattle.ta_syntax.specs.declared.tokens.Mark.TheVariants as mark
use Rattle.ta_syntax.specs.declared.tokens.Relation.TheVariants as relation

-- ---- what the classes say

abbrev mark_of : List Mark → ℕ → Option Mark
mark_of [] n = None
mark_of (m ∷ ms) zero = Some m
mark_of (m ∷ ms) (suc n) = mark_of ms n

abbrev decoded : ℕ → Option Mark
decoded zero = None
decoded (suc zero) = None
decoded (suc (suc n)) = mark_of marks n

decoded_is : (m : Mark) → decoded (mark_code m) ≡ Some m
decoded_is mark.Semicolon = refl
decoded_is _ = refl

some_is : (m n : Mark) → Some m ≡ Some n → m ≡ n
some_is m n e = cc

none_some : (m : Mark) → None ≡ Some m → ⊥
none_some m e = cc

code_mark : (k : Kind) (m : Mark) → code k ≡ mark_code m → k ≡ kind.Fixed m
code_mark (kind.Name n) m e = absurd (none_some m (ap decoded e ∙ decoded_is m))
code_mark (kind.Number d) m e = absurd (none_some m (ap decoded e ∙ decoded_is m))
code_mark (kind.Fixed o) m e = ap (λ (z : Mark). kind.Fixed z) (some_is o m (sym (decoded_is o) ∙ ap decoded e ∙ decoded_is m))

by_or : (n x : ℕ) (b : Bool) → cond (n == x) true b ≡ true → (n ≡ x) ⊎ (b ≡ true)
by_or n x b h = by_test (n == x) refl h
  where
    by_test : (t : Bool) → n == x ≡ t → cond t true b ≡ true → (n ≡ x) ⊎ (b ≡ true)
    by_test true e h = inl (eqb-true n x e)
    by_test false e h = inr h

-- which of the class's numbers it is
abbrev OneOf : Class → ℕ → Type 0
OneOf [] n = ⊥
OneOf (x ∷ xs) n = (n ≡ x) ⊎ OneOf xs n

one_of : (c : Class) (n : ℕ) → has c n ≡ true → OneOf c n
one_of [] n h = false_true h
one_of (x ∷ xs) n h = ⊎_elim (λ (e : n ≡ x). inl e) (λ (k : has xs n ≡ true). inr (one_of xs n k)) (by_or n x (has xs n) h)

pub only_is : (m : Mark) (k : Kind) → has (only m) (code k) ≡ true → k ≡ kind.Fixed m
only_is m k h = by_case (one_of (only m) (code k) h)
  where
    by_case : OneOf (only m) (code k) → k ≡ kind.Fixed m
    by_case (inl e) = code_mark k m e
    by_case (inr e) = absurd e

pub sign_is : (k : Kind) → has signs (code k) ≡ true → (s : Sign) × (k ≡ sign_kind s)
sign_is k h = by_case (one_of signs (code k) h)
  where
    by_case : OneOf signs (code k) → (s : Sign) × (k ≡ sign_kind s)
    by_case (inl e) = (sign.Plus, code_mark k mark.Plus e)
    by_case (inr (inl e)) = (sign.Minus, code_mark k mark.Minus e)
    by_case (inr (inr e)) = absurd e

sign_has : (s : Sign) → IsKind (sign_kind s) × (has signs (code (sign_kind s)) ≡ true)
sign_has sign.Plus = (tt, refl)
sign_has sign.Minus = (tt, refl)

pub relation_is : (k : Kind) → has relations (code k) ≡ true → (r : Relation) × (k ≡ relation_kind r)
relation_is k h = by_case (one_of relations (code k) h)
  where
    by_case : OneOf relations (code k) → (r : Relation) × (k ≡ relation_kind r)
    by_case (inl e) = (relation.Less, code_mark k mark.Less e)
    by_case (inr (inl e)) = (relation.AtMost, code_mark k mark.AtMost e)
    by_case (inr (inr (inl e))) = (relation.Equal, code_mark k mark.Equal e)
    by_case (inr (inr (inr (inl e)))) = (relation.AtLeast, code_mark k mark.AtLeast e)
    by_case (inr (inr (inr (inr (inl e))))) = (relation.More, code_mark k mark.More e)
    by_case (inr (inr (inr (inr (inr e))))) = absurd e

relation_has : (r : Relation) → IsKind (relation_kind r) × (has relations (code (relation_kind r)) ≡ true)
relation_has relation.Less = (tt, refl)
relation_has _ = (tt, refl)

mark_from : (m : Mark) (ks w : List Kind) → One (only m) ks w → ks ≡ kind.Fixed m ∷ w
mark_from m [] w s = absurd s
mark_from m (k ∷ ks) w s = ap (λ (z : Kind). z ∷ ks) (only_is m k s.1) ∙ ap (λ (z : List Kind). kind.Fixed m ∷ z) s.2

sign_from : (ks w : List Kind) → One signs ks w → (s : Sign) × (ks ≡ sign_kind s ∷ w)
sign_from [] w s = absurd s
sign_from (k ∷ ks) w s = let x = sign_is k s.1 in (x.0, ap (λ (z : Kind). z ∷ ks) x.1 ∙ ap (λ (z : List Kind). sign_kind x.0 ∷ z) s.2)

relation_from : (ks w : List Kind) → One relations ks w → (r : Relation) × (ks ≡ relation_kind r ∷ w)
relation_from [] w s = absurd s
relation_from (k ∷ ks) w s = let x = relation_is k s.1 in (x.0, ap (λ (z : Kind). z ∷ ks) x.1 ∙ ap (λ (z : List Kind). relation_kind x.0 ∷ z) s.2)

pub no_mark : (m : Mark) (n : ℕ) → decoded n ≡ None → has (n ∷ []) (mark_code m) ≡ true → ⊥
no_mark m n e h = by_case (one_of (n ∷ []) (mark_code m) h)
  where
    by_case : OneOf (n ∷ []) (mark_code m) → ⊥
    by_case (inl f) = none_some m (sym e ∙ ap decoded (sym f) ∙ decoded_is m)
    by_case (inr f) = f

name_from : (ks w : List Kind) → One names ks w → (n : List ℕ) × IsNameText n × (ks ≡ kind.Name n ∷ w)
name_from [] w s = absurd s
name_from (kind.Name n ∷ ks) w s = (n, s.0, ap (λ (z : List Kind). kind.Name n ∷ z) s.2)
name_from (kind.Number d ∷ ks) w s = absurd (false_true s.1)
name_from (kind.Fixed m ∷ ks) w s = absurd (no_mark m 0 refl s.1)

number_from : (ks w : List Kind) → One numbers ks w → (d : List ℕ) × IsDigits d × (ks ≡ kind.Number d ∷ w)
number_from [] w s = absurd s
number_from (kind.Name n ∷ ks) w s = absurd (false_true s.1)
number_from (kind.Number d ∷ ks) w s = (d, s.0, ap (λ (z : List Kind). kind.Number d ∷ z) s.2)
number_from (kind.Fixed m ∷ ks) w s = absurd (no_mark m 1 refl s.1)

-- ---- trees whose texts are those of a production

-- what is a tree; if nothing past a limit is a text, also one within the limits
abbrev pub Limited : {A : Type 0} → Bool → (A → Type 0) → (A → Type 0) → A → Type 0
Limited v P Q x = P x × (v ≡ false → Q x)

pub record Tells {A : Type 0} (v : Bool) (g : Production) (Is : A → Type 0) (f : A → List Kind) : Type 0 where
  pub to : (x : A) → Is x → (w : List Kind) → Spans v g (f x ++ w) w
  pub from : (ks w : List Kind) → Spans v g ks w → (x : A) × Is x × (ks ≡ f x ++ w)

abbrev pub Both : {A B : Type 0} → (A → Type 0) → (B → Type 0) → A × B → Type 0
Both P Q p = P p.0 × Q p.1

abbrev pub both_kinds : {A B : Type 0} → (A → List Kind) → (B → List Kind) → A × B → List Kind
both_kinds f h p = f p.0 ++ h p.1

joined_kinds : (ks mid w a b : List Kind) → ks ≡ a ++ mid → mid ≡ b ++ w → ks ≡ (a ++ b) ++ w
joined_kinds ks mid w a b e f = e ∙ ap (λ (z : List Kind). a ++ z) f ∙ sym (append_assoc a b w)

to_two : (v : Bool) (a b : Production) (x y w : List Kind) → Spans v a (x ++ (y ++ w)) (y ++ w) → Spans v b (y ++ w) w → Spans v (both a b) ((x ++ y) ++ w) w
to_two v a b x y w s t = (y ++ w, subst (λ (z : List Kind). Spans v a z (y ++ w)) (sym (append_assoc x y w)) s, t)

pub t_both : {A B : Type 0} {v : Bool} {a b : Production} {P : A → Type 0} {Q : B → Type 0} {f : A → List Kind} {h : B → List Kind} → Tells v a P f
    → Tells v b Q h
    → Tells v (both a b) (Both P Q) (both_kinds f h)
t_both {v} {a} {b} {f} {h} x y = record {
  to = λ p is w. to_two v a b (f p.0) (h p.1) w (x.to p.0 is.0 (h p.1 ++ w)) (y.to p.1 is.1 w);
  from = λ ks w s.
      let u = x.from ks s.0 s.1 in
      let z = y.from s.0 w s.2 in
      ((u.0, z.0), (u.1, z.1), joined_kinds ks s.0 w (f u.0) (h z.0) u.2 z.2);
}

pub t_as : {A B : Type 0} {v : Bool} {g : Production} {P : A → Type 0} {Q : B → Type 0} {f : A → List Kind} {h : B → List Kind} → (there : A → B)
    → (back : B → A)
    → ((x : A) → P x → Q (there x)) → ((y : B) → Q y → P (back y)) → ((x : A) → f x ≡ h (there x)) → ((y : B) → h y ≡ f (back y)) → Tells v g P f
    → Tells v g Q h
t_as {v} {g} there back p q e f x = record {
  to = λ y is w. subst (λ (z : List Kind). Spans v g (z ++ w) w) (sym (f y)) (x.to (back y) (q y is) w);
  from = λ ks w s. let u = x.from ks w s in (there u.0, p u.0 u.1, u.2 ∙ ap (λ (z : List Kind). z ++ w) (e u.0));
}

abbrev pub Any : Unit {0} → Type 0
Any x = Unit {0}

pub t_mark : (v : Bool) (m : Mark) → has (only m) (mark_code m) ≡ true → Tells v (a_mark m) Any (λ x. kind.Fixed m ∷ [])
t_mark v m h = record { to = λ x is w. (tt, h, refl); from = λ ks w s. (tt, tt, mark_from m ks w s) }

pub t_name : (v : Bool) → Tells v a_name IsNameText name_kinds
t_name v = record { to = λ n is w. (is, refl, refl); from = name_from }

pub t_number : (v : Bool) → Tells v a_number IsDigits (λ d. kind.Number d ∷ [])
t_number v = record { to = λ n is w. (is, refl, refl); from = number_from }

freed : (v : Bool) → (v ≡ false → ⊥) → v ≡ true
freed true f = refl
freed false f = absurd (f refl)

never : (v : Bool) {P : Type 0} → v ≡ true → v ≡ false → P
never v e f = absurd (false_true (sym f ∙ e))

-- ---- sums, where factors of these depths are texts

module _ (v : Bool) (F : Production) (D : ℕ → Type 0) (down : (j k : ℕ) → j ≤ k → D k → D j)
    (to : (f : Factor) → IsFactor f → D (factor_depth f) → (w : List Kind) → Spans v F (factor_kinds f ++ w) w) where
  term_to : (t : Term) → IsTerm t → D (term_depth t) → (w : List Kind) → Spans v (term_with F) (term_kinds t ++ w) w
  term_to (number x) is d w = inl (w, (is, refl, refl), inr refl)
  term_to (times x f) is d w = inl
      (kind.Fixed mark.Star ∷ (factor_kinds f ++ w), (is.0, refl, refl), inl (factor_kinds f ++ w, (tt, refl, refl), to f is.1 d w))
  term_to (alone f) is d w = inr (to f is d w)
  term_to blank is d w = absurd is

  abbrev Rest : Production
  Rest = repeat signs (both (one signs) (term_with F))

  first_deep : (s : Sign) (t : Term) (ts : Terms) → D (sum_depth (term s t ts)) → D (term_depth t) × D (sum_depth ts)
  first_deep s t ts d = (down (term_depth t) (sum_depth (term s t ts)) (omega arith) d, down (sum_depth ts) (sum_depth (term s t ts)) (omega arith) d)

  more_to : (ts : Terms) → AreTerms ts → D (sum_depth ts) → (w : List Kind) → Spans v Rest (more_kinds ts ++ w) w
  more_to done is d w = (0, refl)
  more_to (term s t ts) is d w =
      let e = first_deep s t ts d in
      let m = more_to ts is.1 e.1 w in
      let h = sign_has s in (
        suc m.0,
        (
          more_kinds ts ++ w,
          (
            (term_kinds t ++ more_kinds ts) ++ w,
            (h.0, h.1, refl),
            subst (λ (z : List Kind). Spans v (term_with F) z (more_kinds ts ++ w)) (sym (append_assoc (term_kinds t) (more_kinds ts) w))
                (term_to t is.0 e.0 (more_kinds ts ++ w)),
          ),
          m.1,
        ),
      )

  terms_to : (s : Sign) (t : Term) (ts : Terms) → IsTerm t → AreTerms ts → D (sum_depth (term s t ts)) → (w : List Kind)
      → Spans v (both (term_with F) Rest) ((term_kinds t ++ more_kinds ts) ++ w) w
  terms_to s t ts is are d w = let e = first_deep s t ts d in
      to_two v (term_with F) Rest (term_kinds t) (more_kinds ts) w (term_to t is e.0 (more_kinds ts ++ w)) (more_to ts are e.1 w)

  pub sum_to : (ts : Terms) → IsSum ts → D (sum_depth ts) → (w : List Kind) → Spans v (sum_with F) (sum_kinds ts ++ w) w
  sum_to done is d w = absurd is
  sum_to (term sign.Plus t ts) is d w = ((term_kinds t ++ more_kinds ts) ++ w, inr refl, terms_to sign.Plus t ts is.0 is.1 d w)
  sum_to (term sign.Minus t ts) is d w = (
    (term_kinds t ++ more_kinds ts) ++ w,
    inl ((term_kinds t ++ more_kinds ts) ++ w, (tt, refl, refl), refl),
    terms_to sign.Minus t ts is.0 is.1 d w,
  )

  pub nested_to : (ts : Terms) → IsSum ts → D (sum_depth ts) → (w : List Kind) → Spans v (nested_with F) (factor_kinds (nested ts) ++ w) w
  nested_to ts is d w = (
    (sum_kinds ts ++ kind.Fixed mark.Close ∷ []) ++ w,
    (tt, refl, refl),
    to_two v (sum_with F) (a_mark mark.Close) (sum_kinds ts) (kind.Fixed mark.Close ∷ []) w (sum_to ts is d (kind.Fixed mark.Close ∷ w)) (tt, refl, refl),
  )

-- a factor that is a text, and its depth
abbrev FactorOf : (ℕ → Type 0) → List Kind → List Kind → Type 0
FactorOf D ks w = (f : Factor) × IsFactor f × D (factor_depth f) × (ks ≡ factor_kinds f ++ w)

module _ (v : Bool) (F : Production) (D : ℕ → Type 0) (none : D 0) (join : (j k : ℕ) → D j → D k → D (max j k))
    (from : (ks w : List Kind) → Spans v F ks w → FactorOf D ks w) where
  term_from : (ks w : List Kind) → Spans v (term_with F) ks w → (t : Term) × IsTerm t × D (term_depth t) × (ks ≡ term_kinds t ++ w)
  term_from ks w (inl (mid, s, inr e)) = let x = number_from ks mid s in (number x.0, x.1, none, x.2 ∙ ap (λ (z : List Kind). kind.Number x.0 ∷ z) e)
  term_from ks w (inl (mid, s, inl (rest, t, u))) =
      let x = number_from ks mid s in
      let y = from rest w u in (
        times x.0 y.0,
        (x.1, y.1),
        y.2,
        x.2 ∙ ap (λ (z : List Kind). kind.Number x.0 ∷ z)
            (mark_from mark.Star mid rest t ∙ ap (λ (z : List Kind). kind.Fixed mark.Star ∷ z) y.3),
      )
  term_from ks w (inr s) = let x = from ks w s in (alone x.0, x.1, x.2, x.3)

  more_from : (n : ℕ) (ks w : List Kind) → Turns (Spans v (both (one signs) (term_with F))) n ks w
      → (ts : Terms) × AreTerms ts × D (sum_depth ts) × (ks ≡ more_kinds ts ++ w)
  more_from zero ks w s = (done, tt, none, s)
  more_from (suc n) ks w (mid, (next, s, t), u) =
      let x = sign_from ks next s in
      let y = term_from next mid t in
      let z = more_from n mid w u in (
        term x.0 y.0 z.0,
        (y.1, z.1),
        join (term_depth y.0) (sum_depth z.0) y.2 z.2,
        x.1 ∙ ap (λ (v : List Kind). sign_kind x.0 ∷ v) (joined_kinds next mid w (term_kinds y.0) (more_kinds z.0) y.3 z.3),
      )

  pub sum_from : (ks w : List Kind) → Spans v (sum_with F) ks w → (ts : Terms) × IsSum ts × D (sum_depth ts) × (ks ≡ sum_kinds ts ++ w)
  sum_from ks w (next, inr e, (mid, t, (n, u))) =
      let y = term_from next mid t in
      let z = more_from n mid w u in
      (term sign.Plus y.0 z.0, (y.1, z.1), join (term_depth y.0) (sum_depth z.0) y.2 z.2, e ∙ joined_kinds next mid w (term_kinds y.0) (more_kinds z.0) y.3 z.3)
  sum_from ks w (next, inl (rest, s, e), (mid, t, (n, u))) =
      let y = term_from next mid t in
      let z = more_from n mid w u in (
        term sign.Minus y.0 z.0,
        (y.1, z.1),
        join (term_depth y.0) (sum_depth z.0) y.2 z.2,
        mark_from mark.Minus ks rest s
            ∙ ap (λ (v : List Kind). kind.Fixed mark.Minus ∷ v) (e ∙ joined_kinds next mid w (term_kinds y.0) (more_kinds z.0) y.3 z.3),
      )

  pub nested_from : (ks w : List Kind) → Spans v (nested_with F) ks w → (ts : Terms) × IsSum ts × D (sum_depth ts) × (ks ≡ factor_kinds (nested ts) ++ w)
  nested_from ks w (next, s, (mid, t, u)) =
      let x = sum_from next mid t in (
        x.0,
        x.1,
        x.2,
        mark_from mark.Open ks next s ∙ ap (λ (z : List Kind). kind.Fixed mark.Open ∷ z)
            (joined_kinds next mid w (sum_kinds x.0) (kind.Fixed mark.Close ∷ []) x.3 (mark_from mark.Close mid w u)),
      )

alone_from : (D : ℕ → Type 0) → D 0 → (v : Bool) (ks w : List Kind) → Spans v a_name ks w → FactorOf D ks w
alone_from D none v ks w s = let x = name_from ks w s in (named x.0, x.1, none, x.2)

-- at most so deep
abbrev UpTo : ℕ → ℕ → Type 0
UpTo n k = k ≤ n

free_to : (v : Bool) (n : ℕ) (f : Factor) → IsFactor f → factor_depth f ≤ n → (w : List Kind) → Spans v (free_factor n) (factor_kinds f ++ w) w
free_to v zero (named x) is le w = (is, refl, refl)
free_to v (suc n) (named x) is le w = inr (is, refl, refl)
free_to v zero (nested ts) is le w = absurd (omega arith)
free_to v (suc n) (nested ts) is le w = inl (nested_to v (free_factor n) (UpTo n) (λ j k a b. omega arith) (free_to v n) ts is (omega arith) w)

free_from : (v : Bool) (n : ℕ) (ks w : List Kind) → Spans v (free_factor n) ks w → FactorOf (UpTo n) ks w
free_from v zero ks w s = alone_from (UpTo 0) (omega arith) v ks w s
free_from v (suc n) ks w (inl s) = let x = nested_from v (free_factor n) (UpTo n) (omega arith) (λ j k a b. omega arith) (free_from v n) ks w s in
    (nested x.0, x.1, omega (arith, x.2), x.3)
free_from v (suc n) ks w (inr s) = alone_from (UpTo (suc n)) (omega arith) v ks w s

-- at most so deep, if nothing past a limit is a text
abbrev Within : Bool → ℕ → ℕ → Type 0
Within v n k = v ≡ false → k ≤ n

within_down : (v : Bool) (n j k : ℕ) → j ≤ k → Within v n k → Within v n j
within_down v n j k a b e = let c : k ≤ n = b e in omega arith

within_join : (v : Bool) (n j k : ℕ) → Within v n j → Within v n k → Within v n (max j k)
within_join v n j k a b e = let c : j ≤ n = a e in let d : k ≤ n = b e in omega arith

within_less : (v : Bool) (n k : ℕ) → Within v (suc n) (suc k) → Within v n k
within_less v n k a e = let c : suc k ≤ suc n = a e in omega arith

within_more : (v : Bool) (n k : ℕ) → Within v n k → Within v (suc n) (suc k)
within_more v n k a e = let c : k ≤ n = a e in omega arith

within_none : (v : Bool) (n : ℕ) → Within v n 0
within_none v n e = omega arith

factor_to : (v : Bool) (n : ℕ) (f : Factor) → IsFactor f → Within v n (factor_depth f) → (w : List Kind) → Spans v (factor n) (factor_kinds f ++ w) w
factor_to v zero (named x) is d w = inr (is, refl, refl)
factor_to v (suc n) (named x) is d w = inr (is, refl, refl)
factor_to v zero (nested ts) is d w = inl (
  freed v (λ e. let c : suc (sum_depth ts) ≤ 0 = d e in absurd (omega arith)),
  sum_depth ts,
  nested_to v (free_factor (sum_depth ts)) (UpTo (sum_depth ts)) (λ j k a b. omega arith) (free_to v (sum_depth ts)) ts is (omega arith) w,
)
factor_to v (suc n) (nested ts) is d w = inl (nested_to v (factor n) (Within v n) (within_down v n) (factor_to v n) ts is (within_less v n (sum_depth ts) d) w)

factor_from : (v : Bool) (n : ℕ) (ks w : List Kind) → Spans v (factor n) ks w → FactorOf (Within v n) ks w
factor_from v zero ks w (inl (e, n, s)) = let x = nested_from v (free_factor n) (UpTo n) (omega arith) (λ j k a b. omega arith) (free_from v n) ks w s in
    (nested x.0, x.1, (λ f. never v e f), x.3)
factor_from v zero ks w (inr s) = alone_from (Within v 0) (within_none v 0) v ks w s
factor_from v (suc n) ks w (inl s) = let x = nested_from v (factor n) (Within v n) (within_none v n) (within_join v n) (factor_from v n) ks w s in
    (nested x.0, x.1, within_more v n (sum_depth x.0) x.2, x.3)
factor_from v (suc n) ks w (inr s) = alone_from (Within v (suc n)) (within_none v (suc n)) v ks w s

-- at most n parentheses are open at once
abbrev Shallow : ℕ → Terms → Type 0
Shallow n ts = sum_depth ts ≤ n

pub t_sum : (v : Bool) (n : ℕ) → Tells v (sum_with (factor n)) (Limited v IsSum (Shallow n)) sum_kinds
t_sum v n = record {
  to = λ ts is. sum_to v (factor n) (Within v n) (within_down v n) (factor_to v n) ts is.0 is.1;
  from = λ ks w s. let x = sum_from v (factor n) (Within v n) (within_none v n) (within_join v n) (factor_from v n) ks w s in (x.0, (x.1, x.2), x.3);
}

-- ---- lists and blocks

-- at most so many
abbrev Few : {A : Type 0} → ℕ → List A → Type 0
Few n xs = length xs ≤ n

module _ {A : Type 0} (v : Bool) (item : Production) (Is : A → Type 0) (f : A → List Kind) (t : Tells v item Is f) where
  further_to : (xs : List A) → AllByRecursion Is xs → (w : List Kind) → Spans v (further item) (grammar.further kind.Fixed f xs ++ w) w
  further_to [] all w = (0, refl)
  further_to (x ∷ xs) all w =
      let m = further_to xs all.1 w in
      let rest = grammar.further kind.Fixed f xs in (
        suc m.0,
        (
          rest ++ w,
          (
            (f x ++ rest) ++ w,
            (tt, refl, refl),
            subst (λ (z : List Kind). Spans v item z (rest ++ w)) (sym (append_assoc (f x) rest w))
                (t.to x all.0 (rest ++ w)),
          ),
          m.1,
        ),
      )

  further_from : (n : ℕ) (ks w : List Kind) → Turns (Spans v (both (a_mark mark.Comma) item)) n ks w
      → (xs : List A) × AllByRecursion Is xs × (ks ≡ grammar.further kind.Fixed f xs ++ w)
  further_from zero ks w s = ([], tt, s)
  further_from (suc n) ks w (mid, (next, c, s), u) =
      let x = t.from next mid s in
      let z = further_from n mid w u in (
        x.0 ∷ z.0,
        (x.1, z.1),
        mark_from mark.Comma ks next c
            ∙ ap (λ (v : List Kind). kind.Fixed mark.Comma ∷ v) (joined_kinds next mid w (f x.0) (grammar.further kind.Fixed f z.0) x.2 z.2),
      )

  abbrev Some_items : ℕ → List A → Type 0
  Some_items n xs = IsSome xs × AllByRecursion Is xs × (v ≡ false → Few n xs)

  abbrev Items : ℕ → List A → Type 0
  Items n xs = AllByRecursion Is xs × (v ≡ false → Few n xs)

  fewer : (n : ℕ) (x : A) (xs : List A) → (v ≡ false → Few (suc n) (x ∷ xs)) → v ≡ false → Few n xs
  fewer n x xs a e = let c : length (x ∷ xs) ≤ suc n = a e in omega arith

  one_more : (n : ℕ) (x : A) (xs : List A) → (v ≡ false → Few n xs) → v ≡ false → Few (suc n) (x ∷ xs)
  one_more n x xs a e = let c : length xs ≤ n = a e in omega arith

  too_many : (x : A) (xs : List A) → (v ≡ false → Few 0 (x ∷ xs)) → v ≡ true
  too_many x xs a = freed v (λ e. let c : length (x ∷ xs) ≤ 0 = a e in absurd (omega arith))

  items_to : (n : ℕ) (xs : List A) → Some_items n xs → (w : List Kind) → Spans v (items n item) (listed kind.Fixed f xs ++ w) w
  items_to n [] is w = absurd is.0
  items_to zero (x ∷ xs) is w = (
    too_many x xs is.2,
    0,
    to_two v item (further item) (f x) (grammar.further kind.Fixed f xs) w (t.to x is.1.0 (grammar.further kind.Fixed f xs ++ w))
        (further_to xs is.1.1 w),
  )
  items_to (suc n) (x ∷ []) is w = to_two v item (maybe mark.Comma (items n item)) (f x) [] w (t.to x is.1.0 w) (inr refl)
  items_to (suc n) (x ∷ y ∷ ys) is w = to_two v item (maybe mark.Comma (items n item)) (f x) (grammar.further kind.Fixed f (y ∷ ys)) w
      (t.to x is.1.0 (grammar.further kind.Fixed f (y ∷ ys) ++ w))
      (inl (listed kind.Fixed f (y ∷ ys) ++ w, (tt, refl, refl), items_to n (y ∷ ys) (tt, is.1.1, fewer n x (y ∷ ys) is.2) w))

  further_listed : (xs : List A) → IsSome xs → kind.Fixed mark.Comma ∷ listed kind.Fixed f xs ≡ grammar.further kind.Fixed f xs
  further_listed [] some = absurd some
  further_listed (x ∷ xs) some = refl

  items_from : (n : ℕ) (ks w : List Kind) → Spans v (items n item) ks w → (xs : List A) × Some_items n xs × (ks ≡ listed kind.Fixed f xs ++ w)
  items_from zero ks w (e, k, (mid, s, (n, u))) =
      let x = t.from ks mid s in
      let z = further_from n mid w u in
      (x.0 ∷ z.0, (tt, (x.1, z.1), (λ f. never v e f)), joined_kinds ks mid w (f x.0) (grammar.further kind.Fixed f z.0) x.2 z.2)
  items_from (suc n) ks w (mid, s, inr e) = let x = t.from ks mid s in (x.0 ∷ [], (tt, (x.1, tt), (λ f. omega arith)), joined_kinds ks mid w (f x.0) [] x.2 e)
  items_from (suc n) ks w (mid, s, inl (next, c, u)) =
      let x = t.from ks mid s in
      let z = items_from n next w u in (
        x.0 ∷ z.0,
        (tt, (x.1, z.1.1), one_more n x.0 z.0 z.1.2),
        joined_kinds ks mid w (f x.0) (grammar.further kind.Fixed f z.0) x.2 (mark_from mark.Comma mid next c
            ∙ ap (λ (v : List Kind). kind.Fixed mark.Comma ∷ v) z.2 ∙ ap (λ (v : List Kind). v ++ w) (further_listed z.0 z.1.0)),
      )

  pub t_items : (n : ℕ) → Tells v (items n item) (Some_items n) (listed kind.Fixed f)
  t_items n = record { to = items_to n; from = items_from n }

  -- a list and a semicolon
  abbrev list_end_kinds : List A → List Kind
  list_end_kinds xs = listed kind.Fixed f xs ++ kind.Fixed mark.Semicolon ∷ []

  pub t_list_end : (n : ℕ) → Tells v (list_end n item) (Some_items n) list_end_kinds
  t_list_end n = t_as (λ p. p.0) (λ xs. (xs, tt)) (λ p is. is.0) (λ xs is. (is, tt)) (λ p. refl) (λ xs. refl)
      (t_both (t_items n) (t_mark v mark.Semicolon refl))

  -- what may be absent
  module _ (m : Mark) (g : Production) (n : ℕ) (h : List A → List Kind) (u : Tells v g (Some_items n) h) (same : has (only m) (mark_code m) ≡ true)
      (all : List A → List Kind)
      (none : all [] ≡ []) (some : (x : A) (xs : List A) → all (x ∷ xs) ≡ kind.Fixed m ∷ h (x ∷ xs)) where
    maybe_to : (xs : List A) → Items n xs → (w : List Kind) → Spans v (maybe m g) (all xs ++ w) w
    maybe_to [] is w = inr (ap (λ (z : List Kind). z ++ w) none)
    maybe_to (x ∷ xs) is w = subst (λ (z : List Kind). Spans v (maybe m g) (z ++ w) w) (sym (some x xs))
        (inl (h (x ∷ xs) ++ w, (tt, same, refl), u.to (x ∷ xs) (tt, is.0, is.1) w))

    all_some : (xs : List A) → IsSome xs → kind.Fixed m ∷ h xs ≡ all xs
    all_some [] is = absurd is
    all_some (x ∷ xs) is = sym (some x xs)

    maybe_from : (ks w : List Kind) → Spans v (maybe m g) ks w → (xs : List A) × Items n xs × (ks ≡ all xs ++ w)
    maybe_from ks w (inr e) = ([], (tt, λ f. omega arith), e ∙ ap (λ (z : List Kind). z ++ w) (sym none))
    maybe_from ks w (inl (mid, c, s)) =
        let x = u.from mid w s in
        (x.0, (x.1.1, x.1.2), mark_from m ks mid c ∙ ap (λ (z : List Kind). kind.Fixed m ∷ z) x.2 ∙ ap (λ (z : List Kind). z ++ w) (all_some x.0 x.1.0))

    pub t_maybe : Tells v (maybe m g) (Items n) all
    t_maybe = record { to = maybe_to; from = maybe_from }

  pub t_led : (m : Mark) (n : ℕ) → has (only m) (mark_code m) ≡ true → Tells v (led m n item) (Items n) (grammar.led kind.Fixed m f)
  t_led m n same = t_maybe m (items n item) n (listed kind.Fixed f) (t_items n) same (grammar.led kind.Fixed m f) refl (λ x xs. refl)

  pub t_ended : (m : Mark) (n : ℕ) → has (only m) (mark_code m) ≡ true → Tells v (ended m n item) (Items n) (grammar.ended kind.Fixed m f)
  t_ended m n same = t_maybe m (list_end n item) n list_end_kinds (t_list_end n) same (grammar.ended kind.Fixed m f) refl (λ x xs. refl)

  declared_to : (n : ℕ) (xs : List A) → Items n xs → (w : List Kind)
      → Spans v (choose (only mark.Semicolon) (a_mark mark.Semicolon) (list_end n item)) (list_end_kinds xs ++ w) w
  declared_to n [] is w = inl (tt, refl, refl)
  declared_to n (x ∷ xs) is w = let u = t_list_end n in inr (u.to (x ∷ xs) (tt, is.0, is.1) w)

  declared_from : (n : ℕ) (ks w : List Kind) → Spans v (choose (only mark.Semicolon) (a_mark mark.Semicolon) (list_end n item)) ks w
      → (xs : List A) × Items n xs × (ks ≡ list_end_kinds xs ++ w)
  declared_from n ks w (inl s) = ([], (tt, λ f. omega arith), mark_from mark.Semicolon ks w s)
  declared_from n ks w (inr s) = let u = t_list_end n in let x = u.from ks w s in (x.0, (x.1.1, x.1.2), x.2)

  abbrev declared_kinds : Mark → List A → List Kind
  declared_kinds m xs = kind.Fixed m ∷ list_end_kinds xs

  pub t_declared : (m : Mark) (n : ℕ) → has (only m) (mark_code m) ≡ true → Tells v (declared_list m n item) (Items n) (declared_kinds m)
  t_declared m n same = t_as (λ p. p.1) (λ xs. (tt, xs)) (λ p is. is.1) (λ xs is. (tt, is)) (λ p. refl) (λ xs. refl)
      (t_both (t_mark v m same) (record { to = declared_to n; from = declared_from n }))

  -- each with a mark before it
  abbrev marked : Mark → A → List Kind
  marked m x = kind.Fixed m ∷ f x

  module _ (m : Mark) (same : has (only m) (mark_code m) ≡ true) where
    marked_to : (x : A) → Is x → (w : List Kind) → Spans v (both (a_mark m) item) (marked m x ++ w) w
    marked_to x is w = (f x ++ w, (tt, same, refl), t.to x is w)

    marked_from : (ks w : List Kind) → Spans v (both (a_mark m) item) ks w → (x : A) × Is x × (ks ≡ marked m x ++ w)
    marked_from ks w (mid, c, s) = let x = t.from mid w s in (x.0, x.1, mark_from m ks mid c ∙ ap (λ (z : List Kind). kind.Fixed m ∷ z) x.2)

    repeat_to : (xs : List A) → AllByRecursion Is xs → (w : List Kind) → Spans v (repeat (only m) (both (a_mark m) item)) (each (marked m) xs ++ w) w
    repeat_to [] all w = (0, refl)
    repeat_to (x ∷ xs) all w = let r = repeat_to xs all.1 w in let rest = each (marked m) xs in (
      suc r.0,
      (
        rest ++ w,
        subst (λ (z : List Kind). Spans v (both (a_mark m) item) z (rest ++ w)) (sym (append_assoc (marked m x) rest w))
            (marked_to x all.0 (rest ++ w)),
        r.1,
      ),
    )

    repeat_from : (n : ℕ) (ks w : List Kind) → Turns (Spans v (both (a_mark m) item)) n ks w → (xs : List A) × AllByRecursion Is xs
        × (ks ≡ each (marked m) xs ++ w)
    repeat_from zero ks w s = ([], tt, s)
    repeat_from (suc n) ks w (mid, s, u) =
        let x = marked_from ks mid s in
        let z = repeat_from n mid w u in
        (x.0 ∷ z.0, (x.1, z.1), joined_kinds ks mid w (marked m x.0) (each (marked m) z.0) x.2 z.2)

    blocks_to : (n : ℕ) (xs : List A) → Items n xs → (w : List Kind) → Spans v (blocks n m item) (each (marked m) xs ++ w) w
    blocks_to zero [] all w = inr refl
    blocks_to (suc n) [] all w = inr refl
    blocks_to zero (x ∷ xs) all w = inl (
      too_many x xs all.1,
      0,
      to_two v (both (a_mark m) item) (repeat (only m) (both (a_mark m) item)) (marked m x) (each (marked m) xs) w
          (marked_to x all.0.0 (each (marked m) xs ++ w)) (repeat_to xs all.0.1 w),
    )
    blocks_to (suc n) (x ∷ xs) all w = inl (to_two v (both (a_mark m) item) (blocks n m item) (marked m x) (each (marked m) xs) w
        (marked_to x all.0.0 (each (marked m) xs ++ w)) (blocks_to n xs (all.0.1, fewer n x xs all.1) w))

    blocks_from : (n : ℕ) (ks w : List Kind) → Spans v (blocks n m item) ks w → (xs : List A) × Items n xs × (ks ≡ each (marked m) xs ++ w)
    blocks_from zero ks w (inr e) = ([], (tt, λ f. omega arith), e)
    blocks_from (suc n) ks w (inr e) = ([], (tt, λ f. omega arith), e)
    blocks_from zero ks w (inl (e, k, (mid, s, (n, u)))) =
        let x = marked_from ks mid s in
        let z = repeat_from n mid w u in
        (x.0 ∷ z.0, ((x.1, z.1), (λ f. never v e f)), joined_kinds ks mid w (marked m x.0) (each (marked m) z.0) x.2 z.2)
    blocks_from (suc n) ks w (inl (mid, s, u)) =
        let x = marked_from ks mid s in
        let z = blocks_from n mid w u in
        (x.0 ∷ z.0, ((x.1, z.1.0), one_more n x.0 z.0 z.1.1), joined_kinds ks mid w (marked m x.0) (each (marked m) z.0) x.2 z.2)

    pub t_blocks : (n : ℕ) → Tells v (blocks n m item) (Items n) (each (marked m))
    t_blocks n = record { to = blocks_to n; from = blocks_from n }

-- ---- the parts of a file

all_split : {A : Type 0} (v : Bool) (P Q : A → Type 0) (xs : List A) → AllByRecursion (Limited v P Q) xs → AllByRecursion P xs
    × (v ≡ false → AllByRecursion Q xs)
all_split v P Q [] all = (tt, λ e. tt)
all_split v P Q (x ∷ xs) all = let r = all_split v P Q xs all.1 in ((all.0.0, r.0), λ e. (all.0.1 e, r.1 e))

all_zip : {A : Type 0} (v : Bool) (P Q : A → Type 0) (xs : List A) → AllByRecursion P xs → (v ≡ false → AllByRecursion Q xs) → AllByRecursion (Limited v P Q) xs
all_zip v P Q [] all few = tt
all_zip v P Q (x ∷ xs) all few = ((all.0, λ e. let h = few e in h.0), all_zip v P Q xs all.1 (λ e. let h = few e in h.1))

pub t_relation : (v : Bool) → Tells v (one relations) (λ r. Unit {0}) (λ r. relation_kind r ∷ [])
t_relation v = record { to = λ r is w. let h = relation_has r in (h.0, h.1, refl); from = λ ks w s. let x = relation_from ks w s in (x.0, tt, x.1) }

initial_to : (v b : Bool) (w : List Kind) → Spans v (maybe mark.Initial nothing) (initial_kinds b ++ w) w
initial_to v true w = inl (w, (tt, refl, refl), refl)
initial_to v false w = inr refl

initial_from : (v : Bool) (ks w : List Kind) → Spans v (maybe mark.Initial nothing) ks w → (b : Bool) × Unit {0} × (ks ≡ initial_kinds b ++ w)
initial_from v ks w (inl (mid, c, e)) = (true, tt, mark_from mark.Initial ks mid c ∙ ap (λ (z : List Kind). kind.Fixed mark.Initial ∷ z) e)
initial_from v ks w (inr e) = (false, tt, e)

abbrev IsLocation : PlainLocation → Type 0
IsLocation l = IsNameText l.name

-- what stands after the keyword
abbrev pub behind_rule : PlainRule → List Kind
behind_rule r = kind.Name r.name ∷ kind.Fixed mark.Colon ∷ kind.Name r.from ∷ kind.Fixed mark.Arrow ∷ kind.Name r.to ∷
    (grammar.led kind.Fixed mark.When comparison_kinds r.guards ++ (grammar.led kind.Fixed mark.Do update_kinds r.updates ++ kind.Fixed mark.Semicolon ∷ []))

abbrev pub behind_event : PlainEvent → List Kind
behind_event e = kind.Name e.name ∷
    (grammar.led kind.Fixed mark.After name_kinds e.after
    ++ kind.Fixed mark.Colon ∷ (listed kind.Fixed comparison_kinds e.condition ++ kind.Fixed mark.Semicolon ∷ []))

abbrev pub behind_pattern : PlainPattern → List Kind
behind_pattern p = kind.Name p.name ∷ kind.Fixed mark.OpenBrace ∷
    (grammar.ended kind.Fixed mark.Start comparison_kinds p.start
    ++ (grammar.ended kind.Fixed mark.Empty name_kinds p.empty ++ (each event_kinds p.events ++ kind.Fixed mark.CloseBrace ∷ [])))

module _ (v : Bool) where
  t_location : Tells v location IsLocation location_kinds
  t_location = t_as (λ p. record { name = p.0; initial = p.1 }) (λ l. (l.name, l.initial)) (λ p is. is.0) (λ l is. (is, tt)) (λ p. refl) (λ l. refl)
      (t_both (t_name v) (record { to = λ b is. initial_to v b; from = initial_from v }))

  t_update : Tells v update IsUpdate update_kinds
  t_update = t_as (λ p. record { name = p.0; amount = p.1.1 }) (λ u. (u.name, (tt, u.amount))) (λ p is. record { name = is.0; amount = is.1.1 })
      (λ u is. (is.name, (tt, is.amount))) (λ p. refl) (λ u. refl) (t_both (t_name v) (t_both (t_mark v mark.PlusEquals refl) (t_number v)))

  abbrev Comparison : PlainComparison → Type 0
  Comparison = Limited v IsComparison IsShallow

  t_comparison : Tells v comparison Comparison comparison_kinds
  t_comparison = t_as (λ p. record { left = p.0; relation = p.1.0; right = p.1.1 }) (λ c. (c.left, (c.relation, c.right)))
      (λ p is. (record { left = is.0.0; right = is.1.1.0 }, λ e. record { left = is.0.1 e; right = is.1.1.1 e }))
      (λ c is. ((is.0.left, λ e. let h = is.1 e in h.left), (tt, (is.0.right, λ e. let h = is.1 e in h.right)))) (λ p. refl) (λ c. refl)
      (t_both (t_sum v 32) (t_both (t_relation v) (t_sum v 32)))

  zip : (xs : List PlainComparison) → AllByRecursion IsComparison xs → (v ≡ false → AllByRecursion IsShallow xs) → AllByRecursion Comparison xs
  zip = all_zip v IsComparison IsShallow

  t_rule : Tells v rule (Limited v IsRule IsRuleWithin) behind_rule
  t_rule = t_as (λ p. record { name = p.0.0; from = p.1.0.0; to = p.1.1.0; guards = p.1.1.1.0; updates = p.1.1.1.1.0 })
      (λ r. ((r.name, tt), ((r.from, tt), (r.to, (r.guards, (r.updates, tt))))))
      (λ p is. let g = all_split v IsComparison IsShallow p.1.1.1.0 is.1.1.1.0.0 in (
        record { name = is.0.0; from = is.1.0.0; to = is.1.1.0; guards = g.0; updates = is.1.1.1.1.0.0 },
        λ e. record { guards = is.1.1.1.0.1 e; shallow = g.1 e; updates = is.1.1.1.1.0.1 e },
      ))
      (λ r is. (
        (is.0.name, tt),
        (
          (is.0.from, tt),
          (
            is.0.to,
            (
              (zip r.guards is.0.guards (λ e. let h = is.1 e in h.shallow), λ e. let h = is.1 e in h.guards),
              ((is.0.updates, λ e. let h = is.1 e in h.updates), tt),
            ),
          ),
        ),
      )) (λ p. refl) (λ r. refl)
      (t_both (t_both (t_name v) (t_mark v mark.Colon refl)) (t_both (t_both (t_name v) (t_mark v mark.Arrow refl)) (t_both (t_name v)
      (t_both (t_led v comparison Comparison comparison_kinds t_comparison mark.When 16 refl)
      (t_both (t_led v update IsUpdate update_kinds t_update mark.Do 16 refl) (t_mark v mark.Semicolon refl))))))

  t_event : Tells v event (Limited v IsEvent IsEventWithin) behind_event
  t_event = t_as (λ p. record { name = p.0; after = p.1.0; condition = p.1.1.1 }) (λ e. (e.name, (e.after, (tt, e.condition))))
      (λ p is. let g = all_split v IsComparison IsShallow p.1.1.1 is.1.1.1.1 in (
        record { name = is.0; after = is.1.0.0; some = is.1.1.1.0; condition = g.0 },
        λ e. record { after = is.1.0.1 e; condition = is.1.1.1.2 e; shallow = g.1 e },
      ))
      (λ e is. (
        is.0.name,
        (
          (is.0.after, λ f. let h = is.1 f in h.after),
          (
            tt,
            (
              is.0.some,
              zip e.condition is.0.condition (λ f. let h = is.1 f in h.shallow),
              λ f. let h = is.1 f in h.condition,
            ),
          ),
        ),
      )) (λ p. refl) (λ e. refl)
      (t_both (t_name v) (t_both (t_led v a_name IsNameText name_kinds (t_name v) mark.After 8 refl) (t_both (t_mark v mark.Colon refl)
      (t_list_end v comparison Comparison comparison_kinds t_comparison 16))))

  t_pattern : (l : Limits) → Tells v (pattern l) (Limited v IsPattern (IsPatternWithin l)) behind_pattern
  t_pattern l = t_as (λ p. record { name = p.0.0; start = p.1.0; empty = p.1.1.0; events = p.1.1.1.0 })
      (λ p. ((p.name, tt), (p.start, (p.empty, (p.events, tt)))))
      (λ p is. let g = all_split v IsComparison IsShallow p.1.0 is.1.0.0 in let h = all_split v IsEvent IsEventWithin p.1.1.1.0 is.1.1.1.0.0 in (
        record { name = is.0.0; start = g.0; empty = is.1.1.0.0; events = h.0 },
        λ e. record { start = is.1.0.1 e; shallow = g.1 e; empty = is.1.1.0.1 e; events = is.1.1.1.0.1 e; each_event = h.1 e },
      ))
      (λ p is. (
        (is.0.name, tt),
        (
          (zip p.start is.0.start (λ e. let h = is.1 e in h.shallow), λ e. let h = is.1 e in h.start),
          (
            (is.0.empty, λ e. let h = is.1 e in h.empty),
            ((all_zip v IsEvent IsEventWithin p.events is.0.events (λ e. let h = is.1 e in h.each_event), λ e. let h = is.1 e in h.events), tt),
          ),
        ),
      ))
      (λ p. refl) (λ p. refl)
      (t_both (t_both (t_name v) (t_mark v mark.OpenBrace refl)) (t_both (t_ended v comparison Comparison comparison_kinds t_comparison mark.Start 16 refl)
      (t_both (t_ended v a_name IsNameText name_kinds (t_name v) mark.Empty l.locations refl)
      (t_both (t_blocks v event (Limited v IsEvent IsEventWithin) behind_event t_event mark.Event refl 8) (t_mark v mark.CloseBrace refl)))))

  pub t_file : (l : Limits) → Tells v (file l) (Limited v IsTree (IsTreeWithin l)) file_kinds
  t_file l = t_as (λ p. record {
    name = p.0.1.0.0;
    parameters = p.0.1.1.0;
    shared = p.0.1.1.1.0;
    locations = p.0.1.1.1.1.0.1;
    processes = p.0.1.1.1.1.1.1.0;
    resilience = p.1.0;
    rules = p.1.1.0;
    patterns = p.1.1.1;
  })
      (λ t. ((tt, ((t.name, tt), (t.parameters, (t.shared, ((tt, t.locations), (tt, (t.processes, tt))))))), (t.resilience, (t.rules, t.patterns))))
      (λ p is.
      let g = all_split v IsComparison IsShallow p.1.0 is.1.0.0 in
      let r = all_split v IsRule IsRuleWithin p.1.1.0 is.1.1.0.0 in
      let q = all_split v IsPattern (IsPatternWithin l) p.1.1.1 is.1.1.1.0 in (
        record {
          name = is.0.1.0.0;
          parameters = is.0.1.1.0.0;
          shared = is.0.1.1.1.0.0;
          some = is.0.1.1.1.1.0.1.0;
          locations = is.0.1.1.1.1.0.1.1;
          processes = is.0.1.1.1.1.1.1.0.0;
          resilience = g.0;
          rules = r.0;
          patterns = q.0;
        },
        λ e. record {
          parameters = is.0.1.1.0.1 e;
          shared = is.0.1.1.1.0.1 e;
          locations = is.0.1.1.1.1.0.1.2 e;
          processes = is.0.1.1.1.1.1.1.0.1 e;
          resilience = is.1.0.1 e;
          shallow = g.1 e;
          rules = is.1.1.0.1 e;
          each_rule = r.1 e;
          patterns = is.1.1.1.1 e;
          each_pattern = q.1 e;
        },
      ))
      (λ t is. (
        (
          tt,
          (
            (is.0.name, tt),
            (
              (is.0.parameters, λ e. let h = is.1 e in h.parameters),
              (
                (is.0.shared, λ e. let h = is.1 e in h.shared),
                ((tt, (is.0.some, is.0.locations, λ e. let h = is.1 e in h.locations)), (tt, ((is.0.processes, λ e. let h = is.1 e in h.processes), tt))),
              ),
            ),
          ),
        ),
        (
          (zip t.resilience is.0.resilience (λ e. let h = is.1 e in h.shallow), λ e. let h = is.1 e in h.resilience),
          (
            (all_zip v IsRule IsRuleWithin t.rules is.0.rules (λ e. let h = is.1 e in h.each_rule), λ e. let h = is.1 e in h.rules),
            (all_zip v IsPattern (IsPatternWithin l) t.patterns is.0.patterns (λ e. let h = is.1 e in h.each_pattern), λ e. let h = is.1 e in h.patterns),
          ),
        ),
      ))
      (λ p. simp append_assoc) (λ t. simp append_assoc)
      (t_both (t_both (t_mark v mark.Automaton refl) (t_both (t_both (t_name v) (t_mark v mark.Semicolon refl))
      (t_both (t_declared v a_name IsNameText name_kinds (t_name v) mark.Parameters l.parameters refl)
      (t_both (t_declared v a_name IsNameText name_kinds (t_name v) mark.Shared l.shared refl)
      (t_both (t_both (t_mark v mark.Locations refl) (t_list_end v location IsLocation location_kinds t_location l.locations))
      (t_both (t_mark v mark.Processes refl) (t_both (t_sum v 32) (t_mark v mark.Semicolon refl))))))))
      (t_both (t_declared v comparison Comparison comparison_kinds t_comparison mark.Resilience 16 refl)
      (t_both (t_blocks v rule (Limited v IsRule IsRuleWithin) behind_rule t_rule mark.Rule refl l.rules)
      (t_blocks v (pattern l) (Limited v IsPattern (IsPatternWithin l)) behind_pattern (t_pattern l) mark.Pattern refl l.patterns))))

-- ---- the tokens of a tree are legal

abbrev Legal : List Kind → Type 0
Legal ks = AllByRecursion IsKind ks

turns_legal : (R : List Kind → List Kind → Type 0) → ((ks w : List Kind) → R ks w → Legal w → Legal ks) → (n : ℕ) (ks w : List Kind) → Turns R n ks w → Legal w
    → Legal ks
turns_legal R f zero ks w s h = subst Legal (sym s) h
turns_legal R f (suc n) ks w (mid, s, t) h = f ks mid s (turns_legal R f n mid w t h)

spans_legal : (g : Production) (ks w : List Kind) → Spans true g ks w → Legal w → Legal ks
spans_legal nothing ks w s h = subst Legal (sym s) h
spans_legal (one c) [] w s h = absurd s
spans_legal (one c) (k ∷ ks) w s h = (s.0, subst Legal (sym s.2) h)
spans_legal (both a b) ks w (mid, s, t) h = spans_legal a ks mid s (spans_legal b mid w t h)
spans_legal (choose c a b) ks w (inl s) h = spans_legal a ks w s h
spans_legal (choose c a b) ks w (inr s) h = spans_legal b ks w s h
spans_legal (repeat c a) ks w (n, s) h = turns_legal (Spans true a) (spans_legal a) n ks w s h
spans_legal (barred s c g) ks w (e, n, t) h = spans_legal (g n) ks w t h

within_legal : (l : Limits) (t : PlainTree) → IsTree t → Legal (file_kinds t)
within_legal l t is = let tells = t_file true l in
    subst Legal (append-nil (file_kinds t)) (spans_legal (file l) (file_kinds t ++ []) [] (tells.to t (is, λ e. absurd (false_true (sym e))) []) tt)

pub file_legal : (t : PlainTree) → IsTree t → AllByRecursion IsKind (file_kinds t)
file_legal t is = within_legal narrow t is
