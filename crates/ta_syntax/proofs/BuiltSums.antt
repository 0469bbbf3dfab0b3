-- A sum whose tokens are given is that of a value of the program.
use Rattle.ta_syntax.proofs.Common.{◌≡◌, suc, ◌+◌, ◌<◌, ◌≤◌, ◌^◌, List, [], ◌∷◌, ◌++◌, length, Some, None, refl, sym, ap, ap₂, subst, ◌∙◌, arith, Terms, Term}
use Rattle.ta_syntax.proofs.Common.{Factor, done, term, number, times, alone, blank, named, nested, sign_kind, sum_kinds, more_kinds, term_kinds, factor_kinds}
use Rattle.ta_syntax.proofs.Common.{IsSum, AreTerms, IsTerm, IsFactor, plain_sum, plain_term, plain_factor, plain_terms, Offsets, IsPlaced, at_first, more_of}
use Rattle.ta_syntax.proofs.Common.{signed_sum, unplaced_sign, sum_stated, sum_term_stated, sum_factor_stated, kinds, offset_of, Kind, Token, Sign, Digits}
use Rattle.ta_syntax.proofs.Common.{Spelled, TreeSum, TreeTerm, TreeFactor, Named, Nested, TreeSum-F, roll-TreeSum, roll-TreeTerm}
use Rattle.std.specs.Global.{Vec}
use denote.RawPtr.{null_ptr}
use Rattle.ta_syntax.proofs.SumSteps.{plain_sum_roll, plain_number, plain_times, plain_alone, plain_named, plain_nested, stated_number, stated_times}
use Rattle.ta_syntax.proofs.SumSteps.{stated_alone, stated_named, stated_nested, stated_sum_roll, pairs}
use Rattle.ta_base.proofs.Lists.{empty-not, empty_left}
use Rattle.ta_syntax.specs.declared.tokens.Kind.TheVariants as kind
use Rattle.ta_syntax.specs.declared.tokens.Mark.TheVariants as mark
use Rattle.ta_syntax.specs.declared.sums.Sign.TheVariants as sign

-- a list of the program with these items; where it lies in memory doesn't matter
abbrev pub vec_of : {A : Type 0} (xs : List A) → length xs < 2 ^ 63 → Vec A
vec_of xs small = record {
  ptr = null_ptr;
  len = length xs;
  cap = length xs;
  alloc = record { memory = record { seal = tt } };
  items = xs;
  ok =
      (refl, omega arith);
  small = small;
}

-- ---- tokens in two parts
abbrev pub tail : List Token → List Token
tail [] = []
tail (t ∷ ts) = ts

-- as many tokens as there are kinds, and those behind them
abbrev pub before : List Kind → List Token → List Token
before [] ts = []
before (k ∷ a) [] = []
before (k ∷ a) (t ∷ ts) = t ∷ before a ts

abbrev pub behind : List Kind → List Token → List Token
behind [] ts = ts
behind (k ∷ a) [] = []
behind (k ∷ a) (t ∷ ts) = behind a ts

abbrev pub Small : List Token → Type 0
Small ts = length ts < 2 ^ 63

pub small_tail : (ts : List Token) → Small ts → Small (tail ts)
small_tail [] s = s
small_tail (t ∷ ts) s = omega arith

shorter_tail : (ts : List Token) → length (tail ts) ≤ length ts
shorter_tail [] = omega arith
shorter_tail (t ∷ ts) = omega arith

shorter_before : (a : List Kind) (ts : List Token) → length (before a ts) ≤ length ts
shorter_before [] ts = omega arith
shorter_before (k ∷ a) [] = omega arith
shorter_before (k ∷ a) (t ∷ ts) = omega (arith, shorter_before a ts)

pub small_before : (a : List Kind) (ts : List Token) → Small ts → Small (before a ts)
small_before a ts s = omega (arith, shorter_before a ts)

shorter_behind : (a : List Kind) (ts : List Token) → length (behind a ts) ≤ length ts
shorter_behind [] ts = omega arith
shorter_behind (k ∷ a) [] = omega arith
shorter_behind (k ∷ a) (t ∷ ts) = omega (arith, shorter_behind a ts)

pub small_behind : (a : List Kind) (ts : List Token) → Small ts → Small (behind a ts)
small_behind a ts s = omega (arith, shorter_behind a ts)

pub kinds_tail : (k : Kind) (ks : List Kind) (ts : List Token) → kinds ts ≡ k ∷ ks → kinds (tail ts) ≡ ks
kinds_tail k ks [] e = absurd cc
kinds_tail k ks (t ∷ ts) e = cc

pub kinds_before : (a b : List Kind) (ts : List Token) → kinds ts ≡ a ++ b → kinds (before a ts) ≡ a
kinds_before [] b ts e = refl
kinds_before (k ∷ a) b [] e = absurd cc
kinds_before (k ∷ a) b (t ∷ ts) e =
    let first : t.kind ≡ k = cc in
    let more : kinds ts ≡ a ++ b = cc in
    ap₂ (λ (j : Kind) (js : List Kind). j ∷ js) first (kinds_before a b ts more)

pub kinds_behind : (a b : List Kind) (ts : List Token) → kinds ts ≡ a ++ b → kinds (behind a ts) ≡ b
kinds_behind [] b ts e = e
kinds_behind (k ∷ a) b [] e = absurd cc
kinds_behind (k ∷ a) b (t ∷ ts) e = let more : kinds ts ≡ a ++ b = cc in kinds_behind a b ts more

-- ---- placed tokens

-- nothing is stated of the first token
pub placed_mark : (k : Kind) (ks : List Kind) (ts : List Token) (s : List Offsets) → kinds ts ≡ k ∷ ks → IsPlaced s (tail ts) → IsPlaced ([] ∷ s) ts
placed_mark k ks [] s e p = absurd cc
placed_mark k ks (t ∷ ts) s e p = (tt, p)

-- the offset of the first token is stated
pub placed_name : (k : Kind) (ks : List Kind) (ts : List Token) (s : List Offsets) → kinds ts ≡ k ∷ ks → IsPlaced s (tail ts)
    → IsPlaced ((offset_of 0 ts ∷ []) ∷ s) ts
placed_name k ks [] s e p = absurd cc
placed_name k ks (t ∷ ts) s e p = ((refl, tt), p)

-- and that of the last one, behind which nothing stands
pub placed_last : (k : Kind) (ts : List Token) → kinds ts ≡ k ∷ [] → IsPlaced ([] ∷ []) ts
placed_last k [] e = absurd cc
placed_last k (t ∷ []) e = (tt, tt)
placed_last k (t ∷ u ∷ ts) e = absurd cc

pub placed_none : (ts : List Token) → kinds ts ≡ [] → IsPlaced [] ts
placed_none [] e = tt
placed_none (t ∷ ts) e = absurd cc

pub placed_first : (s : List Offsets) (ts : List Token) → IsPlaced s ts → IsPlaced (at_first (offset_of 0 ts) s) ts
placed_first [] [] p = tt
placed_first [] (t ∷ ts) p = absurd p
placed_first (x ∷ s) [] p = absurd p
placed_first (x ∷ s) (t ∷ ts) p = ((refl, p.0), p.1)

pub placed_both : (a b : List Kind) (ts : List Token) (x y : List Offsets) → kinds ts ≡ a ++ b → IsPlaced x (before a ts) → IsPlaced y (behind a ts)
    → IsPlaced (x ++ y) ts
placed_both [] b ts [] y e p q = q
placed_both [] b ts (o ∷ x) y e p q = absurd p
placed_both (k ∷ a) b [] x y e p q = absurd cc
placed_both (k ∷ a) b (t ∷ ts) [] y e p q = absurd p
placed_both (k ∷ a) b (t ∷ ts) (o ∷ x) y e p q = (p.0, placed_both a b ts x y (let more : kinds ts ≡ a ++ b = cc in more) p.1 q)

-- ---- sums
record BuiltTerms (ts : Terms) (front : List Token) : Type 0 where
  items : List (Sign × TreeTerm)
  plain : plain_terms items ≡ ts
  placed : IsPlaced (more_of unplaced_sign (pairs sum_term_stated items)) front
  few : length items ≤ length front

pub record BuiltSum (ts : Terms) (front : List Token) : Type 0 where
  pub value : TreeSum
  pub plain : plain_sum value ≡ ts
  pub placed : IsPlaced (sum_stated value) front

record BuiltTerm (t : Term) (front : List Token) : Type 0 where
  value : TreeTerm
  plain : plain_term value ≡ t
  placed : IsPlaced (sum_term_stated value) front

record BuiltFactor (f : Factor) (front : List Token) : Type 0 where
  value : TreeFactor
  plain : plain_factor value ≡ f
  placed : IsPlaced (sum_factor_stated value) front

-- a term has at least one token
some_tokens : (t : Term) → IsTerm t → (b : List Kind) (ts : List Token) → kinds ts ≡ term_kinds t ++ b → 1 ≤ length (before (term_kinds t) ts)
some_tokens t is b [] e = absurd (let s = spelled t is in empty-not s.0 s.1 (sym (empty_left (term_kinds t) b (sym e)) ∙ s.2))
  where
    spelled : (t : Term) → IsTerm t → (k : Kind) × (ks : List Kind) × (term_kinds t ≡ k ∷ ks)
    spelled (number d) is = (kind.Number d, [], refl)
    spelled (times d f) is = (kind.Number d, kind.Fixed mark.Star ∷ factor_kinds f, refl)
    spelled (alone (named n)) is = (kind.Name n, [], refl)
    spelled (alone (nested ts)) is = (kind.Fixed mark.Open, sum_kinds ts ++ kind.Fixed mark.Close ∷ [], refl)
    spelled blank is = absurd is
some_tokens t is b (u ∷ ts) e = first t is
  where
    first : (t : Term) → IsTerm t → 1 ≤ length (before (term_kinds t) (u ∷ ts))
    first (number d) is = omega arith
    first (times d f) is = omega arith
    first (alone (named n)) is = omega arith
    first (alone (nested s)) is = omega arith
    first blank is = absurd is

two_parts : (a b : List Kind) (ts : List Token) → kinds ts ≡ a ++ b → length (before a ts) + length (behind a ts) ≡ length ts
two_parts [] b ts e = omega arith
two_parts (k ∷ a) b [] e = absurd cc
two_parts (k ∷ a) b (t ∷ ts) e = omega (arith, two_parts a b ts (let more : kinds ts ≡ a ++ b = cc in more))

-- the terms are no more than the tokens
few_terms : (t : Term) (ts : Terms) → IsTerm t → (front : List Token) (items : List (Sign × TreeTerm)) → kinds front ≡ term_kinds t ++ more_kinds ts
    → length items ≤ length (behind (term_kinds t) front) → suc (length items) ≤ length front
few_terms t ts is front items e few = omega (arith, some_tokens t is (more_kinds ts) front e, two_parts (term_kinds t) (more_kinds ts) front e)

-- a first term and those behind it
module _ (t : Term) (ts : Terms) (is : IsTerm t) (front : List Token) (e : kinds front ≡ term_kinds t ++ more_kinds ts)
    (first : BuiltTerm t (before (term_kinds t) front)) (more : BuiltTerms ts (behind (term_kinds t) front)) where
  placed_terms : IsPlaced (sum_term_stated first.value ++ more_of unplaced_sign (pairs sum_term_stated more.items)) front
  placed_terms = placed_both (term_kinds t) (more_kinds ts) front (sum_term_stated first.value) (more_of unplaced_sign (pairs sum_term_stated more.items)) e
      first.placed more.placed

  few_items : suc (length more.items) ≤ length front
  few_items = few_terms t ts is front more.items e more.few

  built_sum : (s : Sign) (whole : List Token) → Small front → IsPlaced (signed_sum unplaced_sign (pairs sum_term_stated ((s, first.value) ∷ more.items))) whole
      → BuiltSum (term s t ts) whole
  built_sum s whole small placed =
      let items = vec_of ((s, first.value) ∷ more.items) (omega (arith, few_items)) in
      let sum : TreeSum-F TreeFactor TreeSum TreeTerm = record { terms = items } in
      record {
        value = roll-TreeSum sum;
        plain = plain_sum_roll sum ∙ ap₂ (λ (x : Term) (xs : Terms). term s x xs) first.plain more.plain;
        placed = subst (λ (x : List Offsets). IsPlaced x whole) (sym (stated_sum_roll sum)) placed;
      }

mutual
  pub sum_built : (ts : Terms) → IsSum ts → (front : List Token) → kinds front ≡ sum_kinds ts → Small front → BuiltSum ts front
  sum_built done is front e small = absurd is
  sum_built (term sign.Plus t ts) is front e small =
      let first = term_built t is.0 (before (term_kinds t) front) (kinds_before (term_kinds t) (more_kinds ts) front e)
      (small_before (term_kinds t) front small) in
      let more = terms_built ts is.1 (behind (term_kinds t) front) (kinds_behind (term_kinds t) (more_kinds ts) front e)
      (small_behind (term_kinds t) front small) in
      built_sum t ts is.0 front e first more sign.Plus front small (placed_terms t ts is.0 front e first more)
  sum_built (term sign.Minus t ts) is front e small =
      let back = tail front in
      let f : kinds back ≡ term_kinds t ++ more_kinds ts = kinds_tail (kind.Fixed mark.Minus) (term_kinds t ++ more_kinds ts) front e in
      let few = small_tail front small in
      let first = term_built t is.0 (before (term_kinds t) back) (kinds_before (term_kinds t) (more_kinds ts) back f) (small_before (term_kinds t) back few) in
      let more = terms_built ts is.1 (behind (term_kinds t) back) (kinds_behind (term_kinds t) (more_kinds ts) back f) (small_behind (term_kinds t) back few) in
      built_sum t ts is.0 back f first more sign.Minus front few
      (placed_mark (kind.Fixed mark.Minus) (term_kinds t ++ more_kinds ts) front _ e (placed_terms t ts is.0 back f first more))

  terms_built : (ts : Terms) → AreTerms ts → (front : List Token) → kinds front ≡ more_kinds ts → Small front → BuiltTerms ts front
  terms_built done are front e small = record { items = []; plain = refl; placed = placed_none front e; few = omega arith }
  terms_built (term s t ts) are front e small =
      let back = tail front in
      let f : kinds back ≡ term_kinds t ++ more_kinds ts = kinds_tail (sign_kind s) (term_kinds t ++ more_kinds ts) front e in
      let few = small_tail front small in
      let first = term_built t are.0 (before (term_kinds t) back) (kinds_before (term_kinds t) (more_kinds ts) back f) (small_before (term_kinds t) back few) in
      let more = terms_built ts are.1 (behind (term_kinds t) back) (kinds_behind (term_kinds t) (more_kinds ts) back f) (small_behind (term_kinds t) back few)
      in
      record {
        items = (s, first.value) ∷ more.items;
        plain = ap₂ (λ (x : Term) (xs : Terms). term s x xs) first.plain more.plain;
        placed = placed_mark (sign_kind s) (term_kinds t ++ more_kinds ts) front _ e (placed_terms t ts are.0 back f first more);
        few = omega (arith, few_items t ts are.0 back f first more, shorter_tail front);
      }

  term_built : (t : Term) → IsTerm t → (front : List Token) → kinds front ≡ term_kinds t → Small front → BuiltTerm t front
  term_built (number d) is front e small =
      let at = offset_of 0 front in
      let digits : Digits = record { text = d; at = at; legal = is } in
      record {
        value = roll-TreeTerm (record { at = at; factor = Some digits; body = None });
        plain = plain_number at digits;
        placed = subst (λ (x : List Offsets). IsPlaced x front) (sym (stated_number at digits))
            (placed_first ((at ∷ []) ∷ []) front
            (placed_name (kind.Number d) [] front [] e (placed_none (tail front) (kinds_tail (kind.Number d) [] front e))));
      }
  term_built (times d f) is front e small =
      let at = offset_of 0 front in
      let digits : Digits = record { text = d; at = at; legal = is.0 } in
      let e1 = kinds_tail (kind.Number d) (kind.Fixed mark.Star ∷ factor_kinds f) front e in
      let e2 = kinds_tail (kind.Fixed mark.Star) (factor_kinds f) (tail front) e1 in
      let factor = factor_built f is.1 (tail (tail front)) e2 (small_tail (tail front) (small_tail front small)) in
      record {
        value = roll-TreeTerm (record { at = at; factor = Some digits; body = Some factor.value });
        plain = plain_times at digits factor.value ∙ ap (times d) factor.plain;
        placed = subst (λ (x : List Offsets). IsPlaced x front) (sym (stated_times at digits factor.value))
            (placed_first ((at ∷ []) ∷ [] ∷ sum_factor_stated factor.value) front
            (placed_name (kind.Number d) (kind.Fixed mark.Star ∷ factor_kinds f) front ([] ∷ sum_factor_stated factor.value) e
            (placed_mark (kind.Fixed mark.Star) (factor_kinds f) (tail front) (sum_factor_stated factor.value) e1 factor.placed)));
      }
  term_built (alone f) is front e small =
      let at = offset_of 0 front in
      let factor = factor_built f is front e small in
      record {
        value = roll-TreeTerm (record { at = at; factor = None; body = Some factor.value });
        plain = plain_alone at factor.value ∙ ap alone factor.plain;
        placed = subst (λ (x : List Offsets). IsPlaced x front) (sym (stated_alone at factor.value))
            (placed_first (sum_factor_stated factor.value) front factor.placed);
      }
  term_built blank is front e small = absurd is

  factor_built : (f : Factor) → IsFactor f → (front : List Token) → kinds front ≡ factor_kinds f → Small front → BuiltFactor f front
  factor_built (named n) is front e small =
      let spelled : Spelled = record { name = n; at = offset_of 0 front; legal = is } in
      record {
        value = Named spelled;
        plain = plain_named spelled;
        placed = subst (λ (x : List Offsets). IsPlaced x front) (sym (stated_named spelled))
            (placed_name (kind.Name n) [] front [] e (placed_none (tail front) (kinds_tail (kind.Name n) [] front e)));
      }
  factor_built (nested ts) is front e small =
      let end = kind.Fixed mark.Close ∷ [] in
      let back = tail front in
      let e1 = kinds_tail (kind.Fixed mark.Open) (sum_kinds ts ++ end) front e in
      let few = small_tail front small in
      let sum = sum_built ts is (before (sum_kinds ts) back) (kinds_before (sum_kinds ts) end back e1) (small_before (sum_kinds ts) back few) in
      record {
        value = Nested sum.value;
        plain = plain_nested sum.value ∙ ap nested sum.plain;
        placed = subst (λ (x : List Offsets). IsPlaced x front) (sym (stated_nested sum.value))
            (placed_mark (kind.Fixed mark.Open) (sum_kinds ts ++ end) front (sum_stated sum.value ++ [] ∷ []) e
            (placed_both (sum_kinds ts) end back (sum_stated sum.value) ([] ∷ []) e1 sum.placed
            (placed_last (kind.Fixed mark.Close) (behind (sum_kinds ts) back) (kinds_behind (sum_kinds ts) end back e1))));
      }
