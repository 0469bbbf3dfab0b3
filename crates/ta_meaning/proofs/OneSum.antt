-- Names, numbers and sums with the same text that are placed on the same tokens are the same.
use Rattle.ta_meaning.proofs.Common.{◌≡◌, ℕ, List, [], ◌∷◌, ◌++◌, refl, sym, ap, subst, ◌∙◌, IsNameText, IsNameText-prop, IsDigits, IsDigits-prop, Terms, Term}
use Rattle.ta_meaning.proofs.Common.{Factor, term, number, times, alone, named, nested, IsSum, AreTerms, IsTerm, IsFactor, plain_sum, Offsets, sum_stated, Sign}
use Rattle.ta_meaning.proofs.Common.{Digits, Spelled, TreeSum, Scope, judged_sum, SeenTerms, SeenTerm, SeenFactor, seen_none, seen_more, seen_number}
use Rattle.ta_meaning.proofs.Common.{seen_times, seen_alone, seen_blank, seen_named, seen_nested, seen_sum, plain_of_terms, plain_of_term, plain_of_factor}
use Rattle.ta_meaning.proofs.StartedParts.{factor-starts}
use Rattle.ta_meaning.proofs.SeenSums.{offsets_of_sum, offsets_of_more, offsets_of_term, offsets_of_factor, judged_of_terms, every_sum_seen}
use Rattle.ta_meaning.proofs.SameOffsets.{Agree, same-first, same-second, agree-both, at_first-agree}
use Rattle.ta_syntax.specs.declared.sums.Sign.TheVariants as sign

-- ---- names and numbers

pub spelled-same : (a b : Spelled) → a.name ≡ b.name → a.at ≡ b.at → a ≡ b
spelled-same a b e f = subst (λ (p : ℕ). (l : IsNameText b.name) → a ≡ made b.name p l) f
    (subst (λ (n : List ℕ). (l : IsNameText n) → a ≡ made n a.at l) e
    (λ l. ap (λ (z : IsNameText a.name). made a.name a.at z) (IsNameText-prop a.name a.legal l))) b.legal
  where
    made : (n : List ℕ) → ℕ → IsNameText n → Spelled
    made n p l = record { name = n; at = p; legal = l }

pub digits-same : (a b : Digits) → a.text ≡ b.text → a.at ≡ b.at → a ≡ b
digits-same a b e f = subst (λ (p : ℕ). (l : IsDigits b.text) → a ≡ made b.text p l) f
    (subst (λ (n : List ℕ). (l : IsDigits n) → a ≡ made n a.at l) e (λ l. ap (λ (z : IsDigits a.text). made a.text a.at z) (IsDigits-prop a.text a.legal l)))
    b.legal
  where
    made : (n : List ℕ) → ℕ → IsDigits n → Digits
    made n p l = record { text = n; at = p; legal = l }

-- ---- sums as seen

more-parts : (s r : Sign) (t u : Term) (ts us : Terms) → term s t ts ≡ term r u us → (s ≡ r) × (t ≡ u) × (ts ≡ us)
more-parts s r t u ts us e = (cc, cc, cc)

times-parts : (d c : List ℕ) (f g : Factor) → times d f ≡ times c g → (d ≡ c) × (f ≡ g)
times-parts d c f g e = (cc, cc)

alone-part : (f g : Factor) → alone f ≡ alone g → f ≡ g
alone-part f g e = cc

number-part : (d c : List ℕ) → number d ≡ number c → d ≡ c
number-part d c e = cc

named-part : (n m : List ℕ) → named n ≡ named m → n ≡ m
named-part n m e = cc

nested-part : (ts us : Terms) → nested ts ≡ nested us → ts ≡ us
nested-part ts us e = cc

made-more : (s r : Sign) (t u : SeenTerm) (ts us : SeenTerms) → s ≡ r → t ≡ u → ts ≡ us → seen_more s t ts ≡ seen_more r u us
made-more s r t u ts us e f g = ap (λ (z : Sign). seen_more z t ts) e ∙ ap (λ (z : SeenTerm). seen_more r z ts) f ∙ ap (λ (z : SeenTerms). seen_more r u z) g

mutual
  more-once : (ts us : SeenTerms) (x y : List Offsets) → plain_of_terms ts ≡ plain_of_terms us → AreTerms (plain_of_terms ts) → AreTerms (plain_of_terms us)
      → Agree (offsets_of_more ts ++ x) (offsets_of_more us ++ y) → (ts ≡ us) × Agree x y
  more-once seen_none seen_none x y e is is' h = (refl, h)
  more-once seen_none (seen_more r u us) x y e is is' h = absurd cc
  more-once (seen_more s t ts) seen_none x y e is is' h = absurd cc
  more-once (seen_more s t ts) (seen_more r u us) x y e is is' h =
      let p = more-parts s r (plain_of_term t) (plain_of_term u) (plain_of_terms ts) (plain_of_terms us) e in
      let first = term-once t u (offsets_of_more ts ++ x) (offsets_of_more us ++ y) p.1 is.0 is'.0
      (agree-both (offsets_of_term t) (offsets_of_more ts) x (offsets_of_term u) (offsets_of_more us) y h.1) in
      let others = more-once ts us x y p.2 is.1 is'.1 first.1 in
      (made-more s r t u ts us p.0 first.0 others.0, others.1)

  sum-once : (ts us : SeenTerms) (x y : List Offsets) → plain_of_terms ts ≡ plain_of_terms us → IsSum (plain_of_terms ts) → IsSum (plain_of_terms us)
      → Agree (offsets_of_sum ts ++ x) (offsets_of_sum us ++ y) → (ts ≡ us) × Agree x y
  sum-once seen_none us x y e is is' h = absurd is
  sum-once (seen_more s t ts) seen_none x y e is is' h = absurd is'
  sum-once (seen_more sign.Plus t ts) (seen_more sign.Minus u us) x y e is is' h = absurd cc
  sum-once (seen_more sign.Minus t ts) (seen_more sign.Plus u us) x y e is is' h = absurd cc
  sum-once (seen_more sign.Plus t ts) (seen_more sign.Plus u us) x y e is is' h =
      let p = more-parts sign.Plus sign.Plus (plain_of_term t) (plain_of_term u) (plain_of_terms ts) (plain_of_terms us) e in
      let first = term-once t u (offsets_of_more ts ++ x) (offsets_of_more us ++ y) p.1 is.0 is'.0
      (agree-both (offsets_of_term t) (offsets_of_more ts) x (offsets_of_term u) (offsets_of_more us) y h) in
      let others = more-once ts us x y p.2 is.1 is'.1 first.1 in
      (made-more sign.Plus sign.Plus t u ts us refl first.0 others.0, others.1)
  sum-once (seen_more sign.Minus t ts) (seen_more sign.Minus u us) x y e is is' h =
      let p = more-parts sign.Minus sign.Minus (plain_of_term t) (plain_of_term u) (plain_of_terms ts) (plain_of_terms us) e in
      let first = term-once t u (offsets_of_more ts ++ x) (offsets_of_more us ++ y) p.1 is.0 is'.0
      (agree-both (offsets_of_term t) (offsets_of_more ts) x (offsets_of_term u) (offsets_of_more us) y h.1) in
      let others = more-once ts us x y p.2 is.1 is'.1 first.1 in
      (made-more sign.Minus sign.Minus t u ts us refl first.0 others.0, others.1)

  term-once : (t u : SeenTerm) (x y : List Offsets) → plain_of_term t ≡ plain_of_term u → IsTerm (plain_of_term t) → IsTerm (plain_of_term u)
      → Agree (offsets_of_term t ++ x) (offsets_of_term u ++ y) → (t ≡ u) × Agree x y
  term-once (seen_blank a) u x y e is is' h = absurd is
  term-once t (seen_blank b) x y e is is' h = absurd is'
  term-once (seen_number a d) (seen_number b c) x y e is is' h =
      let at = same-first a b (d.at ∷ []) (c.at ∷ []) h.0 in
      let digits = digits-same d c (number-part d.text c.text e) (same-second a b d.at c.at [] [] h.0) in
      (ap (λ (z : ℕ). seen_number z d) at ∙ ap (λ (z : Digits). seen_number b z) digits, h.1)
  term-once (seen_number a d) (seen_times b c g) x y e is is' h = absurd cc
  term-once (seen_number a d) (seen_alone b g) x y e is is' h = absurd cc
  term-once (seen_times a d f) (seen_number b c) x y e is is' h = absurd cc
  term-once (seen_times a d f) (seen_times b c g) x y e is is' h =
      let p = times-parts d.text c.text (plain_of_factor f) (plain_of_factor g) e in
      let at = same-first a b (d.at ∷ []) (c.at ∷ []) h.0 in
      let digits = digits-same d c p.0 (same-second a b d.at c.at [] [] h.0) in
      let factor = factor-once f g x y p.1 is.1 is'.1 h.1.1 in
      (ap (λ (z : ℕ). seen_times z d f) at ∙ ap (λ (z : Digits). seen_times b z f) digits ∙ ap (λ (z : SeenFactor). seen_times b c z) factor.0, factor.1)
  term-once (seen_times a d f) (seen_alone b g) x y e is is' h = absurd cc
  term-once (seen_alone a f) (seen_number b c) x y e is is' h = absurd cc
  term-once (seen_alone a f) (seen_times b c g) x y e is is' h = absurd cc
  term-once (seen_alone a f) (seen_alone b g) x y e is is' h =
      let at = at_first-agree a b (offsets_of_factor f) (offsets_of_factor g) x y (factor-starts f) (factor-starts g) h in
      let factor = factor-once f g x y (alone-part (plain_of_factor f) (plain_of_factor g) e) is is' at.others in
      (ap (λ (z : ℕ). seen_alone z f) at.first ∙ ap (λ (z : SeenFactor). seen_alone b z) factor.0, factor.1)

  factor-once : (f g : SeenFactor) (x y : List Offsets) → plain_of_factor f ≡ plain_of_factor g → IsFactor (plain_of_factor f) → IsFactor (plain_of_factor g)
      → Agree (offsets_of_factor f ++ x) (offsets_of_factor g ++ y) → (f ≡ g) × Agree x y
  factor-once (seen_named n) (seen_named m) x y e is is' h =
      (ap (λ (z : Spelled). seen_named z) (spelled-same n m (named-part n.name m.name e) (same-first n.at m.at [] [] h.0)), h.1)
  factor-once (seen_named n) (seen_nested us) x y e is is' h = absurd cc
  factor-once (seen_nested ts) (seen_named m) x y e is is' h = absurd cc
  factor-once (seen_nested ts) (seen_nested us) x y e is is' h =
      let inner = sum-once ts us ([] ∷ x) ([] ∷ y) (nested-part (plain_of_terms ts) (plain_of_terms us) e) is is'
      (agree-both (offsets_of_sum ts) ([] ∷ []) x (offsets_of_sum us) ([] ∷ []) y h.1) in
      (ap (λ (z : SeenTerms). seen_nested z) inner.0, inner.1.1)

-- ---- sums of the program

-- two sums are the same but for where their lists lie in memory
abbrev pub SameSum : TreeSum → TreeSum → Type 0
SameSum s r = seen_sum s ≡ seen_sum r

pub same_sum-plain : (s r : TreeSum) → SameSum s r → plain_sum s ≡ plain_sum r
same_sum-plain s r e = let p = every_sum_seen s in let q = every_sum_seen r in p.plain ∙ ap plain_of_terms e ∙ sym q.plain

pub same_sum-stated : (s r : TreeSum) → SameSum s r → sum_stated s ≡ sum_stated r
same_sum-stated s r e = let p = every_sum_seen s in let q = every_sum_seen r in p.stated ∙ ap offsets_of_sum e ∙ sym q.stated

pub same_sum-judged : (sc : Scope) (s r : TreeSum) → SameSum s r → judged_sum sc s ≡ judged_sum sc r
same_sum-judged sc s r e = let p = every_sum_seen s in let q = every_sum_seen r in p.judged sc ∙ ap (judged_of_terms sc) e ∙ sym (q.judged sc)

pub one-sum : (s r : TreeSum) (x y : List Offsets) → plain_sum s ≡ plain_sum r → IsSum (plain_sum s) → IsSum (plain_sum r)
    → Agree (sum_stated s ++ x) (sum_stated r ++ y) → SameSum s r × Agree x y
one-sum s r x y e is is' h =
    let p = every_sum_seen s in
    let q = every_sum_seen r in
    let left = subst (λ (z : List Offsets). Agree (z ++ x) (sum_stated r ++ y)) p.stated h in
    let both = subst (λ (z : List Offsets). Agree (offsets_of_sum (seen_sum s) ++ x) (z ++ y)) q.stated left in
    sum-once (seen_sum s) (seen_sum r) x y (sym p.plain ∙ e ∙ q.plain) (subst IsSum p.plain is) (subst IsSum q.plain is') both
