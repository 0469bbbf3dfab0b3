-- No two trees of the grammar have the same tokens: a token of lookahead decides.
use Rattle.ta_syntax.proofs.Common.{◌≡◌, ℕ, Bool, true, false, List, [], ◌∷◌, ◌++◌, refl, sym, ap, subst, ◌∙◌, append_assoc, AllByRecursion, append-nil, tails}
use Rattle.ta_syntax.proofs.Common.{IsNameText, Terms, Term, Factor, done, term, number, times, alone, blank, named, nested, sum_kinds, more_kinds, term_kinds}
use Rattle.ta_syntax.proofs.Common.{factor_kinds, relation_kind, IsSum, AreTerms, IsTerm, IsFactor, PlainComparison, PlainLocation, PlainUpdate, PlainRule}
use Rattle.ta_syntax.proofs.Common.{PlainEvent, PlainPattern, PlainTree, listed, further, led, ended, each, name_kinds, initial_kinds, location_kinds}
use Rattle.ta_syntax.proofs.Common.{comparison_kinds, update_kinds, rule_kinds, event_kinds, pattern_kinds, file_kinds, IsSome, IsComparison, IsUpdate, IsRule}
use Rattle.ta_syntax.proofs.Common.{IsEvent, IsPattern, IsTree, Kind, Mark, Relation, Sign}
use Rattle.ta_syntax.proofs.SumSteps.{term_not}
use Rattle.ta_base.proofs.Lists.{heads}
use Rattle.ta_syntax.specs.declared.tokens.Kind.TheVariants as kind
use Rattle.ta_syntax.specs.declared.tokens.Mark.TheVariants as mark
use Rattle.ta_syntax.specs.declared.tokens.Relation.TheVariants as relation
use Rattle.ta_syntax.specs.declared.sums.Sign.TheVariants as sign

-- ---- tokens that would continue a part

-- whether the first token is one of them
abbrev begins_by : (Kind → Bool) → List Kind → Bool
begins_by p [] = false
begins_by p (k ∷ ks) = p k

-- a token that would continue a number
abbrev is_star : Kind → Bool
is_star (kind.Fixed mark.Star) = true
is_star _ = false

-- a token that would continue a sum
abbrev is_operator : Kind → Bool
is_operator (kind.Fixed mark.Plus) = true
is_operator (kind.Fixed mark.Minus) = true
is_operator (kind.Fixed mark.Star) = true
is_operator _ = false

-- a token that would continue an item of a list
abbrev extends_item : Kind → Bool
extends_item (kind.Fixed mark.Plus) = true
extends_item (kind.Fixed mark.Minus) = true
extends_item (kind.Fixed mark.Star) = true
extends_item (kind.Fixed mark.Initial) = true
extends_item _ = false

-- a token that would continue a list or its last item
abbrev extends_list : Kind → Bool
extends_list (kind.Fixed mark.Plus) = true
extends_list (kind.Fixed mark.Minus) = true
extends_list (kind.Fixed mark.Star) = true
extends_list (kind.Fixed mark.Initial) = true
extends_list (kind.Fixed mark.Comma) = true
extends_list _ = false

-- ---- sums

-- what follows the term still to come begins by no star
no_star : (ts : Terms) (x : List Kind) → begins_by is_operator x ≡ false → begins_by is_star (more_kinds ts ++ x) ≡ false
no_star done [] h = refl
no_star done (kind.Name n ∷ x) h = refl
no_star done (kind.Number n ∷ x) h = refl
no_star done (kind.Fixed mark.Star ∷ x) h = h
no_star done (kind.Fixed _ ∷ x) h = refl
no_star (term sign.Plus t ts) x h = refl
no_star (term sign.Minus t ts) x h = refl

-- a term and those behind it are determined if each is
same_terms : (s : Sign) (t u : Term) (ts us : Terms) (x y : List Kind) → begins_by is_operator x ≡ false → begins_by is_operator y ≡ false
    → (begins_by is_star (more_kinds ts ++ x) ≡ false → begins_by is_star (more_kinds us ++ y) ≡ false → term_kinds t ++ (more_kinds ts ++ x) ≡ term_kinds u
    ++ (more_kinds us ++ y) → (t ≡ u) × (more_kinds ts ++ x ≡ more_kinds us ++ y))
    → (more_kinds ts ++ x ≡ more_kinds us ++ y → (ts ≡ us) × (x ≡ y))
    → (term_kinds t ++ more_kinds ts) ++ x ≡ (term_kinds u ++ more_kinds us) ++ y → (term s t ts ≡ term s u us) × (x ≡ y)
same_terms s t u ts us x y p q first later e =
    let a = first (no_star ts x p) (no_star us y q) (sym (append_assoc (term_kinds t) (more_kinds ts) x) ∙ e ∙ append_assoc (term_kinds u) (more_kinds us) y) in
    let b = later a.1 in
    (cc (a.0, b.0), b.1)

mutual
  sum_unique : (ts us : Terms) (x y : List Kind) → IsSum ts → IsSum us → begins_by is_operator x ≡ false → begins_by is_operator y ≡ false → sum_kinds ts
      ++ x ≡ sum_kinds us ++ y → (ts ≡ us) × (x ≡ y)
  sum_unique done us x y is is' p q e = absurd is
  sum_unique (term s t ts) done x y is is' p q e = absurd is'
  sum_unique (term sign.Plus t ts) (term sign.Minus u us) x y is is' p q e =
      absurd (term_not mark.Minus t (more_kinds ts ++ x) ((term_kinds u ++ more_kinds us) ++ y) (λ h. h) is.0
      (sym (append_assoc (term_kinds t) (more_kinds ts) x) ∙ e))
  sum_unique (term sign.Minus t ts) (term sign.Plus u us) x y is is' p q e =
      absurd (term_not mark.Minus u (more_kinds us ++ y) ((term_kinds t ++ more_kinds ts) ++ x) (λ h. h) is'.0
      (sym (append_assoc (term_kinds u) (more_kinds us) y) ∙ sym e))
  sum_unique (term sign.Plus t ts) (term sign.Plus u us) x y is is' p q e = same_terms sign.Plus t u ts us x y p q
      (term_unique t u (more_kinds ts ++ x) (more_kinds us ++ y) is.0 is'.0) (more_unique ts us x y is.1 is'.1 p q) e
  sum_unique (term sign.Minus t ts) (term sign.Minus u us) x y is is' p q e = same_terms sign.Minus t u ts us x y p q
      (term_unique t u (more_kinds ts ++ x) (more_kinds us ++ y) is.0 is'.0) (more_unique ts us x y is.1 is'.1 p q) (cc)

  more_unique : (ts us : Terms) (x y : List Kind) → AreTerms ts → AreTerms us → begins_by is_operator x ≡ false → begins_by is_operator y ≡ false
      → more_kinds ts ++ x ≡ more_kinds us ++ y → (ts ≡ us) × (x ≡ y)
  more_unique done done x y is is' p q e = (refl, e)
  more_unique done (term sign.Plus u us) x y is is' p q e = absurd (let h = subst (λ (z : List Kind). begins_by is_operator z ≡ false) e p in cc)
  more_unique done (term sign.Minus u us) x y is is' p q e = absurd (let h = subst (λ (z : List Kind). begins_by is_operator z ≡ false) e p in cc)
  more_unique (term sign.Plus t ts) done x y is is' p q e = absurd (let h = subst (λ (z : List Kind). begins_by is_operator z ≡ false) (sym e) q in cc)
  more_unique (term sign.Minus t ts) done x y is is' p q e = absurd (let h = subst (λ (z : List Kind). begins_by is_operator z ≡ false) (sym e) q in cc)
  more_unique (term sign.Plus t ts) (term sign.Minus u us) x y is is' p q e = absurd cc
  more_unique (term sign.Minus t ts) (term sign.Plus u us) x y is is' p q e = absurd cc
  more_unique (term sign.Plus t ts) (term sign.Plus u us) x y is is' p q e = same_terms sign.Plus t u ts us x y p q
      (term_unique t u (more_kinds ts ++ x) (more_kinds us ++ y) is.0 is'.0) (more_unique ts us x y is.1 is'.1 p q) (cc)
  more_unique (term sign.Minus t ts) (term sign.Minus u us) x y is is' p q e = same_terms sign.Minus t u ts us x y p q
      (term_unique t u (more_kinds ts ++ x) (more_kinds us ++ y) is.0 is'.0) (more_unique ts us x y is.1 is'.1 p q) (cc)

  term_unique : (t u : Term) (x y : List Kind) → IsTerm t → IsTerm u → begins_by is_star x ≡ false → begins_by is_star y ≡ false → term_kinds t
      ++ x ≡ term_kinds u ++ y → (t ≡ u) × (x ≡ y)
  term_unique blank u x y is is' p q e = absurd is
  term_unique t blank x y is is' p q e = absurd is'
  term_unique (number d) (number d') x y is is' p q e = (cc, cc)
  term_unique (number d) (times d' f') x y is is' p q e =
      let at : x ≡ kind.Fixed mark.Star ∷ (factor_kinds f' ++ y) = cc in
      absurd (let h = subst (λ (z : List Kind). begins_by is_star z ≡ false) at p in cc)
  term_unique (number d) (alone (named n)) x y is is' p q e = absurd cc
  term_unique (number d) (alone (nested n)) x y is is' p q e = absurd cc
  term_unique (times d f) (number d') x y is is' p q e =
      let at : y ≡ kind.Fixed mark.Star ∷ (factor_kinds f ++ x) = cc in
      absurd (let h = subst (λ (z : List Kind). begins_by is_star z ≡ false) at q in cc)
  term_unique (times d f) (times d' f') x y is is' p q e =
      let inner : factor_kinds f ++ x ≡ factor_kinds f' ++ y = cc in
      let same : d ≡ d' = cc in
      let a = factor_unique f f' x y is.1 is'.1 inner in
      (cc (a.0, same), a.1)
  term_unique (times d f) (alone (named n)) x y is is' p q e = absurd cc
  term_unique (times d f) (alone (nested n)) x y is is' p q e = absurd cc
  term_unique (alone (named n)) (number d') x y is is' p q e = absurd cc
  term_unique (alone (nested n)) (number d') x y is is' p q e = absurd cc
  term_unique (alone (named n)) (times d' f') x y is is' p q e = absurd cc
  term_unique (alone (nested n)) (times d' f') x y is is' p q e = absurd cc
  term_unique (alone f) (alone f') x y is is' p q e =
      let a = factor_unique f f' x y is is' e in
      (cc (a.0), a.1)

  factor_unique : (f g : Factor) (x y : List Kind) → IsFactor f → IsFactor g → factor_kinds f ++ x ≡ factor_kinds g ++ y → (f ≡ g) × (x ≡ y)
  factor_unique (named n) (named n') x y is is' e = (cc, cc)
  factor_unique (named n) (nested us) x y is is' e = absurd cc
  factor_unique (nested ts) (named n') x y is is' e = absurd cc
  factor_unique (nested ts) (nested us) x y is is' e =
      let inner : (sum_kinds ts ++ kind.Fixed mark.Close ∷ []) ++ x ≡ (sum_kinds us ++ kind.Fixed mark.Close ∷ []) ++ y = cc in
      let a = sum_unique ts us (kind.Fixed mark.Close ∷ x) (kind.Fixed mark.Close ∷ y) is is' refl refl
      (sym (append_assoc (sum_kinds ts) (kind.Fixed mark.Close ∷ []) x) ∙ inner ∙ append_assoc (sum_kinds us) (kind.Fixed mark.Close ∷ []) y) in
      (cc (a.0), cc (a.1))

-- ---- items

-- What stands before tokens that don't go on with it is determined, and they are.
pub record IsDetermined {A : Type 0} (p : Kind → Bool) (Is : A → Type 0) (f : A → List Kind) : Type 0 where
  pub same : (a b : A) (x y : List Kind) → Is a → Is b → begins_by p x ≡ false → begins_by p y ≡ false → f a ++ x ≡ f b ++ y → (a ≡ b) × (x ≡ y)

names_determined : IsDetermined extends_item IsNameText name_kinds
names_determined = record { same = λ a b x y is is' p q e. (name_same a b x y e, cc) }
  where
    name_same : (a b : List ℕ) (x y : List Kind) → kind.Name a ∷ x ≡ kind.Name b ∷ y → a ≡ b
    name_same a b x y e = cc

abbrev IsLocation : PlainLocation → Type 0
IsLocation l = IsNameText l.name

locations_determined : IsDetermined extends_item IsLocation location_kinds
locations_determined = record {
  same = λ a b x y is is' p q e. let i = initial_same a.initial b.initial x y p q (rest a b x y e) in
      (made a b (first a b x y e) i.0, i.1);
}
  where
    first : (a b : PlainLocation) (x y : List Kind) → location_kinds a ++ x ≡ location_kinds b ++ y → a.name ≡ b.name
    first a b x y e = cc

    rest : (a b : PlainLocation) (x y : List Kind) → location_kinds a ++ x ≡ location_kinds b ++ y → initial_kinds a.initial ++ x ≡ initial_kinds b.initial ++ y
    rest a b x y e = cc

    with_fields : List ℕ → Bool → PlainLocation
    with_fields n i = record { name = n; initial = i }

    made : (a b : PlainLocation) → a.name ≡ b.name → a.initial ≡ b.initial → a ≡ b
    made a b e f = ap (λ (n : List ℕ). with_fields n a.initial) e ∙ ap (with_fields b.name) f

    initial_same : (i j : Bool) (x y : List Kind) → begins_by extends_item x ≡ false → begins_by extends_item y ≡ false → initial_kinds i ++ x ≡ initial_kinds j
        ++ y → (i ≡ j) × (x ≡ y)
    initial_same true true x y p q e = (refl, cc)
    initial_same false false x y p q e = (refl, e)
    initial_same true false x y p q e = absurd (let h = subst (λ (z : List Kind). begins_by extends_item z ≡ false) (sym e) q in cc)
    initial_same false true x y p q e = absurd (let h = subst (λ (z : List Kind). begins_by extends_item z ≡ false) e p in cc)

updates_determined : IsDetermined extends_item IsUpdate update_kinds
updates_determined = record { same = λ a b x y is is' p q e. (made a b (first a b x y e) (second a b x y e), cc) }
  where
    first : (a b : PlainUpdate) (x y : List Kind) → update_kinds a ++ x ≡ update_kinds b ++ y → a.name ≡ b.name
    first a b x y e = cc

    second : (a b : PlainUpdate) (x y : List Kind) → update_kinds a ++ x ≡ update_kinds b ++ y → a.amount ≡ b.amount
    second a b x y e = cc

    with_fields : List ℕ → List ℕ → PlainUpdate
    with_fields n d = record { name = n; amount = d }

    made : (a b : PlainUpdate) → a.name ≡ b.name → a.amount ≡ b.amount → a ≡ b
    made a b e f = ap (λ (n : List ℕ). with_fields n a.amount) e ∙ ap (with_fields b.name) f

no_operator : (r : Relation) (x : List Kind) → begins_by is_operator (relation_kind r ∷ x) ≡ false
no_operator relation.Less x = refl
no_operator _ x = refl

abbrev relation_of_kind : Kind → Relation
relation_of_kind (kind.Fixed mark.Less) = relation.Less
relation_of_kind (kind.Fixed mark.AtMost) = relation.AtMost
relation_of_kind (kind.Fixed mark.Equal) = relation.Equal
relation_of_kind (kind.Fixed mark.AtLeast) = relation.AtLeast
relation_of_kind _ = relation.More

relation_known : (r : Relation) → relation_of_kind (relation_kind r) ≡ r
relation_known relation.Less = refl
relation_known _ = refl

less_extends : (x : List Kind) → begins_by extends_item x ≡ false → begins_by is_operator x ≡ false
less_extends [] h = refl
less_extends (kind.Fixed mark.Plus ∷ x) h = h
less_extends (kind.Fixed mark.Minus ∷ x) h = h
less_extends (kind.Fixed mark.Star ∷ x) h = h
less_extends (_ ∷ x) h = refl

comparisons_determined : IsDetermined extends_item IsComparison comparison_kinds
comparisons_determined = record { same = determined }
  where
    with_fields : Terms → Relation → Terms → PlainComparison
    with_fields l r q = record { left = l; relation = r; right = q }

    made : (a b : PlainComparison) → a.left ≡ b.left → a.relation ≡ b.relation → a.right ≡ b.right → a ≡ b
    made a b e f g = ap (λ (l : Terms). with_fields l a.relation a.right) e ∙ ap (λ (r : Relation). with_fields b.left r a.right) f
        ∙ ap (with_fields b.left b.relation) g

    determined : (a b : PlainComparison) (x y : List Kind) → IsComparison a → IsComparison b → begins_by extends_item x ≡ false
        → begins_by extends_item y ≡ false → comparison_kinds a ++ x ≡ comparison_kinds b ++ y → (a ≡ b) × (x ≡ y)
    determined a b x y is is' p q e =
        let l = sum_unique a.left b.left (relation_kind a.relation ∷ (sum_kinds a.right ++ x)) (relation_kind b.relation ∷ (sum_kinds b.right ++ y)) is.left
        is'.left (no_operator a.relation (sum_kinds a.right ++ x)) (no_operator b.relation (sum_kinds b.right ++ y))
        (sym (append_assoc (sum_kinds a.left) (relation_kind a.relation ∷ sum_kinds a.right) x) ∙ e
        ∙ append_assoc (sum_kinds b.left) (relation_kind b.relation ∷ sum_kinds b.right) y) in
        let first = heads (relation_kind a.relation) (relation_kind b.relation) (sum_kinds a.right ++ x) (sum_kinds b.right ++ y) l.1 in
        let rest = tails (relation_kind a.relation) (relation_kind b.relation) (sum_kinds a.right ++ x) (sum_kinds b.right ++ y) l.1 in
        let r = sum_unique a.right b.right x y is.right is'.right (less_extends x p) (less_extends y q) rest in
        (made a b l.0 (sym (relation_known a.relation) ∙ ap relation_of_kind first ∙ relation_known b.relation) r.0, r.1)

-- ---- lists
less_list : (x : List Kind) → begins_by extends_list x ≡ false → begins_by extends_item x ≡ false
less_list [] h = refl
less_list (kind.Fixed mark.Plus ∷ x) h = h
less_list (kind.Fixed mark.Minus ∷ x) h = h
less_list (kind.Fixed mark.Star ∷ x) h = h
less_list (kind.Fixed mark.Initial ∷ x) h = h
less_list (_ ∷ x) h = refl

-- the first token is that mark
abbrev HasFirst : Mark → List Kind → Type 0
HasFirst m x = (more : List Kind) × (x ≡ kind.Fixed m ∷ more)

module _ {A : Type 0} (Is : A → Type 0) (f : A → List Kind) (item : IsDetermined extends_item Is f) where
  further_item : (xs : List A) (x : List Kind) → begins_by extends_list x ≡ false → begins_by extends_item (further kind.Fixed f xs ++ x) ≡ false
  further_item [] x h = less_list x h
  further_item (a ∷ xs) x h = refl

  further_same : (xs ys : List A) (x y : List Kind) → AllByRecursion Is xs → AllByRecursion Is ys → begins_by extends_list x ≡ false
      → begins_by extends_list y ≡ false → further kind.Fixed f xs ++ x ≡ further kind.Fixed f ys ++ y → (xs ≡ ys) × (x ≡ y)
  further_same [] [] x y is is' p q e = (refl, e)
  further_same [] (b ∷ ys) x y is is' p q e = absurd (let h = subst (λ (z : List Kind). begins_by extends_list z ≡ false) e p in cc)
  further_same (a ∷ xs) [] x y is is' p q e = absurd (let h = subst (λ (z : List Kind). begins_by extends_list z ≡ false) (sym e) q in cc)
  further_same (a ∷ xs) (b ∷ ys) x y is is' p q e =
      let inner : (f a ++ further kind.Fixed f xs) ++ x ≡ (f b ++ further kind.Fixed f ys) ++ y = cc in
      let i = item.same a b (further kind.Fixed f xs ++ x) (further kind.Fixed f ys ++ y) is.0 is'.0 (further_item xs x p) (further_item ys y q)
      (sym (append_assoc (f a) (further kind.Fixed f xs) x) ∙ inner ∙ append_assoc (f b) (further kind.Fixed f ys) y) in
      let r = further_same xs ys x y is.1 is'.1 p q i.1 in
      (cc (i.0, r.0), r.1)

  listed_same : (xs ys : List A) (x y : List Kind) → IsSome xs → IsSome ys → AllByRecursion Is xs → AllByRecursion Is ys → begins_by extends_list x ≡ false
      → begins_by extends_list y ≡ false → listed kind.Fixed f xs ++ x ≡ listed kind.Fixed f ys ++ y → (xs ≡ ys) × (x ≡ y)
  listed_same [] ys x y some some' is is' p q e = absurd some
  listed_same (a ∷ xs) [] x y some some' is is' p q e = absurd some'
  listed_same (a ∷ xs) (b ∷ ys) x y some some' is is' p q e =
      let i = item.same a b (further kind.Fixed f xs ++ x) (further kind.Fixed f ys ++ y) is.0 is'.0 (further_item xs x p) (further_item ys y q)
      (sym (append_assoc (f a) (further kind.Fixed f xs) x) ∙ e ∙ append_assoc (f b) (further kind.Fixed f ys) y) in
      let r = further_same xs ys x y is.1 is'.1 p q i.1 in
      (cc (i.0, r.0), r.1)

  -- where nothing that follows begins by the keyword
  led_same : (m : Mark) (xs ys : List A) (x y : List Kind) → AllByRecursion Is xs → AllByRecursion Is ys → begins_by extends_list x ≡ false
      → begins_by extends_list y ≡ false → (HasFirst m x → ⊥) → (HasFirst m y → ⊥) → led kind.Fixed m f xs ++ x ≡ led kind.Fixed m f ys ++ y → (xs ≡ ys)
      × (x ≡ y)
  led_same m [] [] x y is is' p q s t e = (refl, e)
  led_same m [] (b ∷ ys) x y is is' p q s t e = absurd (s (listed kind.Fixed f (b ∷ ys) ++ y, e))
  led_same m (a ∷ xs) [] x y is is' p q s t e = absurd (t (listed kind.Fixed f (a ∷ xs) ++ x, sym e))
  led_same m (a ∷ xs) (b ∷ ys) x y is is' p q s t e = listed_same (a ∷ xs) (b ∷ ys) x y tt tt is is' p q
      (tails (kind.Fixed m) (kind.Fixed m) (listed kind.Fixed f (a ∷ xs) ++ x) (listed kind.Fixed f (b ∷ ys) ++ y) e)

  -- with its semicolon
  end_same : (xs ys : List A) (x y : List Kind) → IsSome xs → IsSome ys → AllByRecursion Is xs → AllByRecursion Is ys → listed kind.Fixed f xs
      ++ kind.Fixed mark.Semicolon ∷ x ≡ listed kind.Fixed f ys ++ kind.Fixed mark.Semicolon ∷ y → (xs ≡ ys) × (x ≡ y)
  end_same xs ys x y some some' is is' e =
      let r = listed_same xs ys (kind.Fixed mark.Semicolon ∷ x) (kind.Fixed mark.Semicolon ∷ y) some some' is is' refl refl e in (r.0, cc (r.1))

  ended_same : (m : Mark) (xs ys : List A) (x y : List Kind) → AllByRecursion Is xs → AllByRecursion Is ys → (HasFirst m x → ⊥) → (HasFirst m y → ⊥)
      → ended kind.Fixed m f xs ++ x ≡ ended kind.Fixed m f ys ++ y → (xs ≡ ys) × (x ≡ y)
  ended_same m [] [] x y is is' s t e = (refl, e)
  ended_same m [] (b ∷ ys) x y is is' s t e = absurd (s ((listed kind.Fixed f (b ∷ ys) ++ kind.Fixed mark.Semicolon ∷ []) ++ y, e))
  ended_same m (a ∷ xs) [] x y is is' s t e = absurd (t ((listed kind.Fixed f (a ∷ xs) ++ kind.Fixed mark.Semicolon ∷ []) ++ x, sym e))
  ended_same m (a ∷ xs) (b ∷ ys) x y is is' s t e =
      let inner = tails (kind.Fixed m) (kind.Fixed m) ((listed kind.Fixed f (a ∷ xs) ++ kind.Fixed mark.Semicolon ∷ []) ++ x)
      ((listed kind.Fixed f (b ∷ ys) ++ kind.Fixed mark.Semicolon ∷ []) ++ y) e in
      end_same (a ∷ xs) (b ∷ ys) x y tt tt is is'
      (sym (append_assoc (listed kind.Fixed f (a ∷ xs)) (kind.Fixed mark.Semicolon ∷ []) x) ∙ inner
      ∙ append_assoc (listed kind.Fixed f (b ∷ ys)) (kind.Fixed mark.Semicolon ∷ []) y)

  -- a list that may be empty, and its semicolon
  declared_same : (xs ys : List A) (x y : List Kind) → ((a : A) (v w : List Kind) → Is a → f a ++ v ≡ kind.Fixed mark.Semicolon ∷ w → ⊥) → AllByRecursion Is xs
      → AllByRecursion Is ys → listed kind.Fixed f xs ++ kind.Fixed mark.Semicolon ∷ x ≡ listed kind.Fixed f ys ++ kind.Fixed mark.Semicolon ∷ y → (xs ≡ ys)
      × (x ≡ y)
  declared_same [] [] x y starts is is' e = (refl, cc)
  declared_same [] (b ∷ ys) x y starts is is' e = absurd
      (starts b (further kind.Fixed f ys ++ kind.Fixed mark.Semicolon ∷ y) x is'.0
      (sym (append_assoc (f b) (further kind.Fixed f ys) (kind.Fixed mark.Semicolon ∷ y)) ∙ sym e))
  declared_same (a ∷ xs) [] x y starts is is' e = absurd
      (starts a (further kind.Fixed f xs ++ kind.Fixed mark.Semicolon ∷ x) y is.0
      (sym (append_assoc (f a) (further kind.Fixed f xs) (kind.Fixed mark.Semicolon ∷ x)) ∙ e))
  declared_same (a ∷ xs) (b ∷ ys) x y starts is is' e = end_same (a ∷ xs) (b ∷ ys) x y tt tt is is' e

-- blocks, each of which begins by its keyword, before what doesn't
each_same : {A : Type 0} (m : Mark) (Is : A → Type 0) (f : A → List Kind) → ((a : A) → HasFirst m (f a))
    → ((a b : A) (x y : List Kind) → Is a → Is b → f a ++ x ≡ f b ++ y → (a ≡ b) × (x ≡ y)) → (xs ys : List A) (x y : List Kind) → AllByRecursion Is xs
    → AllByRecursion Is ys → (HasFirst m x → ⊥) → (HasFirst m y → ⊥) → each f xs ++ x ≡ each f ys ++ y → (xs ≡ ys) × (x ≡ y)
each_same m Is f first same [] [] x y is is' s t e = (refl, e)
each_same m Is f first same [] (b ∷ ys) x y is is' s t e = absurd
    (let h = first b in s ((h.0 ++ each f ys) ++ y, e ∙ ap (λ (z : List Kind). (z ++ each f ys) ++ y) h.1))
each_same m Is f first same (a ∷ xs) [] x y is is' s t e = absurd
    (let h = first a in t ((h.0 ++ each f xs) ++ x, sym e ∙ ap (λ (z : List Kind). (z ++ each f xs) ++ x) h.1))
each_same m Is f first same (a ∷ xs) (b ∷ ys) x y is is' s t e =
    let i = same a b (each f xs ++ x) (each f ys ++ y) is.0 is'.0 (sym (append_assoc (f a) (each f xs) x) ∙ e ∙ append_assoc (f b) (each f ys) y) in
    let r = each_same m Is f first same xs ys x y is.1 is'.1 s t i.1 in
    (cc (i.0, r.0), r.1)

same_name : (n m : List ℕ) (v w : List Kind) → kind.Name n ∷ v ≡ kind.Name m ∷ w → (n ≡ m) × (v ≡ w)
same_name n m v w h = (cc, cc)

rule_first : (r : PlainRule) → HasFirst mark.Rule (rule_kinds r)
rule_first r = (_, refl)

abbrev when_part : PlainRule → List Kind
when_part r = led kind.Fixed mark.When comparison_kinds r.guards

abbrev do_part : PlainRule → List Kind
do_part r = led kind.Fixed mark.Do update_kinds r.updates

do_free : (us : List PlainUpdate) (x : List Kind) → begins_by extends_list (led kind.Fixed mark.Do update_kinds us ++ kind.Fixed mark.Semicolon ∷ x) ≡ false
do_free [] x = refl
do_free (u ∷ us) x = refl

do_no_when : (us : List PlainUpdate) (x : List Kind) → HasFirst mark.When (led kind.Fixed mark.Do update_kinds us ++ kind.Fixed mark.Semicolon ∷ x) → ⊥
do_no_when [] x h = let e = h.1 in cc
do_no_when (u ∷ us) x h = let e = h.1 in cc

rule_same : (a b : PlainRule) (x y : List Kind) → IsRule a → IsRule b → rule_kinds a ++ x ≡ rule_kinds b ++ y → (a ≡ b) × (x ≡ y)
rule_same a b x y is is' e =
    let flat : (r : PlainRule) (z : List Kind) → (when_part r ++ (do_part r ++ kind.Fixed mark.Semicolon ∷ [])) ++ z ≡ when_part r
    ++ (do_part r ++ kind.Fixed mark.Semicolon ∷ z) = λ r z. append_assoc (when_part r) (do_part r ++ kind.Fixed mark.Semicolon ∷ []) z
    ∙ ap (λ (v : List Kind). when_part r ++ v) (append_assoc (do_part r) (kind.Fixed mark.Semicolon ∷ []) z) in
    let n = same_name a.name b.name _ _ (tails (kind.Fixed mark.Rule) (kind.Fixed mark.Rule) _ _ e) in
    let f = same_name a.from b.from _ _ (tails (kind.Fixed mark.Colon) (kind.Fixed mark.Colon) _ _ n.1) in
    let t = same_name a.to b.to _ _ (tails (kind.Fixed mark.Arrow) (kind.Fixed mark.Arrow) _ _ f.1) in
    let g = led_same IsComparison comparison_kinds comparisons_determined mark.When a.guards b.guards (do_part a ++ kind.Fixed mark.Semicolon ∷ x)
    (do_part b ++ kind.Fixed mark.Semicolon ∷ y) is.guards is'.guards (do_free a.updates x) (do_free b.updates y) (do_no_when a.updates x)
    (do_no_when b.updates y) (sym (flat a x) ∙ t.1 ∙ flat b y) in
    let u = led_same IsUpdate update_kinds updates_determined mark.Do a.updates b.updates (kind.Fixed mark.Semicolon ∷ x) (kind.Fixed mark.Semicolon ∷ y)
    is.updates is'.updates refl refl (λ h. let z = h.1 in cc) (λ h. let z = h.1 in cc) g.1 in
    (made n.0 f.0 t.0 g.0 u.0, tails (kind.Fixed mark.Semicolon) (kind.Fixed mark.Semicolon) x y u.1)
  where
    with_fields : List ℕ → List ℕ → List ℕ → List PlainComparison → List PlainUpdate → PlainRule
    with_fields n f t g u = record { name = n; from = f; to = t; guards = g; updates = u }

    made : a.name ≡ b.name → a.from ≡ b.from → a.to ≡ b.to → a.guards ≡ b.guards → a.updates ≡ b.updates → a ≡ b
    made n f t g u =
        ap (λ z. with_fields z a.from a.to a.guards a.updates) n ∙ ap (λ z. with_fields b.name z a.to a.guards a.updates) f
        ∙ ap (λ z. with_fields b.name b.from z a.guards a.updates) t ∙ ap (λ z. with_fields b.name b.from b.to z a.updates) g
        ∙ ap (with_fields b.name b.from b.to b.guards) u

event_first : (e : PlainEvent) → HasFirst mark.Event (event_kinds e)
event_first e = (_, refl)

event_same : (a b : PlainEvent) (x y : List Kind) → IsEvent a → IsEvent b → event_kinds a ++ x ≡ event_kinds b ++ y → (a ≡ b) × (x ≡ y)
event_same a b x y is is' e =
    let n = same_name a.name b.name _ _ (tails (kind.Fixed mark.Event) (kind.Fixed mark.Event) _ _ e) in
    let flat : (r : PlainEvent) (z : List Kind) →
    (led kind.Fixed mark.After name_kinds r.after ++ kind.Fixed mark.Colon ∷
    (listed kind.Fixed comparison_kinds r.condition ++ kind.Fixed mark.Semicolon ∷ [])) ++ z ≡ led kind.Fixed mark.After name_kinds r.after
    ++ kind.Fixed mark.Colon ∷ (listed kind.Fixed comparison_kinds r.condition ++ kind.Fixed mark.Semicolon ∷ z) = λ r z. append_assoc
    (led kind.Fixed mark.After name_kinds r.after)
    (kind.Fixed mark.Colon ∷ (listed kind.Fixed comparison_kinds r.condition ++ kind.Fixed mark.Semicolon ∷ [])) z
    ∙ ap (λ (v : List Kind). led kind.Fixed mark.After name_kinds r.after ++ kind.Fixed mark.Colon ∷ v)
    (append_assoc (listed kind.Fixed comparison_kinds r.condition) (kind.Fixed mark.Semicolon ∷ []) z) in
    let g = led_same IsNameText name_kinds names_determined mark.After a.after b.after
    (kind.Fixed mark.Colon ∷ (listed kind.Fixed comparison_kinds a.condition ++ kind.Fixed mark.Semicolon ∷ x))
    (kind.Fixed mark.Colon ∷ (listed kind.Fixed comparison_kinds b.condition ++ kind.Fixed mark.Semicolon ∷ y)) is.after is'.after refl refl
    (λ h. let z = h.1 in cc) (λ h. let z = h.1 in cc) (sym (flat a x) ∙ n.1 ∙ flat b y) in
    let c = end_same IsComparison comparison_kinds comparisons_determined a.condition b.condition x y is.some is'.some is.condition is'.condition
    (tails (kind.Fixed mark.Colon) (kind.Fixed mark.Colon) _ _ g.1) in
    (made n.0 g.0 c.0, c.1)
  where
    with_fields : List ℕ → List (List ℕ) → List PlainComparison → PlainEvent
    with_fields n f c = record { name = n; after = f; condition = c }

    made : a.name ≡ b.name → a.after ≡ b.after → a.condition ≡ b.condition → a ≡ b
    made n f c = ap (λ z. with_fields z a.after a.condition) n ∙ ap (λ z. with_fields b.name z a.condition) f ∙ ap (with_fields b.name b.after) c

pattern_first : (p : PlainPattern) → HasFirst mark.Pattern (pattern_kinds p)
pattern_first p = (_, refl)

abbrev close_part : PlainPattern → List Kind → List Kind
close_part p z = each event_kinds p.events ++ kind.Fixed mark.CloseBrace ∷ z

close_not : (m : Mark) (es : List PlainEvent) (z : List Kind) → (kind.Fixed mark.Event ≡ kind.Fixed m → ⊥) → (kind.Fixed mark.CloseBrace ≡ kind.Fixed m → ⊥)
    → HasFirst m (each event_kinds es ++ kind.Fixed mark.CloseBrace ∷ z) → ⊥
close_not m [] z ne nc h = nc (let e : kind.Fixed mark.CloseBrace ∷ z ≡ kind.Fixed m ∷ h.0 = h.1 in cc)
close_not m (e ∷ es) z ne nc h = ne (let g : kind.Fixed mark.Event ∷ _ ≡ kind.Fixed m ∷ h.0 = h.1 in cc)

empty_not : (ns : List (List ℕ)) (rest : List Kind) → (HasFirst mark.Start rest → ⊥) → HasFirst mark.Start (ended kind.Fixed mark.Empty name_kinds ns ++ rest)
    → ⊥
empty_not [] rest not h = not h
empty_not (n ∷ ns) rest not h = let e = h.1 in cc

pattern_same : (a b : PlainPattern) (x y : List Kind) → IsPattern a → IsPattern b → pattern_kinds a ++ x ≡ pattern_kinds b ++ y → (a ≡ b) × (x ≡ y)
pattern_same a b x y is is' e =
    let n = same_name a.name b.name _ _ (tails (kind.Fixed mark.Pattern) (kind.Fixed mark.Pattern) _ _ e) in
    let flat : (p : PlainPattern) (z : List Kind) →
    (ended kind.Fixed mark.Start comparison_kinds p.start
    ++ (ended kind.Fixed mark.Empty name_kinds p.empty ++ (each event_kinds p.events ++ kind.Fixed mark.CloseBrace ∷ [])))
    ++ z ≡ ended kind.Fixed mark.Start comparison_kinds p.start
    ++ (ended kind.Fixed mark.Empty name_kinds p.empty ++ close_part p z) = λ p z. append_assoc (ended kind.Fixed mark.Start comparison_kinds p.start)
    (ended kind.Fixed mark.Empty name_kinds p.empty ++ (each event_kinds p.events ++ kind.Fixed mark.CloseBrace ∷ [])) z
    ∙ ap (λ (v : List Kind). ended kind.Fixed mark.Start comparison_kinds p.start ++ v)
    (append_assoc (ended kind.Fixed mark.Empty name_kinds p.empty) (each event_kinds p.events ++ kind.Fixed mark.CloseBrace ∷ []) z
    ∙ ap (λ (v : List Kind). ended kind.Fixed mark.Empty name_kinds p.empty ++ v)
    (append_assoc (each event_kinds p.events) (kind.Fixed mark.CloseBrace ∷ []) z)) in
    let inner = sym (flat a x) ∙ tails (kind.Fixed mark.OpenBrace) (kind.Fixed mark.OpenBrace) _ _ n.1 ∙ flat b y in
    let s = ended_same IsComparison comparison_kinds comparisons_determined mark.Start a.start b.start
    (ended kind.Fixed mark.Empty name_kinds a.empty ++ close_part a x) (ended kind.Fixed mark.Empty name_kinds b.empty ++ close_part b y) is.start is'.start
    (empty_not a.empty (close_part a x) (close_not mark.Start a.events x (λ h. cc) (λ h. cc)))
    (empty_not b.empty (close_part b y) (close_not mark.Start b.events y (λ h. cc) (λ h. cc))) inner in
    let m = ended_same IsNameText name_kinds names_determined mark.Empty a.empty b.empty (close_part a x) (close_part b y) is.empty is'.empty
    (close_not mark.Empty a.events x (λ h. cc) (λ h. cc)) (close_not mark.Empty b.events y (λ h. cc) (λ h. cc)) s.1 in
    let v = each_same mark.Event IsEvent event_kinds event_first event_same a.events b.events (kind.Fixed mark.CloseBrace ∷ x) (kind.Fixed mark.CloseBrace ∷ y)
    is.events is'.events (λ h. let z = h.1 in cc) (λ h. let z = h.1 in cc) m.1 in
    (made n.0 s.0 m.0 v.0, tails (kind.Fixed mark.CloseBrace) (kind.Fixed mark.CloseBrace) x y v.1)
  where
    with_fields : List ℕ → List PlainComparison → List (List ℕ) → List PlainEvent → PlainPattern
    with_fields n s m v = record { name = n; start = s; empty = m; events = v }

    made : a.name ≡ b.name → a.start ≡ b.start → a.empty ≡ b.empty → a.events ≡ b.events → a ≡ b
    made n s m v = ap (λ z. with_fields z a.start a.empty a.events) n ∙ ap (λ z. with_fields b.name z a.empty a.events) s
        ∙ ap (λ z. with_fields b.name b.start z a.events) m ∙ ap (with_fields b.name b.start b.empty) v

-- ---- files
name_not_end : (n : List ℕ) (v w : List Kind) → IsNameText n → name_kinds n ++ v ≡ kind.Fixed mark.Semicolon ∷ w → ⊥
name_not_end n v w is e = cc

comparison_not_end : (c : PlainComparison) (v w : List Kind) → IsComparison c → comparison_kinds c ++ v ≡ kind.Fixed mark.Semicolon ∷ w → ⊥
comparison_not_end c v w is e = sum_not_end c.left ((relation_kind c.relation ∷ sum_kinds c.right) ++ v) is.left
    (sym (append_assoc (sum_kinds c.left) (relation_kind c.relation ∷ sum_kinds c.right) v) ∙ e)
  where
    sum_not_end : (ts : Terms) (z : List Kind) → IsSum ts → sum_kinds ts ++ z ≡ kind.Fixed mark.Semicolon ∷ w → ⊥
    sum_not_end done z s h = s
    sum_not_end (term sign.Plus t ts) z s h = term_not mark.Semicolon t (more_kinds ts ++ z) w (λ j. j) s.0
        (sym (append_assoc (term_kinds t) (more_kinds ts) z) ∙ h)
    sum_not_end (term sign.Minus t ts) z s h = cc

no_rule_first : (ps : List PlainPattern) → HasFirst mark.Rule (each pattern_kinds ps) → ⊥
no_rule_first [] h = let e = h.1 in cc
no_rule_first (p ∷ ps) h = let e = h.1 in cc

pub file_unique : (t u : PlainTree) → IsTree t → IsTree u → file_kinds t ≡ file_kinds u → t ≡ u
file_unique t u is is' e =
    let n = same_name t.name u.name _ _ (tails (kind.Fixed mark.Automaton) (kind.Fixed mark.Automaton) _ _ e) in
    let p = declared_same IsNameText name_kinds names_determined t.parameters u.parameters _ _ name_not_end is.parameters is'.parameters
    (tails (kind.Fixed mark.Parameters) (kind.Fixed mark.Parameters) _ _ (tails (kind.Fixed mark.Semicolon) (kind.Fixed mark.Semicolon) _ _ n.1)) in
    let s = declared_same IsNameText name_kinds names_determined t.shared u.shared _ _ name_not_end is.shared is'.shared
    (tails (kind.Fixed mark.Shared) (kind.Fixed mark.Shared) _ _ p.1) in
    let l = end_same IsLocation location_kinds locations_determined t.locations u.locations _ _ is.some is'.some is.locations is'.locations
    (tails (kind.Fixed mark.Locations) (kind.Fixed mark.Locations) _ _ s.1) in
    let c = sum_unique t.processes u.processes (kind.Fixed mark.Semicolon ∷ _) (kind.Fixed mark.Semicolon ∷ _) is.processes is'.processes refl refl
    (tails (kind.Fixed mark.Processes) (kind.Fixed mark.Processes) _ _ l.1) in
    let r = declared_same IsComparison comparison_kinds comparisons_determined t.resilience u.resilience _ _ comparison_not_end is.resilience is'.resilience
    (tails (kind.Fixed mark.Resilience) (kind.Fixed mark.Resilience) _ _ (tails (kind.Fixed mark.Semicolon) (kind.Fixed mark.Semicolon) _ _ c.1)) in
    let k = each_same mark.Rule IsRule rule_kinds rule_first rule_same t.rules u.rules (each pattern_kinds t.patterns) (each pattern_kinds u.patterns) is.rules
    is'.rules (no_rule_first t.patterns) (no_rule_first u.patterns) r.1 in
    let v = each_same mark.Pattern IsPattern pattern_kinds pattern_first pattern_same t.patterns u.patterns [] [] is.patterns is'.patterns
    (λ h. let z = h.1 in cc) (λ h. let z = h.1 in cc) (append-nil (each pattern_kinds t.patterns) ∙ k.1 ∙ sym (append-nil (each pattern_kinds u.patterns)))
    in
    λ i. record { name = n.0 i; parameters = p.0 i; shared = s.0 i; locations = l.0 i; processes = c.0 i; resilience = r.0 i; rules = k.0 i; patterns = v.0 i }
