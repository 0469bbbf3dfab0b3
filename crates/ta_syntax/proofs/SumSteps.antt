-- The plain form of sums, terms and factors that were read, and the offsets that they state.
use Rattle.ta_syntax.proofs.Common.{◌≡◌, ℕ, ◌≤◌, List, [], ◌∷◌, ◌++◌, Some, None, map, refl, sym, ap, subst, ◌∙◌, append_assoc, arith, append-nil, Terms, Term}
use Rattle.ta_syntax.proofs.Common.{Factor, term, number, times, alone, blank, named, nested, sign_kind, sum_kinds, more_kinds, term_kinds, factor_kinds, IsSum}
use Rattle.ta_syntax.proofs.Common.{AreTerms, IsTerm, plain_sum, plain_term, plain_factor, plain_terms, terms_of, factor_layer, sum_layer, term_layer}
use Rattle.ta_syntax.proofs.Common.{sum_depth, term_depth, Offsets, at_first, more_of, leading, signed_sum, unplaced_sign, factor_stated, term_layer_stated}
use Rattle.ta_syntax.proofs.Common.{sum_layer_stated, sum_stated, sum_term_stated, sum_factor_stated, Kind, Mark, Sign, Digits, Spelled, TreeSum, TreeTerm}
use Rattle.ta_syntax.proofs.Common.{TreeFactor, Named, Nested, TreeSum-F, rolls-Named, rolls-Nested, roll-TreeSum, roll-TreeTerm, fold-roll-TreeSum}
use Rattle.ta_syntax.proofs.Common.{fold-roll-TreeTerm, fold-roll-TreeFactor}
use Rattle.ta_syntax.specs.declared.tokens.Kind.TheVariants as kind
use Rattle.ta_syntax.specs.declared.tokens.Mark.TheVariants as mark
use Rattle.ta_syntax.specs.declared.sums.Sign.TheVariants as sign
use Rattle.ta_syntax.specs.declared.sums.TreeFactor.TheOpen as open_factor

-- ---- trees and their plain form
pub plain_items : (xs : List (Sign × TreeTerm)) → terms_of (map (λ x. (x.0, plain_term x.1)) xs) ≡ plain_terms xs
plain_items [] = refl
plain_items (x ∷ xs) = ap (λ (ts : Terms). term x.0 (plain_term x.1) ts) (plain_items xs)

pub plain_sum_roll : (x : TreeSum-F TreeFactor TreeSum TreeTerm) → plain_sum (roll-TreeSum x) ≡ plain_terms x.terms.items
plain_sum_roll x = fold-roll-TreeSum Factor Terms Term factor_layer sum_layer term_layer x ∙ plain_items x.terms.items

pub plain_number : (at : ℕ) (d : Digits) → plain_term (roll-TreeTerm (record { at = at; factor = Some d; body = None })) ≡ number d.text
plain_number at d = fold-roll-TreeTerm Factor Terms Term factor_layer sum_layer term_layer (record { at = at; factor = Some d; body = None })

pub plain_times : (at : ℕ) (d : Digits) (f : TreeFactor)
    → plain_term (roll-TreeTerm (record { at = at; factor = Some d; body = Some f })) ≡ times d.text (plain_factor f)
plain_times at d f = fold-roll-TreeTerm Factor Terms Term factor_layer sum_layer term_layer (record { at = at; factor = Some d; body = Some f })

pub plain_alone : (at : ℕ) (f : TreeFactor) → plain_term (roll-TreeTerm (record { at = at; factor = None; body = Some f })) ≡ alone (plain_factor f)
plain_alone at f = fold-roll-TreeTerm Factor Terms Term factor_layer sum_layer term_layer (record { at = at; factor = None; body = Some f })

pub plain_named : (n : Spelled) → plain_factor (Named n) ≡ named n.name
plain_named n = ap plain_factor (sym (rolls-Named n)) ∙ fold-roll-TreeFactor Factor Terms Term factor_layer sum_layer term_layer (open_factor.Named n)

pub plain_nested : (s : TreeSum) → plain_factor (Nested s) ≡ nested (plain_sum s)
plain_nested s = ap plain_factor (sym (rolls-Nested s)) ∙ fold-roll-TreeFactor Factor Terms Term factor_layer sum_layer term_layer (open_factor.Nested s)

-- ---- and what they state
abbrev Places : Type 0
Places = List Offsets

pub stated_number : (at : ℕ) (d : Digits) → sum_term_stated (roll-TreeTerm (record { at = at; factor = Some d; body = None })) ≡ (at ∷ d.at ∷ []) ∷ []
stated_number at d = fold-roll-TreeTerm Places Places Places factor_stated sum_layer_stated term_layer_stated (record { at = at; factor = Some d; body = None })

pub stated_times : (at : ℕ) (d : Digits) (f : TreeFactor)
    → sum_term_stated (roll-TreeTerm (record { at = at; factor = Some d; body = Some f })) ≡ (at ∷ d.at ∷ []) ∷ [] ∷ sum_factor_stated f
stated_times at d f = fold-roll-TreeTerm Places Places Places factor_stated sum_layer_stated term_layer_stated
    (record { at = at; factor = Some d; body = Some f })

pub stated_alone : (at : ℕ) (f : TreeFactor) → sum_term_stated (roll-TreeTerm (record { at = at; factor = None; body = Some f })) ≡ at_first at
    (sum_factor_stated f)
stated_alone at f = fold-roll-TreeTerm Places Places Places factor_stated sum_layer_stated term_layer_stated (record { at = at; factor = None; body = Some f })

pub stated_named : (n : Spelled) → sum_factor_stated (Named n) ≡ (n.at ∷ []) ∷ []
stated_named n = ap sum_factor_stated (sym (rolls-Named n))
    ∙ fold-roll-TreeFactor Places Places Places factor_stated sum_layer_stated term_layer_stated (open_factor.Named n)

pub stated_nested : (s : TreeSum) → sum_factor_stated (Nested s) ≡ [] ∷ (sum_stated s ++ [] ∷ [])
stated_nested s = ap sum_factor_stated (sym (rolls-Nested s))
    ∙ fold-roll-TreeFactor Places Places Places factor_stated sum_layer_stated term_layer_stated (open_factor.Nested s)

-- what each term of a list makes, with its sign
abbrev pub pairs : {B : Type 0} → (TreeTerm → List B) → List (Sign × TreeTerm) → List (Sign × List B)
pairs f [] = []
pairs f (x ∷ xs) = (x.0, f x.1) ∷ pairs f xs

map_pairs : (xs : List (Sign × TreeTerm)) → map (λ x. (x.0, sum_term_stated x.1)) xs ≡ pairs sum_term_stated xs
map_pairs [] = refl
map_pairs (x ∷ xs) = ap (λ (ys : List (Sign × Places)). (x.0, sum_term_stated x.1) ∷ ys) (map_pairs xs)

pub stated_sum_roll : (x : TreeSum-F TreeFactor TreeSum TreeTerm) → sum_stated (roll-TreeSum x) ≡ signed_sum unplaced_sign (pairs sum_term_stated x.terms.items)
stated_sum_roll x = fold-roll-TreeSum Places Places Places factor_stated sum_layer_stated term_layer_stated x
    ∙ ap (signed_sum unplaced_sign) (map_pairs x.terms.items)

abbrev pub spell_term : TreeTerm → List Kind
spell_term t = term_kinds (plain_term t)

more_kinds_of : (xs : List (Sign × TreeTerm)) → more_kinds (plain_terms xs) ≡ more_of sign_kind (pairs spell_term xs)
more_kinds_of [] = refl
more_kinds_of (x ∷ xs) = ap (λ (y : List Kind). sign_kind x.0 ∷ (spell_term x.1 ++ y)) (more_kinds_of xs)

pub sum_kinds_of : (xs : List (Sign × TreeTerm)) → sum_kinds (plain_terms xs) ≡ signed_sum sign_kind (pairs spell_term xs)
sum_kinds_of [] = refl
sum_kinds_of ((sign.Plus, t) ∷ xs) = ap (λ (y : List Kind). spell_term t ++ y) (more_kinds_of xs)
sum_kinds_of ((sign.Minus, t) ∷ xs) = ap (λ (y : List Kind). kind.Fixed mark.Minus ∷ (spell_term t ++ y)) (more_kinds_of xs)

-- ---- one more term

-- before a further term: the terms so far, and its sign
abbrev pub before_of : {B : Type 0} → (Sign → B) → List (Sign × List B) → Sign → List B
before_of signed [] s = leading signed s
before_of signed (x ∷ xs) s = signed_sum signed (x ∷ xs) ++ signed s ∷ []

more_of-push : {B : Type 0} (signed : Sign → B) (xs : List (Sign × List B)) (s : Sign) (t : List B) → more_of signed (xs ++ (s, t) ∷ []) ≡ more_of signed xs
    ++ signed s ∷ t
more_of-push signed [] s t = ap (λ y. signed s ∷ y) (append-nil t)
more_of-push signed (x ∷ xs) s t = ap (λ y. signed x.0 ∷ (x.1 ++ y)) (more_of-push signed xs s t)
    ∙ ap (λ y. signed x.0 ∷ y) (sym (append_assoc x.1 (more_of signed xs) (signed s ∷ t)))

pub sum_of-push : {B : Type 0} (signed : Sign → B) (xs : List (Sign × List B)) (s : Sign) (t : List B)
    → signed_sum signed (xs ++ (s, t) ∷ []) ≡ before_of signed xs s ++ t
sum_of-push signed [] s t = ap (λ y. leading signed s ++ y) (append-nil t)
sum_of-push signed (x ∷ xs) s t = ap (λ y. leading signed x.0 ++ (x.1 ++ y)) (more_of-push signed xs s t) ∙ simp append_assoc

pub before_of-push : {B : Type 0} (signed : Sign → B) (xs : List (Sign × List B)) (x : Sign × List B) (s : Sign)
    → before_of signed (xs ++ x ∷ []) s ≡ signed_sum signed (xs ++ x ∷ []) ++ signed s ∷ []
before_of-push signed [] x s = refl
before_of-push signed (y ∷ xs) x s = refl

pub pairs-push : {B : Type 0} (f : TreeTerm → List B) (xs : List (Sign × TreeTerm)) (x : Sign × TreeTerm) → pairs f (xs ++ x ∷ []) ≡ pairs f xs
    ++ (x.0, f x.1) ∷ []
pairs-push f [] x = refl
pairs-push f (y ∷ xs) x = ap (λ ys. (y.0, f y.1) ∷ ys) (pairs-push f xs x)

pub are-push : (xs : List (Sign × TreeTerm)) (x : Sign × TreeTerm) → AreTerms (plain_terms xs) → IsTerm (plain_term x.1) → AreTerms (plain_terms (xs ++ x ∷ []))
are-push [] x are is = (is, tt)
are-push (y ∷ xs) x are is = (are.0, are-push xs x are.1 is)

pub is_sum-push : (xs : List (Sign × TreeTerm)) (x : Sign × TreeTerm) → AreTerms (plain_terms xs) → IsTerm (plain_term x.1) → IsSum (plain_terms (xs ++ x ∷ []))
is_sum-push [] x are is = (is, tt)
is_sum-push (y ∷ xs) x are is = (are.0, are-push xs x are.1 is)

pub depth-push : (xs : List (Sign × TreeTerm)) (x : Sign × TreeTerm) (left : ℕ) → sum_depth (plain_terms xs) ≤ left → term_depth (plain_term x.1) ≤ left
    → sum_depth (plain_terms (xs ++ x ∷ [])) ≤ left
depth-push [] x left a b = omega arith
depth-push (y ∷ xs) x left a b = let h : sum_depth (plain_terms (xs ++ x ∷ [])) ≤ left = depth-push xs x left (omega arith) b in omega arith

-- ---- first tokens
abbrev pub StartsTerm : Kind → Type 0
StartsTerm (kind.Number n) = Unit {0}
StartsTerm (kind.Name n) = Unit {0}
StartsTerm (kind.Fixed mark.Open) = Unit {0}
StartsTerm _ = ⊥

pub record First (text : List Kind) : Type 0 where
  pub first : Kind
  pub more : List Kind
  pub is : text ≡ first ∷ more
  pub starts : StartsTerm first

pub factor_first : (f : Factor) (x : List Kind) → First (factor_kinds f ++ x)
factor_first (named n) x = record { first = kind.Name n; more = x; is = refl; starts = tt }
factor_first (nested ts) x = record { first = kind.Fixed mark.Open; more = (sum_kinds ts ++ kind.Fixed mark.Close ∷ []) ++ x; is = refl; starts = tt }

pub term_first : (t : Term) (x : List Kind) → IsTerm t → First (term_kinds t ++ x)
term_first (number d) x is = record { first = kind.Number d; more = x; is = refl; starts = tt }
term_first (times d f) x is = record { first = kind.Number d; more = kind.Fixed mark.Star ∷ (factor_kinds f ++ x); is = refl; starts = tt }
term_first (alone f) x is = factor_first f x
term_first blank x is = absurd is

pub term_not : (m : Mark) (t : Term) (x w : List Kind) → (StartsTerm (kind.Fixed m) → ⊥) → IsTerm t → term_kinds t ++ x ≡ kind.Fixed m ∷ w → ⊥
term_not m t x w not is e =
    let f = term_first t x is in
    let both_starts : f.first ∷ f.more ≡ kind.Fixed m ∷ w = sym f.is ∙ e in
    let same : f.first ≡ kind.Fixed m = cc in
    not (subst StartsTerm same f.starts)
