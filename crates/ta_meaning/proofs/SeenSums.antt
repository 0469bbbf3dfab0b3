-- What is read off a sum as plain data is what the program's sum says.
use Rattle.ta_meaning.proofs.Common.{◌≡◌, ℕ, List, [], ◌∷◌, ◌++◌, Option, Some, None, map, refl, sym, ap, subst, ◌∙◌, Terms, Term, Factor, done, term, times}
use Rattle.ta_meaning.proofs.Common.{alone, nested, plain_sum, plain_term, plain_factor, plain_terms, factor_layer, sum_layer, term_layer, Offsets, at_first}
use Rattle.ta_meaning.proofs.Common.{leading, unplaced_sign, more_of, signed_sum, factor_stated, term_layer_stated, sum_layer_stated, sum_stated}
use Rattle.ta_meaning.proofs.Common.{sum_term_stated, sum_factor_stated, Sign, Digits, TreeSum, TreeTerm, TreeFactor, TreeFactor-F, TreeSum-F, TreeTerm-F}
use Rattle.ta_meaning.proofs.Common.{Named, Nested, roll-TreeFactor, roll-TreeSum, roll-TreeTerm, fold-TreeTerm, fold-TreeFactor, fold-roll-TreeSum}
use Rattle.ta_meaning.proofs.Common.{fold-roll-TreeTerm, fold-roll-TreeFactor, map-TreeFactor, map-TreeTerm, ind-TreeSum, SeenTerms, SeenTerm, SeenFactor}
use Rattle.ta_meaning.proofs.Common.{seen_none, seen_more, seen_number, seen_times, seen_alone, seen_blank, seen_named, seen_nested, seen_list, factor_seen}
use Rattle.ta_meaning.proofs.Common.{sum_seen, term_seen, seen_sum, plain_of_terms, plain_of_term, plain_of_factor, Scope, WithFaults, judged_terms}
use Rattle.ta_meaning.proofs.Common.{factor_judged, sum_judged, term_judged, judged_term, judged_factor, judged_sum}
use Rattle.ta_syntax.proofs.SumSteps.{pairs, stated_sum_roll, plain_sum_roll}

abbrev pub seen_term : TreeTerm → SeenTerm
seen_term = fold-TreeTerm SeenFactor SeenTerms SeenTerm factor_seen sum_seen term_seen

abbrev pub seen_factor : TreeFactor → SeenFactor
seen_factor = fold-TreeFactor SeenFactor SeenTerms SeenTerm factor_seen sum_seen term_seen

abbrev seen_terms : List (Sign × TreeTerm) → SeenTerms
seen_terms [] = seen_none
seen_terms (t ∷ ts) = seen_more t.0 (seen_term t.1) (seen_terms ts)

-- ---- what is read off it: the offsets, the errors
abbrev mutual
  pub offsets_of_sum : SeenTerms → List Offsets
  offsets_of_sum seen_none = []
  offsets_of_sum (seen_more s t ts) = leading unplaced_sign s ++ (offsets_of_term t ++ offsets_of_more ts)

  pub offsets_of_more : SeenTerms → List Offsets
  offsets_of_more seen_none = []
  offsets_of_more (seen_more s t ts) = [] ∷ (offsets_of_term t ++ offsets_of_more ts)

  pub offsets_of_term : SeenTerm → List Offsets
  offsets_of_term (seen_number at d) = (at ∷ d.at ∷ []) ∷ []
  offsets_of_term (seen_times at d f) = (at ∷ d.at ∷ []) ∷ [] ∷ offsets_of_factor f
  offsets_of_term (seen_alone at f) = at_first at (offsets_of_factor f)
  offsets_of_term (seen_blank at) = []

  pub offsets_of_factor : SeenFactor → List Offsets
  offsets_of_factor (seen_named n) = (n.at ∷ []) ∷ []
  offsets_of_factor (seen_nested ts) = [] ∷ (offsets_of_sum ts ++ [] ∷ [])

abbrev mutual
  pub judged_of_terms : Scope → SeenTerms → WithFaults Terms
  judged_of_terms sc seen_none = record { plain = done; faults = [] }
  judged_of_terms sc (seen_more s t ts) = record
      { plain = term s (judged_of_term sc t).plain (judged_of_terms sc ts).plain; faults = (judged_of_term sc t).faults ++ (judged_of_terms sc ts).faults }

  pub judged_of_term : Scope → SeenTerm → WithFaults Term
  judged_of_term sc (seen_number at d) = term_judged sc (record { at = at; factor = Some d; body = None })
  judged_of_term sc (seen_times at d f) = term_judged sc (record { at = at; factor = Some d; body = Some (judged_of_factor sc f) })
  judged_of_term sc (seen_alone at f) = term_judged sc (record { at = at; factor = None; body = Some (judged_of_factor sc f) })
  judged_of_term sc (seen_blank at) = term_judged sc (record { at = at; factor = None; body = None })

  pub judged_of_factor : Scope → SeenFactor → WithFaults Factor
  judged_of_factor sc (seen_named n) = factor_judged sc (Named n)
  judged_of_factor sc (seen_nested ts) = factor_judged sc (Nested (judged_of_terms sc ts))

-- ---- and it is all read off
pub record SeenSum (s : TreeSum) : Type 0 where
  pub plain : plain_sum s ≡ plain_of_terms (seen_sum s)
  pub stated : sum_stated s ≡ offsets_of_sum (seen_sum s)
  pub judged : (sc : Scope) → judged_sum sc s ≡ judged_of_terms sc (seen_sum s)

record SeenTermOf (t : TreeTerm) : Type 0 where
  plain : plain_term t ≡ plain_of_term (seen_term t)
  stated : sum_term_stated t ≡ offsets_of_term (seen_term t)
  judged : (sc : Scope) → judged_term sc t ≡ judged_of_term sc (seen_term t)

record SeenFactorOf (f : TreeFactor) : Type 0 where
  plain : plain_factor f ≡ plain_of_factor (seen_factor f)
  stated : sum_factor_stated f ≡ offsets_of_factor (seen_factor f)
  judged : (sc : Scope) → judged_factor sc f ≡ judged_of_factor sc (seen_factor f)

abbrev AllSeen : List (Sign × TreeTerm) → Type 0
AllSeen [] = Unit {0}
AllSeen (t ∷ ts) = SeenTermOf t.1 × AllSeen ts

all_seen : (ts : List (Sign × ((t : TreeTerm) × SeenTermOf t))) → AllSeen (map (λ x. (x.0, x.1.0)) ts)
all_seen [] = tt
all_seen (t ∷ ts) = (t.1.1, all_seen ts)

abbrev FactorPart : TreeFactor-F TreeFactor TreeSum TreeTerm → Type 0
FactorPart (Named n) = Unit {0}
FactorPart (Nested s) = SeenSum s

abbrev BodyPart : Option TreeFactor → Type 0
BodyPart None = Unit {0}
BodyPart (Some f) = SeenFactorOf f

-- the terms of a sum
seen_items : (xs : List (Sign × TreeTerm)) → seen_list (map (λ x. (x.0, seen_term x.1)) xs) ≡ seen_terms xs
seen_items [] = refl
seen_items (x ∷ xs) = ap (λ (ts : SeenTerms). seen_more x.0 (seen_term x.1) ts) (seen_items xs)

seen_sum_roll : (x : TreeSum-F TreeFactor TreeSum TreeTerm) → seen_sum (roll-TreeSum x) ≡ seen_terms x.terms.items
seen_sum_roll x = fold-roll-TreeSum SeenFactor SeenTerms SeenTerm factor_seen sum_seen term_seen x ∙ seen_items x.terms.items

terms_plain : (xs : List (Sign × TreeTerm)) → AllSeen xs → plain_terms xs ≡ plain_of_terms (seen_terms xs)
terms_plain [] h = refl
terms_plain (x ∷ xs) h = ap (λ (t : Term). term x.0 t (plain_terms xs)) h.0.plain
    ∙ ap (λ (ts : Terms). term x.0 (plain_of_term (seen_term x.1)) ts) (terms_plain xs h.1)

more_stated : (xs : List (Sign × TreeTerm)) → AllSeen xs → more_of unplaced_sign (pairs sum_term_stated xs) ≡ offsets_of_more (seen_terms xs)
more_stated [] h = refl
more_stated (x ∷ xs) h = ap (λ (t : List Offsets). [] ∷ (t ++ more_of unplaced_sign (pairs sum_term_stated xs))) h.0.stated
    ∙ ap (λ (ts : List Offsets). [] ∷ (offsets_of_term (seen_term x.1) ++ ts)) (more_stated xs h.1)

terms_stated : (xs : List (Sign × TreeTerm)) → AllSeen xs → signed_sum unplaced_sign (pairs sum_term_stated xs) ≡ offsets_of_sum (seen_terms xs)
terms_stated [] h = refl
terms_stated (x ∷ xs) h = ap (λ (t : List Offsets). leading unplaced_sign x.0 ++ (t ++ more_of unplaced_sign (pairs sum_term_stated xs))) h.0.stated
    ∙ ap (λ (ts : List Offsets). leading unplaced_sign x.0 ++ (offsets_of_term (seen_term x.1) ++ ts)) (more_stated xs h.1)

abbrev with_judged : Sign → WithFaults Term → WithFaults Terms → WithFaults Terms
with_judged s t ts = record { plain = term s t.plain ts.plain; faults = t.faults ++ ts.faults }

terms_judged : (sc : Scope) (xs : List (Sign × TreeTerm)) → AllSeen xs
    → judged_terms (map (λ x. (x.0, judged_term sc x.1)) xs) ≡ judged_of_terms sc (seen_terms xs)
terms_judged sc [] h = refl
terms_judged sc (x ∷ xs) h = ap (λ (t : WithFaults Term). with_judged x.0 t (judged_terms (map (λ x. (x.0, judged_term sc x.1)) xs))) (h.0.judged sc)
    ∙ ap (λ (ts : WithFaults Terms). with_judged x.0 (judged_of_term sc (seen_term x.1)) ts) (terms_judged sc xs h.1)

sum_step : (x : TreeSum-F TreeFactor TreeSum TreeTerm) → AllSeen x.terms.items → SeenSum (roll-TreeSum x)
sum_step x h = record {
  plain = plain_sum_roll x ∙ terms_plain x.terms.items h ∙ ap plain_of_terms (sym (seen_sum_roll x));
  stated = stated_sum_roll x ∙ terms_stated x.terms.items h ∙ ap offsets_of_sum (sym (seen_sum_roll x));
  judged = λ sc. fold-roll-TreeSum (WithFaults Factor) (WithFaults Terms) (WithFaults Term) (factor_judged sc) (sum_judged sc) (term_judged sc) x
      ∙ terms_judged sc x.terms.items h ∙ ap (judged_of_terms sc) (sym (seen_sum_roll x));
}

-- a term
term_from : (t : TreeTerm) (s : SeenTerm) → seen_term t ≡ s → plain_term t ≡ plain_of_term s → sum_term_stated t ≡ offsets_of_term s
    → ((sc : Scope) → judged_term sc t ≡ judged_of_term sc s) → SeenTermOf t
term_from t s e p o j = record {
  plain = p ∙ ap plain_of_term (sym e);
  stated = o ∙ ap offsets_of_term (sym e);
  judged = λ sc. j sc
      ∙ ap (judged_of_term sc) (sym e);
}

seen_roll : (x : TreeTerm-F TreeFactor TreeSum TreeTerm)
    → seen_term (roll-TreeTerm x) ≡ term_seen (map-TreeTerm TreeFactor TreeSum TreeTerm SeenFactor SeenTerms SeenTerm seen_factor seen_sum seen_term x)
seen_roll x = fold-roll-TreeTerm SeenFactor SeenTerms SeenTerm factor_seen sum_seen term_seen x

plain_roll : (x : TreeTerm-F TreeFactor TreeSum TreeTerm)
    → plain_term (roll-TreeTerm x) ≡ term_layer (map-TreeTerm TreeFactor TreeSum TreeTerm Factor Terms Term plain_factor plain_sum plain_term x)
plain_roll x = fold-roll-TreeTerm Factor Terms Term factor_layer sum_layer term_layer x

stated_roll : (x : TreeTerm-F TreeFactor TreeSum TreeTerm)
    → sum_term_stated (roll-TreeTerm x) ≡ term_layer_stated
    (map-TreeTerm TreeFactor TreeSum TreeTerm (List Offsets) (List Offsets) (List Offsets) sum_factor_stated sum_stated sum_term_stated x)
stated_roll x = fold-roll-TreeTerm (List Offsets) (List Offsets) (List Offsets) factor_stated sum_layer_stated term_layer_stated x

judged_roll : (sc : Scope) (x : TreeTerm-F TreeFactor TreeSum TreeTerm)
    → judged_term sc (roll-TreeTerm x) ≡ term_judged sc
    (map-TreeTerm TreeFactor TreeSum TreeTerm (WithFaults Factor) (WithFaults Terms) (WithFaults Term) (judged_factor sc) (judged_sum sc) (judged_term sc) x)
judged_roll sc x = fold-roll-TreeTerm (WithFaults Factor) (WithFaults Terms) (WithFaults Term) (factor_judged sc) (sum_judged sc) (term_judged sc) x

abbrev term_parts : ℕ → Option Digits → Option TreeFactor → TreeTerm-F TreeFactor TreeSum TreeTerm
term_parts at d f = record { at = at; factor = d; body = f }

abbrev judged_parts : ℕ → Option Digits → Option (WithFaults Factor) → TreeTerm-F (WithFaults Factor) (WithFaults Terms) (WithFaults Term)
judged_parts at d f = record { at = at; factor = d; body = f }

term_step : (at : ℕ) (d : Option Digits) (f : Option TreeFactor) → BodyPart f → SeenTermOf (roll-TreeTerm (term_parts at d f))
term_step at None None h =
    let x = term_parts at None None in
    term_from (roll-TreeTerm x) (seen_blank at) (seen_roll x) (plain_roll x) (stated_roll x) (λ sc. judged_roll sc x)
term_step at (Some d) None h =
    let x = term_parts at (Some d) None in
    term_from (roll-TreeTerm x) (seen_number at d) (seen_roll x) (plain_roll x) (stated_roll x) (λ sc. judged_roll sc x)
term_step at None (Some f) h =
    let x = term_parts at None (Some f) in
    term_from (roll-TreeTerm x) (seen_alone at (seen_factor f)) (seen_roll x)
    (plain_roll x ∙ ap (λ (z : Factor). alone z) h.plain)
    (stated_roll x ∙ ap (λ (z : List Offsets). at_first at z) h.stated)
    (λ sc. judged_roll sc x ∙ ap (λ (z : WithFaults Factor). term_judged sc (judged_parts at None (Some z))) (h.judged sc))
term_step at (Some d) (Some f) h =
    let x = term_parts at (Some d) (Some f) in
    term_from (roll-TreeTerm x) (seen_times at d (seen_factor f)) (seen_roll x)
    (plain_roll x ∙ ap (λ (z : Factor). times d.text z) h.plain)
    (stated_roll x ∙ ap (λ (z : List Offsets). (at ∷ d.at ∷ []) ∷ [] ∷ z) h.stated)
    (λ sc. judged_roll sc x ∙ ap (λ (z : WithFaults Factor). term_judged sc (judged_parts at (Some d) (Some z))) (h.judged sc))

-- a factor
factor_from : (f : TreeFactor) (s : SeenFactor) → seen_factor f ≡ s → plain_factor f ≡ plain_of_factor s → sum_factor_stated f ≡ offsets_of_factor s
    → ((sc : Scope) → judged_factor sc f ≡ judged_of_factor sc s) → SeenFactorOf f
factor_from f s e p o j = record
    { plain = p ∙ ap plain_of_factor (sym e); stated = o ∙ ap offsets_of_factor (sym e); judged = λ sc. j sc ∙ ap (judged_of_factor sc) (sym e) }

factor_step : (x : TreeFactor-F TreeFactor TreeSum TreeTerm) → FactorPart x → SeenFactorOf (roll-TreeFactor x)
factor_step (Named n) h =
    factor_from (roll-TreeFactor (Named n)) (seen_named n)
    (fold-roll-TreeFactor SeenFactor SeenTerms SeenTerm factor_seen sum_seen term_seen (Named n))
    (fold-roll-TreeFactor Factor Terms Term factor_layer sum_layer term_layer (Named n))
    (fold-roll-TreeFactor (List Offsets) (List Offsets) (List Offsets) factor_stated sum_layer_stated term_layer_stated (Named n))
    (λ sc. fold-roll-TreeFactor (WithFaults Factor) (WithFaults Terms) (WithFaults Term) (factor_judged sc) (sum_judged sc) (term_judged sc) (Named n))
factor_step (Nested s) h =
    factor_from (roll-TreeFactor (Nested s)) (seen_nested (seen_sum s))
    (fold-roll-TreeFactor SeenFactor SeenTerms SeenTerm factor_seen sum_seen term_seen (Nested s))
    (fold-roll-TreeFactor Factor Terms Term factor_layer sum_layer term_layer (Nested s) ∙ ap (λ (z : Terms). nested z) h.plain)
    (fold-roll-TreeFactor (List Offsets) (List Offsets) (List Offsets) factor_stated sum_layer_stated term_layer_stated (Nested s)
    ∙ ap (λ (z : List Offsets). [] ∷ (z ++ [] ∷ [])) h.stated)
    (λ sc. fold-roll-TreeFactor (WithFaults Factor) (WithFaults Terms) (WithFaults Term) (factor_judged sc) (sum_judged sc) (term_judged sc) (Nested s)
    ∙ ap (λ (z : WithFaults Terms). factor_judged sc (Nested z)) (h.judged sc))

-- ---- every sum
factor_part : (y : TreeFactor-F ((f : TreeFactor) × SeenFactorOf f) ((s : TreeSum) × SeenSum s) ((t : TreeTerm) × SeenTermOf t))
    → FactorPart (map-TreeFactor ((f : TreeFactor) × SeenFactorOf f) ((s : TreeSum) × SeenSum s) ((t : TreeTerm) × SeenTermOf t) TreeFactor TreeSum TreeTerm
    (λ e. e.0) (λ e. e.0) (λ e. e.0) y)
factor_part (Named n) = tt
factor_part (Nested s) = s.1

abbrev SuchTerm : Type 0
SuchTerm = TreeTerm-F ((f : TreeFactor) × SeenFactorOf f) ((s : TreeSum) × SeenSum s) ((t : TreeTerm) × SeenTermOf t)

abbrev such_parts : ℕ → Option Digits → Option ((f : TreeFactor) × SeenFactorOf f) → SuchTerm
such_parts at d b = record { at = at; factor = d; body = b }

abbrev term_of_such : SuchTerm → TreeTerm-F TreeFactor TreeSum TreeTerm
term_of_such y = map-TreeTerm ((f : TreeFactor) × SeenFactorOf f) ((s : TreeSum) × SeenSum s) ((t : TreeTerm) × SeenTermOf t) TreeFactor TreeSum TreeTerm
    (λ e. e.0) (λ e. e.0) (λ e. e.0) y

body_part : (at : ℕ) (d : Option Digits) (b : Option ((f : TreeFactor) × SeenFactorOf f)) → BodyPart (term_of_such (such_parts at d b)).body
body_part at d None = tt
body_part at d (Some f) = f.1

pub every_sum_seen : (s : TreeSum) → SeenSum s
every_sum_seen s = ind-TreeSum SeenFactorOf SeenSum SeenTermOf
    (λ x y is. factor_step x (subst FactorPart is (factor_part y)))
    (λ x y is. sum_step x (subst (λ (z : TreeSum-F TreeFactor TreeSum TreeTerm). AllSeen z.terms.items) is (all_seen y.terms.items)))
    (λ x y is. term_step x.at x.factor x.body (subst (λ (z : TreeTerm-F TreeFactor TreeSum TreeTerm). BodyPart z.body) is (body_part y.at y.factor y.body)))
    s
