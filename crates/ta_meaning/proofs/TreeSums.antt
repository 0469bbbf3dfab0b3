-- Sums of a tree: what their parts have.
use Rattle.ta_meaning.proofs.Common.{◌≡◌, ℕ, List, [], ◌∷◌, ◌++◌, map, Option, Some, None, refl, sym, ap, subst, ◌∙◌, Terms, Term, Factor, term, nested}
use Rattle.ta_meaning.proofs.Common.{plain_sum, plain_term, plain_factor, terms_of, term_of, factor_layer, sum_layer, term_layer, Digits, Sign, TreeSum}
use Rattle.ta_meaning.proofs.Common.{TreeTerm, TreeFactor, TreeFactor-F, TreeSum-F, TreeTerm-F, roll-TreeSum, roll-TreeTerm, roll-TreeFactor, out-TreeSum}
use Rattle.ta_meaning.proofs.Common.{out-TreeTerm, map-TreeFactor, map-TreeSum, map-TreeTerm, fold-roll-TreeSum, fold-roll-TreeTerm, fold-roll-TreeFactor}
use Rattle.ta_meaning.proofs.Common.{fold_out-TreeSum, fold_out-TreeTerm, ind-TreeFactor, FileFault, Scope, WithFaults, judged_sum, judged_terms, factor_judged}
use Rattle.ta_meaning.proofs.Common.{sum_judged, term_judged, sum_faults, number_faults, else_, where_, linear_term, is_large_linear, judged_term}
use Rattle.ta_meaning.proofs.Common.{judged_factor, Spelled, used_faults}
use Rattle.ta_syntax.specs.declared.sums.TreeFactor.{Named, Nested}
use Rattle.ta_syntax.specs.declared.sums.TreeFactor.TheViews.{rolls-Named, rolls-Nested}
use Rattle.ta_syntax.specs.declared.sums.TreeFactor.TheOpen as open_factor
use Rattle.ta_syntax.specs.declared.fault.FileFault.TheVariants as fault

-- the plain part of what is judged is the plain part
abbrev SameFactor : Scope → TreeFactor → Type 0
SameFactor s f = (judged_factor s f).plain ≡ plain_factor f

abbrev SameSum : Scope → TreeSum → Type 0
SameSum s t = (judged_sum s t).plain ≡ plain_sum t

abbrev SameTerm : Scope → TreeTerm → Type 0
SameTerm s t = (judged_term s t).plain ≡ plain_term t

module _ (s : Scope) {A B C : Type 0} (a : A → TreeFactor) (b : B → TreeSum) (c : C → TreeTerm) (same_a : (e : A) → SameFactor s (a e))
    (same_b : (e : B) → SameSum s (b e)) (same_c : (e : C) → SameTerm s (c e)) where
  factor_step : (y : TreeFactor-F A B C) → SameFactor s (roll-TreeFactor (map-TreeFactor A B C TreeFactor TreeSum TreeTerm a b c y))
  factor_step (open_factor.Named n) = ap (λ (j : WithFaults Factor). j.plain)
      (fold-roll-TreeFactor (WithFaults Factor) (WithFaults Terms) (WithFaults Term) (factor_judged s) (sum_judged s) (term_judged s) (open_factor.Named n))
      ∙ sym (fold-roll-TreeFactor Factor Terms Term factor_layer sum_layer term_layer (open_factor.Named n))
  factor_step (open_factor.Nested e) =
      ap (λ (j : WithFaults Factor). j.plain)
      (fold-roll-TreeFactor (WithFaults Factor) (WithFaults Terms) (WithFaults Term) (factor_judged s) (sum_judged s) (term_judged s)
      (open_factor.Nested (b e)))
      ∙ ap nested (same_b e)
      ∙ sym (fold-roll-TreeFactor Factor Terms Term factor_layer sum_layer term_layer (open_factor.Nested (b e)))

  sum_items : (ts : List (Sign × C)) → (judged_terms (map (λ (x : Sign × TreeTerm). (x.0, judged_term s x.1)) (map (λ (x : Sign × C). (x.0, c x.1)) ts))).plain
      ≡ terms_of (map (λ (x : Sign × TreeTerm). (x.0, plain_term x.1)) (map (λ (x : Sign × C). (x.0, c x.1)) ts))
  sum_items [] = refl
  sum_items (t ∷ ts) = λ i. term t.0 (same_c t.1 i) (sum_items ts i)

  sum_step : (y : TreeSum-F A B C) → SameSum s (roll-TreeSum (map-TreeSum A B C TreeFactor TreeSum TreeTerm a b c y))
  sum_step y =
      ap (λ (j : WithFaults Terms). j.plain)
      (fold-roll-TreeSum (WithFaults Factor) (WithFaults Terms) (WithFaults Term) (factor_judged s) (sum_judged s) (term_judged s)
      (map-TreeSum A B C TreeFactor TreeSum TreeTerm a b c y))
      ∙ sum_items y.terms.items
      ∙ sym (fold-roll-TreeSum Factor Terms Term factor_layer sum_layer term_layer (map-TreeSum A B C TreeFactor TreeSum TreeTerm a b c y))

  term_at : (at : ℕ) (factor : Option Digits) (body : Option A)
      → SameTerm s (roll-TreeTerm (map-TreeTerm A B C TreeFactor TreeSum TreeTerm a b c (record { at = at; factor = factor; body = body })))
  term_at at factor None =
      ap (λ (j : WithFaults Term). j.plain)
      (fold-roll-TreeTerm (WithFaults Factor) (WithFaults Terms) (WithFaults Term) (factor_judged s) (sum_judged s) (term_judged s)
      (record { at = at; factor = factor; body = None }))
      ∙ sym (fold-roll-TreeTerm Factor Terms Term factor_layer sum_layer term_layer (record { at = at; factor = factor; body = None }))
  term_at at factor (Some e) =
      ap (λ (j : WithFaults Term). j.plain)
      (fold-roll-TreeTerm (WithFaults Factor) (WithFaults Terms) (WithFaults Term) (factor_judged s) (sum_judged s) (term_judged s)
      (record { at = at; factor = factor; body = Some (a e) }))
      ∙ ap (λ (p : Factor). term_of factor (Some p)) (same_a e)
      ∙ sym (fold-roll-TreeTerm Factor Terms Term factor_layer sum_layer term_layer (record { at = at; factor = factor; body = Some (a e) }))

  term_step : (y : TreeTerm-F A B C) → SameTerm s (roll-TreeTerm (map-TreeTerm A B C TreeFactor TreeSum TreeTerm a b c y))
  term_step y = term_at y.at y.factor y.body

pub same_factor : (s : Scope) (f : TreeFactor) → SameFactor s f
same_factor s = ind-TreeFactor (SameFactor s) (SameSum s) (SameTerm s)
    (λ x y is. subst (λ (z : TreeFactor-F TreeFactor TreeSum TreeTerm). SameFactor s (roll-TreeFactor z)) is
    (factor_step s (λ e. e.0) (λ e. e.0) (λ e. e.0) (λ e. e.1) (λ e. e.1) (λ e. e.1) y))
    (λ x y is. subst (λ (z : TreeSum-F TreeFactor TreeSum TreeTerm). SameSum s (roll-TreeSum z)) is
    (sum_step s (λ e. e.0) (λ e. e.0) (λ e. e.0) (λ e. e.1) (λ e. e.1) (λ e. e.1) y))
    (λ x y is. subst (λ (z : TreeTerm-F TreeFactor TreeSum TreeTerm). SameTerm s (roll-TreeTerm z)) is
    (term_step s (λ e. e.0) (λ e. e.0) (λ e. e.0) (λ e. e.1) (λ e. e.1) (λ e. e.1) y))

-- the errors of a factor
pub named_faults : (s : Scope) (n : Spelled) → (judged_factor s (Named n)).faults ≡ used_faults s.places s.allowed n
named_faults s n = ap (λ (f : TreeFactor). (judged_factor s f).faults) (sym (rolls-Named n)) ∙ ap (λ (j : WithFaults Factor). j.faults)
    (fold-roll-TreeFactor (WithFaults Factor) (WithFaults Terms) (WithFaults Term) (factor_judged s) (sum_judged s) (term_judged s) (open_factor.Named n))

pub nested_faults : (s : Scope) (t : TreeSum) → (judged_factor s (Nested t)).faults ≡ sum_faults s t
nested_faults s t = ap (λ (f : TreeFactor). (judged_factor s f).faults) (sym (rolls-Nested t)) ∙ ap (λ (j : WithFaults Factor). j.faults)
    (fold-roll-TreeFactor (WithFaults Factor) (WithFaults Terms) (WithFaults Term) (factor_judged s) (sum_judged s) (term_judged s) (open_factor.Nested t))

-- the errors of terms one after another
abbrev pub terms_faults : Scope → List (Sign × TreeTerm) → List FileFault
terms_faults s [] = []
terms_faults s (t ∷ ts) = (judged_term s t.1).faults ++ terms_faults s ts

items_faults : (s : Scope) (ts : List (Sign × TreeTerm))
    → (judged_terms (map (λ (x : Sign × TreeTerm). (x.0, judged_term s x.1)) ts)).faults ≡ terms_faults s ts
items_faults s [] = refl
items_faults s (t ∷ ts) = ap (λ (fs : List FileFault). (judged_term s t.1).faults ++ fs) (items_faults s ts)

pub sum_faults_out : (s : Scope) (t : TreeSum) → sum_faults s t ≡ terms_faults s (out-TreeSum t).terms.items
sum_faults_out s t = ap (λ (j : WithFaults Terms). j.faults)
    (fold_out-TreeSum (WithFaults Factor) (WithFaults Terms) (WithFaults Term) (factor_judged s) (sum_judged s) (term_judged s) t)
    ∙ items_faults s (out-TreeSum t).terms.items

abbrev judged_layer : Scope → TreeTerm-F TreeFactor TreeSum TreeTerm → TreeTerm-F (WithFaults Factor) (WithFaults Terms) (WithFaults Term)
judged_layer s x = map-TreeTerm TreeFactor TreeSum TreeTerm (WithFaults Factor) (WithFaults Terms) (WithFaults Term) (judged_factor s) (judged_sum s)
    (judged_term s) x

abbrev plain_layer : TreeTerm-F TreeFactor TreeSum TreeTerm → TreeTerm-F Factor Terms Term
plain_layer x = map-TreeTerm TreeFactor TreeSum TreeTerm Factor Terms Term plain_factor plain_sum plain_term x

-- F6 of a term with these parts
abbrev pub large_term : Scope → ℕ → Term → List FileFault
large_term s at t = where_ (is_large_linear (linear_term s.allowed t)) (fault.TooLarge at)

pub term_faults_none : (s : Scope) (t : TreeTerm) → (out-TreeTerm t).body ≡ None
    → (judged_term s t).faults ≡ else_ (number_faults (out-TreeTerm t).factor ++ []) (large_term s (out-TreeTerm t).at (term_of (out-TreeTerm t).factor None))
term_faults_none s t none =
    ap (λ (j : WithFaults Term). j.faults)
    (fold_out-TreeTerm (WithFaults Factor) (WithFaults Terms) (WithFaults Term) (factor_judged s) (sum_judged s) (term_judged s) t)
    ∙ ap (λ (b : Option TreeFactor). (term_judged s (judged_layer s (record { at = (out-TreeTerm t).at; factor = (out-TreeTerm t).factor; body = b }))).faults)
    none

pub term_faults_some : (s : Scope) (t : TreeTerm) (f : TreeFactor) → (out-TreeTerm t).body ≡ Some f
    → (judged_term s t).faults ≡ else_ (number_faults (out-TreeTerm t).factor ++ (judged_factor s f).faults)
    (large_term s (out-TreeTerm t).at (term_of (out-TreeTerm t).factor (Some (plain_factor f))))
term_faults_some s t f some =
    ap (λ (j : WithFaults Term). j.faults)
    (fold_out-TreeTerm (WithFaults Factor) (WithFaults Terms) (WithFaults Term) (factor_judged s) (sum_judged s) (term_judged s) t)
    ∙ ap (λ (b : Option TreeFactor). (term_judged s (judged_layer s (record { at = (out-TreeTerm t).at; factor = (out-TreeTerm t).factor; body = b }))).faults)
    some
    ∙ ap (λ (p : Factor). else_ (number_faults (out-TreeTerm t).factor ++ (judged_factor s f).faults)
    (large_term s (out-TreeTerm t).at (term_of (out-TreeTerm t).factor (Some p)))) (same_factor s f)

-- ---- and what they are
pub plain_term_none : (t : TreeTerm) → (out-TreeTerm t).body ≡ None → plain_term t ≡ term_of (out-TreeTerm t).factor None
plain_term_none t none =
    fold_out-TreeTerm Factor Terms Term factor_layer sum_layer term_layer t
    ∙ ap (λ (b : Option TreeFactor). term_layer (plain_layer (record { at = (out-TreeTerm t).at; factor = (out-TreeTerm t).factor; body = b }))) none

pub plain_term_some : (t : TreeTerm) (f : TreeFactor) → (out-TreeTerm t).body ≡ Some f → plain_term t ≡ term_of (out-TreeTerm t).factor (Some (plain_factor f))
plain_term_some t f some =
    fold_out-TreeTerm Factor Terms Term factor_layer sum_layer term_layer t
    ∙ ap (λ (b : Option TreeFactor). term_layer (plain_layer (record { at = (out-TreeTerm t).at; factor = (out-TreeTerm t).factor; body = b }))) some
