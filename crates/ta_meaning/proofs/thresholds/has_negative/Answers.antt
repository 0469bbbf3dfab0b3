use Rattle.ta_meaning.proofs.Common.{ℕ, ℤ, leb, ◌&&◌, ◌||◌, ◌∙◌, refl, rules, tests, YieldsList-from_slice, any_from_yields_List, same_from_clauses, list_any}
use Rattle.ta_meaning.proofs.Common.{is_negative, any_shared}
use Rattle.ta_meaning.proofs.thresholds.has_negative.Goals as goal

pub returns : goal.returns
returns c =
    let terms = c.args.row.now.form.terms in
    let parameters = c.args.parameters in
    any_from_yields_List (λ (t : ℕ × ℤ). leb parameters t.0 && is_negative t.1) _ _ c.any.result c.any.ensures.ran (YieldsList-from_slice terms cc)
    (λ x b q k. search (rules, tests))
    ∙ same_from_clauses (list_any (λ (t : ℕ × ℤ). leb parameters t.0 && is_negative t.1)) (any_shared is_negative parameters)
    (λ t r. (leb parameters t.0 && is_negative t.1) || r) refl (λ _ _. refl) (λ _ _. refl) terms
