use Rattle.ta_links.proofs.Common.{◌≡◌, ◌∙◌, ap, sym, subst, length, get_or, ℕ, pos, length-map-range_with_len, IsNormal, coefficient, KeptPivot}
use Rattle.ta_links.proofs.CarriedRows.{coefficients_at}
use Rattle.ta_links.proofs.kept.LinkedPivot.form.Goals as goal

pub returns-clause-normal : goal.returns-clause-normal
returns-clause-normal c =
    let long : length c.args.self.now.cells ≡ c.self.inside.columns = ap (λ (k : KeptPivot). length k.cells) (sym c.self.view_is)
    ∙ length-map-range_with_len (coefficient c.self.inside.chosen.terms) 0 c.self.inside.columns in
    subst (λ (n : ℕ). IsNormal 0 n c.self.inside.chosen.terms) (sym long) c.self.invariant.normal

pub returns-clause-numbers : goal.returns-clause-numbers
returns-clause-numbers c j = coefficients_at c.self.inside.columns c.self.inside.chosen.terms j c.self.invariant.normal
    ∙ ap (λ (k : KeptPivot). get_or k.cells j (pos 0)) c.self.view_is
