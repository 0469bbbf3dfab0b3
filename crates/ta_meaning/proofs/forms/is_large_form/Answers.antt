use Rattle.ta_meaning.proofs.Common.{pos, get_or, FitsSigned, sym, ap, ◌∙◌, rules, w128, to_z-of_z, or_right, is_large, any_large_term}
use Rattle.ta_meaning.proofs.LargeNumbers.{large_here, none_large}
use Rattle.ta_meaning.proofs.forms.is_large_form.Goals as goal

pub terms-preserved : goal.terms-preserved
terms-preserved c =
    let items = c.as_slice-coefficient-items.result.now in
    let i = c.terms.coefficient-index in
    let fits : FitsSigned w128 (get_or items i (0, pos 0)).1 = search rules in
    let told = simp to_z-of_z at c.is_large-in-terms.ensures in
    none_large items i c.terms-test.true c.terms.invariant (sym told ∙ c.if-is_large-2.false)

pub returns-then-is_large-2 : goal.returns-then-is_large-2
returns-then-is_large-2 c =
    let items = c.as_slice-coefficient-items.result.now in
    let i = c.terms.coefficient-index in
    let fits : FitsSigned w128 (get_or items i (0, pos 0)).1 = search rules in
    let told = simp to_z-of_z at c.is_large-in-terms.ensures in
    let here = large_here items i c.terms-test.true c.terms.invariant (sym told ∙ c.if-is_large-2.true) in
    sym (or_right (is_large c.args.form.now.constant) (any_large_term c.args.form.now.terms)
    (ap any_large_term (sym c.as_slice-coefficient-items.ensures) ∙ here))
