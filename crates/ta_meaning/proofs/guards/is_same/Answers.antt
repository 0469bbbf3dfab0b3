use Rattle.ta_meaning.proofs.Common.{eqb, int_eq, ◌∙◌, sym, refl, rules, FitsSigned, w128, to_z-of_z, slice_eq-Decides, Decides-eqb, Decides-int_eq}
use Rattle.ta_base.proofs.Booleans.{Decides-pair}
use Rattle.ta_meaning.proofs.guards.is_same.Goals as goal

pub returns-then-is_same_number : goal.returns-then-is_same_number
returns-then-is_same_number c =
    let left : FitsSigned w128 c.args.left.now.form.constant = search rules in
    let right : FitsSigned w128 c.args.right.now.form.constant = search rules in
    let same = simp to_z-of_z at (c.if-is_same_number.ensures.0 refl) in
    let h = slice_eq-Decides (Decides-pair eqb int_eq Decides-eqb Decides-int_eq) c.as_slice.result.now c.as_slice-then-is_same_number.result.now c.eq.result
    c.eq.ensures in
    let e = c.as_slice.ensures in
    let f = c.as_slice-then-is_same_number.ensures in (
      λ t. record { constant = same; terms = sym e ∙ h.0 t ∙ f },
      λ s. h.1 (e ∙ s.terms ∙ sym f),
    )
