use Rattle.ta_moment_tree.proofs.Common.{◌+◌, ◌<◌, ◌^◌, ◌++◌, ◌∷◌, [], arith, sym, ap, ◌∙◌, subst, to_z, of_z, w128, to_z_range, InRange, IsNormal}
use Rattle.ta_moment_tree.proofs.Common.{IsNormal-push, IsNormal-higher}
use Rattle.ta_moment_tree.proofs.form.with_term.Goals as goal

pub invariant_of-result : goal.invariant_of-result
invariant_of-result c =
    let form = c.args.form in
    let u = c.args.unknown in
    let below : u < 2 ^ 32 = c.ranges.unknown.fits in
    let terms = c.from_vec.ensures ∙ c.in_ok-push.ensures.items ∙ ap (λ ts. ts ++ (u, to_z w128 (of_z w128 c.args.coefficient)) ∷ []) c.into_vec-terms.ensures
    ∙ ap (λ z. form.terms ++ (u, z) ∷ []) (to_z_range c.args.coefficient c.requires.fits) in
    let pushed = IsNormal-push 0 u form.terms (u, c.args.coefficient) c.requires.behind (omega arith)
    (record { not_zero = c.requires.some; in_range = c.requires.fits }) in
    record {
      constant_fits = subst InRange (sym (to_z_range form.constant form.constant_fits)) form.constant_fits;
      normal = subst (IsNormal 0 (2 ^ 32)) (sym terms) (IsNormal-higher 0 (u + 1) (2 ^ 32) (form.terms ++ (u, c.args.coefficient) ∷ []) (omega arith) pushed);
    }
