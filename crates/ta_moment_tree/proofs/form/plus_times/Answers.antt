use Rattle.ta_moment_tree.proofs.Common.{◌≡◌, ◌∙◌, ◌*ℤ◌, ◌++◌, ◌∷◌, [], ◌≤◌, ℤ, w128, to_z, of_z, arith, sym, ap, subst, unsigned_abs, to_z_abs, to_z_range}
use Rattle.ta_moment_tree.proofs.Forms.{both_ok, term_added, term_small}
use Rattle.ta_moment_tree.proofs.form.plus_times.Goals as goal

pub product_of-product-requires-clause-number : goal.product_of-product-requires-clause-number
product_of-product-requires-clause-number c =
    let told = rw c.in-Some.is at c.only_term.ensures in
    let z = c.in-Some.coefficient in
    let small = term_small 3 c.args.x.now (c.in-Some.unknown, z) told.1 c.requires.x in
    subst (λ (y : ℤ). unsigned_abs y ≤ 3) (sym (to_z_abs z 3 small (omega arith))) small

pub returns : goal.returns
returns c =
    let told = rw c.in-Some.is at c.only_term.ensures in
    let u = c.in-Some.unknown in
    let z = c.in-Some.coefficient in
    let x = c.args.x.now in
    let y = c.product_of-product.result in
    let clean : to_z w128 (of_z w128 z) ≡ z = to_z_abs z 3 (term_small 3 x (u, z) told.1 c.requires.x) (omega arith) in
    let factor = to_z_abs c.args.factor 17000000000 c.requires.factor (omega arith) in
    let product : y ≡ (c.args.factor *ℤ z) = c.product_of-product.ensures.value ∙ ap (λ k. k *ℤ to_z w128 (of_z w128 z)) factor
    ∙ ap (λ k. c.args.factor *ℤ k) clean in
    let kept = to_z_range y c.product_of-product.ensures.fits in
    both_ok c.with_term.result (λ sum e g. term_added sum c.args.form x c.args.factor y (u, z) e (g ∙ ap (λ k. c.args.form.terms ++ (u, k) ∷ []) kept) told.0
    told.1 product) c.with_term.ensures.constant c.with_term.ensures.terms
