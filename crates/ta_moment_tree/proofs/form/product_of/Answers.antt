use Rattle.ta_moment_tree.proofs.Common.{ℤ, ◌^◌, ◌<◌, arith, sym, subst, unsigned_abs}
use Rattle.ta_moment_tree.proofs.Forms.{product_is, small_product}
use Rattle.ta_moment_tree.proofs.form.product_of.Goals as goal

pub returns-clause-value : goal.returns-clause-value
returns-clause-value c = product_is c.args.factor c.args.number c.requires.factor c.requires.number

pub returns-clause-fits : goal.returns-clause-fits
returns-clause-fits c =
    let small = small_product c.args.factor c.args.number c.requires.factor c.requires.number in
    subst (λ (z : ℤ). unsigned_abs z < 2 ^ 127) (sym (product_is c.args.factor c.args.number c.requires.factor c.requires.number)) (omega arith)
