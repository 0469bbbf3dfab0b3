use Rattle.ta_moment_tree.proofs.Common.{◌≡◌, ◌∙◌, ◌<◌, ◌^◌, ◌++◌, ◌∷◌, List, [], ℕ, ℤ, pos, arith, ap, unsigned_abs, to_z, of_z, w128, to_z_range}
use Rattle.ta_moment_tree.proofs.Common.{bound_constant, bound_row, bound_sense, coefficient, coefficient_in_sense, ints, bound_form}
use Rattle.ta_moment_tree.proofs.Forms.{form_same}
use Rattle.ta_moment_tree.proofs.Systems.{bound_start, bound_terms}
use Rattle.ta_moment_tree.proofs.system.bound_form.Goals as goal

pub returns : goal.returns
returns c =
    let b = c.args.bound in
    let low = c.requires.least in
    let high = c.requires.most in
    let few : unsigned_abs b.floor < 2 ^ 127 = omega (arith, ints, low, high) in
    let told = c.bound_constant-constant.ensures in
    let start : to_z w128 (of_z w128 c.bound_constant-constant.result) ≡ (bound_row b).constant = to_z_range c.bound_constant-constant.result told.fits
    ∙ told.value ∙ ap (bound_constant b.side) (to_z_range b.floor few) ∙ bound_start b in
    let sign = c.bound_sign-sign.result in
    let small : unsigned_abs sign < 2 ^ 127 = (let h = c.bound_sign-sign.ensures.small in omega arith) in
    let terms : c.from_vec.result ≡ (b.unknown, coefficient_in_sense (bound_sense b.side) (pos 1)) ∷ [] = c.from_vec.ensures ∙ c.in_ok-push.ensures.items
    ∙ ap (λ (ts : List (ℕ × ℤ)). ts ++ (b.unknown, to_z w128 (of_z w128 sign)) ∷ []) c.new-terms.ensures.items
    ∙ ap (λ z. (b.unknown, z) ∷ []) (to_z_range sign small ∙ c.bound_sign-sign.ensures.value) in
    form_same _ (bound_form b) start (λ u. ap (λ (ts : List (ℕ × ℤ)). coefficient ts u) terms ∙ bound_terms b u)
