use Rattle.ta_walk.proofs.Common.{◌≡◌, ◌∙◌, ◌<◌, ◌^◌, ◌++◌, ◌∷◌, List, [], ℕ, ℤ, pos, arith, ap, to_z, of_z, unsigned_abs, w128, coefficient, bound_row}
use Rattle.ta_walk.proofs.Common.{bound_start}
use Rattle.ta_base.proofs.Integers.{to_z_range}
use Rattle.ta_encode.specs.Inside.Lines.{bound_sense}
use Rattle.ta_encode.specs.Lines.{coefficient_in_sense}
use Rattle.ta_moment_tree.proofs.Systems.{bound_terms}
use Rattle.ta_walk.proofs.bounds.form_with.Goals as goal

pub returns : goal.returns
returns c =
    let b = c.args.bound in
    let start : to_z w128 (of_z w128 c.args.constant) ≡ (bound_row b).constant =
    to_z_range c.args.constant c.requires.fits ∙ c.requires.value ∙ bound_start b in
    let sign = c.sign_of-sign.result in
    let small : unsigned_abs sign < 2 ^ 127 = (let h = c.sign_of-sign.ensures.small in omega arith) in
    let terms : c.from_vec.result ≡ (b.unknown, coefficient_in_sense (bound_sense b.side) (pos 1)) ∷ [] =
    c.from_vec.ensures
    ∙ c.in_ok-push.ensures.items
    ∙ ap (λ (ts : List (ℕ × ℤ)). ts ++ (b.unknown, to_z w128 (of_z w128 sign)) ∷ []) c.new-terms.ensures.items
    ∙ ap (λ z. (b.unknown, z) ∷ []) (to_z_range sign small ∙ c.sign_of-sign.ensures.value) in
    λ i. record { constant = start i; coefficient = λ u. (ap (λ (ts : List (ℕ × ℤ)). coefficient ts u) terms ∙ bound_terms b u) i }
