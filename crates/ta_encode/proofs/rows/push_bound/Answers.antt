use Rattle.ta_encode.proofs.Common.{◌≡◌, ◌+◌, ◌<◌, ◌^◌, unsigned_abs, to_z, of_z, arith, ap, ◌∙◌, subst, w128, ints, to_z_range, LinearRow, bound_row}
use Rattle.ta_encode.proofs.Common.{IsNormal-higher, IsRowOf, block_row, bound_constant}
use Rattle.ta_encode.proofs.Adding.{adds_one}
use Rattle.ta_encode.proofs.Blocks.{bound_block}
use Rattle.ta_encode.proofs.rows.push_bound.Goals as goal

pub returns : goal.returns
returns c =
    let b = c.args.bound in
    let n = c.args.unknowns in
    let low = c.requires.bound.least in
    let high = c.requires.bound.most in
    let below = c.requires.bound.exists in
    let few : unsigned_abs b.floor < 2 ^ 127 = omega (arith, ints, low, high) in
    let constant = c.bound_constant-constant.result in
    let sense = c.bound_sense-sense.result in
    let told = c.bound_constant-constant.ensures in
    let is : to_z w128 (of_z w128 constant) ≡ bound_constant b.side b.floor = to_z_range constant told.fits ∙ told.value
    ∙ ap (bound_constant b.side) (to_z_range b.floor few) in
    let row : block_row (to_z w128 (of_z w128 constant)) b.unknown (b.unknown + 1) sense ≡ bound_row b =
    ap (λ z. block_row z b.unknown (b.unknown + 1) sense) is
    ∙ ap (block_row (bound_constant b.side b.floor) b.unknown (b.unknown + 1)) c.bound_sense-sense.ensures ∙ bound_block b in
    adds_one n c.args.rows.now.items c.push.new.self.items (bound_row b) c.in_ok-block.field-0
    (subst (λ (l : LinearRow). IsRowOf l c.in_ok-block.field-0) row c.in_ok-block.ensures.row)
    (IsNormal-higher 0 (b.unknown + 1) n c.in_ok-block.field-0.form.terms (omega arith) c.in_ok-block.ensures.below) c.in_ok-push.ensures.items
