use Rattle.ta_encode.proofs.Common.{◌≡◌, ℤ, pos, ◌<◌, ◌≤◌, ◌^◌, ◌++◌, ◌∷◌, [], arith, sym, ap, ◌∙◌, subst, unsigned_abs, to_z_range, InRange, IsNormal}
use Rattle.ta_encode.proofs.Common.{coefficient, IsNormal-higher, coefficient_in_sense}
use Rattle.ta_encode.proofs.Sparse.{sparse_push}
use Rattle.ta_encode.proofs.Blocks.{block, block_at, block_length, block_start, block_all, unit_some}
use Rattle.ta_encode.proofs.rows.block.Goals as goal

pub loop-unknown-init : goal.loop-unknown-init
loop-unknown-init c = block_start c.args.from c.args.to c.args.sense c.new-terms.result.items c.new-terms.ensures.items

pub loop-unknown-preserved : goal.loop-unknown-preserved
loop-unknown-preserved c =
    let u = c.loop-unknown.unknown in
    let z = c.turn-coefficient.result in
    let cs = block c.args.from c.args.to c.args.sense in
    let few : unsigned_abs z < 2 ^ 127 = (let h = c.turn-coefficient.ensures.small in omega arith) in
    let value : z ≡ coefficient_in_sense c.args.sense (pos 1) = c.turn-coefficient.ensures.value in
    sparse_push (λ (y : ℤ). y) cs u c.loop-unknown.terms.items c.push.new.self.items (pos 0) z c.loop-unknown.invariant
    (let whole = block_length c.args.from c.args.to c.args.sense c.requires.order in let b = c.loop-unknown-test.true in omega arith)
    (value ∙ sym (block_at c.args.from c.args.to c.args.sense u (pos 0) c.loop-unknown.auto.unknown c.loop-unknown-test.true))
    (λ e. unit_some c.args.sense (sym value ∙ e)) few
    (c.in_ok-push.ensures.items ∙ ap (λ y. c.loop-unknown.terms.items ++ (u, y) ∷ []) (to_z_range z few))

pub invariant_of-result : goal.invariant_of-result
invariant_of-result c =
    let few : c.loop-unknown.unknown ≤ 2 ^ 32 = (let high = c.loop-unknown.auto.unknown-end c.requires.order in let most = c.requires.numbers in omega arith) in
    record {
      constant_fits = subst InRange (sym (to_z_range c.args.constant c.requires.constant)) c.requires.constant;
      normal = subst (IsNormal 0 (2 ^ 32)) (sym c.from_vec.ensures)
          (IsNormal-higher 0 c.loop-unknown.unknown (2 ^ 32) c.loop-unknown.terms.items few c.loop-unknown.invariant.normal);
    }

pub returns-clause-row : goal.returns-clause-row
returns-clause-row c =
    let end : c.loop-unknown.unknown ≡ c.args.to =
    (let low = c.loop-unknown-test.false in let high = c.loop-unknown.auto.unknown-end c.requires.order in omega arith) in
    record {
      constant = to_z_range c.args.constant c.requires.constant;
      coefficients = λ u. ap (λ ts. coefficient ts u) c.from_vec.ensures
          ∙ block_all c.args.from c.args.to c.loop-unknown.unknown c.args.sense c.loop-unknown.terms.items c.requires.order end c.loop-unknown.invariant u;
    }

pub returns-clause-below : goal.returns-clause-below
returns-clause-below c =
    let high = c.loop-unknown.auto.unknown-end c.requires.order in
    subst (IsNormal 0 c.args.to) (sym c.from_vec.ensures)
    (IsNormal-higher 0 c.loop-unknown.unknown c.args.to c.loop-unknown.terms.items high c.loop-unknown.invariant.normal)
