use Rattle.ta_meaning.proofs.Common.{◌≡◌, ◌∙◌, sym, below_more, arith, subst, slice_get, Some, refl, false≢true, slice_get_read, slice_get_within, same_Some}
use Rattle.ta_meaning.proofs.Common.{Row, SameAt, HasSameTerms}
use Rattle.ta_meaning.proofs.guards.find_row.Goals as goal

pub returns-then-is_same-clause-some : goal.returns-then-is_same-clause-some
returns-then-is_same-clause-some c =
    let limit = c.loop-number-test.true in
    record {
      other = c.index-rows-number.result;
      named = slice_get_read c.args.rows.now _ c.loop-number.number c.index-rows-number.result refl (omega arith) c.index-rows-number.is;
      same = c.if-is_same.ensures.0 refl;
    }

pub loop-number-preserved : goal.loop-number-preserved
loop-number-preserved c =
    let limit = c.loop-number-test.true in
    below_more (λ n. SameAt c.args.rows.now c.args.row.now n → ⊥) c.loop-number.number c.loop-number.invariant (λ f.
    let at : slice_get c.args.rows.now c.loop-number.number ≡ Some c.index-rows-number.result = slice_get_read c.args.rows.now _ c.loop-number.number
    c.index-rows-number.result refl (omega arith) c.index-rows-number.is in
    let same : f.other ≡ c.index-rows-number.result = same_Some f.other c.index-rows-number.result (sym f.named ∙ at) in
    false≢true (c.if-is_same.ensures.1 (subst (λ (r : Row). HasSameTerms r c.args.row.now) same f.same)))

pub returns-clause-none : goal.returns-clause-none
returns-clause-none c has = c.loop-number.invariant has.0
    (let b = slice_get_within c.args.rows.now has.0 has.1.other has.1.named in let e = c.loop-number-test.false in omega arith) has.1
