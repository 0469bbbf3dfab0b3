use Rattle.ta_counter.proofs.Common.{refl, length, each_at, all_passed, one_passed, read_same, StaysInRange, IsNormal, point_of, Row}
use Rattle.ta_counter.proofs.Holdings.{mask_more, mask_all, told_stays}
use Rattle.ta_counter.proofs.holding.mask_at.Goals as goal

pub row_holds-requires : goal.row_holds-requires
row_holds-requires c =
    let rows = c.args.rows.now in
    let named = read_same rows rows c.loop-number.number c.index-rows-number.result refl c.loop-number-test.true c.index-rows-number.is in
    each_at (λ (row : Row). IsNormal 0 (length c.args.values.now) row.form.terms) rows c.loop-number.number c.index-rows-number.result c.requires.over named

pub loop-number-preserved : goal.loop-number-preserved
loop-number-preserved c =
    let rows = c.args.rows.now in
    let point = point_of c.args.values.now in
    let named = read_same rows rows c.loop-number.number c.index-rows-number.result refl c.loop-number-test.true c.index-rows-number.is in
    record {
      mask = mask_more point rows c.loop-number.number c.loop-number.mask c.with_bit-mask.result c.index-rows-number.result c.in_ok-holds.holds named
          c.in_ok-holds.ensures c.loop-number.invariant.mask c.with_bit-mask.ensures;
      stay = one_passed (λ j (row : Row). StaysInRange point row.form.constant row.form.terms) rows c.loop-number.number c.index-rows-number.result named
          (told_stays point c.index-rows-number.result c.in_ok-holds.holds c.in_ok-holds.ensures) c.loop-number.invariant.stay;
    }

pub returns-clause-mask : goal.returns-clause-mask
returns-clause-mask c = mask_all (point_of c.args.values.now) c.args.rows.now c.loop-number.number c.loop-number.mask c.loop-number-test.false
    c.loop-number.invariant.mask

pub returns-clause-stay : goal.returns-clause-stay
returns-clause-stay c = all_passed (λ j (row : Row). StaysInRange (point_of c.args.values.now) row.form.constant row.form.terms) c.args.rows.now
    c.loop-number.number c.loop-number-test.false c.loop-number.invariant.stay

pub returns-in_err-holds-clause-leaves : goal.returns-in_err-holds-clause-leaves
returns-in_err-holds-clause-leaves c = λ _ stay.
    let rows = c.args.rows.now in
    let named = read_same rows rows c.loop-number.number c.index-rows-number.result refl c.loop-number-test.true c.index-rows-number.is in
    c.in_err-holds.ensures (stay c.loop-number.number c.index-rows-number.result named)
