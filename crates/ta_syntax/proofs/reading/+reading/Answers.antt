use Rattle.ta_syntax.proofs.Common.{arith, ◌<◌, ap, length, err_is}
use Rattle.ta_syntax.proofs.SumExits.{sum_begins, sum_stops, sum_goes_on, sum_ends, took_named, took_nested, nested_stops, close_stops, unnamed_stops, too_deep}
use Rattle.ta_syntax.proofs.SumExits.{took_number, took_times, times_stops, took_alone, alone_stops}
use Rattle.ta_syntax.proofs.Steps.{step_shorter}
use Rattle.ta_syntax.proofs.reading.+reading.Goals as goal

pub read_factor-returns-in_err-name : goal.read_factor-returns-in_err-name
read_factor-returns-in_err-name t c = rw (err_is c.from_residual.result _ c.from_residual.ensures.1)
    (unnamed_stops c.args.left c.args.end c.args.tokens.now c.in_err-name.field-0.0 c.in_default.ensures c.in_err-name.ensures)

pub read_factor-returns-in_default : goal.read_factor-returns-in_default
read_factor-returns-in_default t c = took_named c.args.left c.args.end c.args.tokens.now c.in_ok-name.rest.now c.in_ok-name.name c.in_default.ensures
    c.in_ok-name.ensures.0 c.in_ok-name.ensures.1

pub read_factor-returns-then-left-eq0 : goal.read_factor-returns-then-left-eq0
read_factor-returns-then-left-eq0 t c = too_deep c.args.left c.args.end c.first_offset.result c.args.tokens.now c.in-Some.inner.now c.if-left-eq0.true
    c.in-Some.ensures c.first_offset.ensures

pub read_factor-returns-in_err-sum : goal.read_factor-returns-in_err-sum
read_factor-returns-in_err-sum t c =
    let some : 0 < c.args.left = omega arith in
    rw (err_is c.from_residual-in_err-sum.result _ c.from_residual-in_err-sum.ensures.1)
    (nested_stops c.args.left c.args.end c.args.tokens.now c.in-Some.inner.now c.in_err-sum.field-0.0 some c.in-Some.ensures c.in_err-sum.ensures)

pub read_factor-returns-in_err-rest : goal.read_factor-returns-in_err-rest
read_factor-returns-in_err-rest t c =
    let some : 0 < c.args.left = omega arith in
    rw (err_is c.from_residual-in_err-rest.result _ c.from_residual-in_err-rest.ensures.1)
    (close_stops c.args.left c.args.end c.args.tokens.now c.in-Some.inner.now c.in_ok-sum.after.now c.in_ok-sum.sum c.in_err-rest.field-0.0 some
    c.in-Some.ensures c.in_ok-sum.ensures c.in_err-rest.ensures)

pub read_factor-returns : goal.read_factor-returns
read_factor-returns t c =
    let some : 0 < c.args.left = omega arith in
    took_nested c.args.left c.args.tokens.now c.in-Some.inner.now c.in_ok-sum.after.now c.in_ok-rest.rest.now c.in_ok-sum.sum some c.in-Some.ensures
    c.in_ok-sum.ensures c.in_ok-rest.ensures

pub read_sum-loop-terms-init : goal.read_sum-loop-terms-init
read_sum-loop-terms-init t c = rw c.new-terms.ensures.items
    (sum_begins c.args.left c.args.tokens.now c.leading_sign-sign.result.1.now c.leading_sign-sign.result.0 c.leading_sign-sign.ensures)

pub read_sum-returns-in_err-term : goal.read_sum-returns-in_err-term
read_sum-returns-in_err-term t c =
    rw (err_is c.from_residual.result _ c.from_residual.ensures.1)
    (sum_stops c.args.left c.args.end c.args.tokens.now c.loop-terms.rest.now c.loop-terms.sign c.loop-terms.terms.items c.in_err-term.field-0.0
    c.loop-terms.invariant c.in_err-term.ensures)

pub read_sum-loop-terms-preserved : goal.read_sum-loop-terms-preserved
read_sum-loop-terms-preserved t c =
    rw c.in_ok-push.ensures.items (sum_goes_on c.args.left c.args.tokens.now c.loop-terms.rest.now c.in_ok-term.after.now c.in-Some.after_sign.now
    c.loop-terms.sign c.in-Some.next c.loop-terms.terms.items c.in_ok-term.term c.loop-terms.invariant c.in_ok-term.ensures c.in-Some.ensures)

pub read_sum-loop-terms-smaller : goal.read_sum-loop-terms-smaller
read_sum-loop-terms-smaller t c = omega (arith, step_shorter c.in_ok-term.ensures.took, ap length c.in-Some.ensures.split)

pub read_sum-returns-in_default : goal.read_sum-returns-in_default
read_sum-returns-in_default t c =
    sum_ends c.args.left c.args.tokens.now c.loop-terms.rest.now c.in_ok-term.after.now c.loop-terms.sign c.loop-terms.terms.items c.in_ok-term.term
    (record { terms = c.push.new.self }) c.in_ok-push.ensures.items c.loop-terms.invariant c.in_ok-term.ensures c.in_default.ensures

pub read_term-returns-in_err-alone : goal.read_term-returns-in_err-alone
read_term-returns-in_err-alone t c =
    let free = rw c.in_default.is at c.in_ok-factor.ensures in
    rw (err_is c.from_residual-in_err-alone.result _ c.from_residual-in_err-alone.ensures.1)
    (alone_stops c.args.left c.args.end c.args.tokens.now c.in_err-alone.field-0.0 free c.in_err-alone.ensures)

pub read_term-returns-in_default : goal.read_term-returns-in_default
read_term-returns-in_default t c =
    let free = rw c.in_default.is at c.in_ok-factor.ensures in
    took_alone c.args.left c.args.end c.first_offset-at.result c.args.tokens.now c.in_ok-alone.rest.now c.in_ok-alone.alone free c.first_offset-at.ensures
    c.in_ok-alone.ensures

pub read_term-returns-in_default-skip : goal.read_term-returns-in_default-skip
read_term-returns-in_default-skip t c =
    let b = rw c.in-Some.is at c.in_ok-factor.ensures in
    took_number c.args.left c.args.end c.first_offset-at.result c.args.tokens.now c.in-Some.rest.now c.in-Some.factor b.0 (b.1 c.args.end)
    c.first_offset-at.ensures c.in_default-skip.ensures

pub read_term-returns-in_err-body : goal.read_term-returns-in_err-body
read_term-returns-in_err-body t c =
    let b = rw c.in-Some.is at c.in_ok-factor.ensures in
    rw (err_is c.from_residual-in_err-body.result _ c.from_residual-in_err-body.ensures.1)
    (times_stops c.args.left c.args.end c.args.tokens.now c.in-Some.rest.now c.in-Some-skip.after.now c.in-Some.factor c.in_err-body.field-0.0 b.0
    (b.1 c.args.end) c.in-Some-skip.ensures c.in_err-body.ensures)

pub read_term-returns : goal.read_term-returns
read_term-returns t c =
    let b = rw c.in-Some.is at c.in_ok-factor.ensures in
    took_times c.args.left c.args.end c.first_offset-at.result c.args.tokens.now c.in-Some.rest.now c.in-Some-skip.after.now c.in_ok-body.rest.now
    c.in-Some.factor c.in_ok-body.body b.0 (b.1 c.args.end) c.first_offset-at.ensures c.in-Some-skip.ensures c.in_ok-body.ensures
