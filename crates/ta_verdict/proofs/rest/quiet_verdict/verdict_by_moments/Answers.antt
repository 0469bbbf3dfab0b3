use Rattle.ta_verdict.proofs.rest.Common.{arith, refl, rules, slice_get_within, subst, of_rest}
use Rattle.ta_walk.specs.MomentEnds.{EndFits, IsMomentEnd}
use Rattle.ta_verdict.proofs.rest.QuietTold.{quiet_overflow, quiet_safe, quiet_spent, quiet_unsafe}
use Rattle.ta_verdict.proofs.rest.quiet_verdict.verdict_by_moments.Goals as goal

pub own_run-requires : goal.own_run-requires
own_run-requires g c =
    let file = c.args.rest.now.ending.file in
    let fits = subst (EndFits file) c.in-Found.is c.in_ok-end.ensures.fits in
    let within = slice_get_within file.patterns c.in-Found.run'.pattern fits.pattern fits.named in
    omega (arith, file.shape.limit)

pub returns-in-Refuted-clause-holds : goal.returns-in-Refuted-clause-holds
returns-in-Refuted-clause-holds g c = λ p at.
    let asking = of_rest c.args.silent.now in
    quiet_safe c.args.rest.now c.args.nodes c.args.pattern c.args.silent.now p _ c.in-Refuted.count c.in-Refuted.leaves at c.requires.limit
    (subst (IsMomentEnd c.args.rest.now.ending.file c.args.pattern p asking c.args.nodes _) c.in-Refuted.is (c.in_ok-end.ensures.ends asking refl refl p at))

pub returns-in-Refuted-clause-kept : goal.returns-in-Refuted-clause-kept
returns-in-Refuted-clause-kept g c = λ p at.
    let asking = of_rest c.args.silent.now in
    subst (IsMomentEnd c.args.rest.now.ending.file c.args.pattern p asking c.args.nodes _) c.in-Refuted.is (c.in_ok-end.ensures.ends asking refl refl p at)

pub returns-in-Found-clause-holds : goal.returns-in-Found-clause-holds
returns-in-Found-clause-holds g c = λ p at.
    let asking = of_rest c.args.silent.now in
    quiet_unsafe c.args.rest.now c.args.nodes c.args.pattern c.args.silent.now p c.in-Found.count c.in-Found.run' c.own_run.result
    (subst (IsMomentEnd c.args.rest.now.ending.file c.args.pattern p asking c.args.nodes _) c.in-Found.is (c.in_ok-end.ensures.ends asking refl refl p at))
    (subst (EndFits c.args.rest.now.ending.file) c.in-Found.is c.in_ok-end.ensures.fits) c.own_run.ensures.is

pub returns-in-Found-clause-fits : goal.returns-in-Found-clause-fits
returns-in-Found-clause-fits g c = (
  search rules,
  c.own_run.ensures.fits c.args.rest.now.ending.file (subst (EndFits c.args.rest.now.ending.file) c.in-Found.is c.in_ok-end.ensures.fits),
)

pub returns-in-Spent-clause-holds : goal.returns-in-Spent-clause-holds
returns-in-Spent-clause-holds g c = λ p at.
    let asking = of_rest c.args.silent.now in
    quiet_spent c.args.rest.now c.args.nodes c.args.pattern c.args.silent.now p c.in-Spent.count
    (subst (IsMomentEnd c.args.rest.now.ending.file c.args.pattern p asking c.args.nodes _) c.in-Spent.is (c.in_ok-end.ensures.ends asking refl refl p at))

pub returns-in-Overflow-clause-holds : goal.returns-in-Overflow-clause-holds
returns-in-Overflow-clause-holds g c = λ p at.
    let asking = of_rest c.args.silent.now in
    quiet_overflow c.args.rest.now c.args.nodes c.args.pattern c.args.silent.now p c.in-Overflow.node c.in-Overflow.kind c.report_kind.result
    c.report_kind.ensures
    (subst (IsMomentEnd c.args.rest.now.ending.file c.args.pattern p asking c.args.nodes _) c.in-Overflow.is (c.in_ok-end.ensures.ends asking refl refl p at))
