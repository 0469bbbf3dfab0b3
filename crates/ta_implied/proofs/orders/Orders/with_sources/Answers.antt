use Rattle.std.proofs.Common.{◌≡◌, arith, subst}
use Rattle.ta_implied.proofs.Gathering.{Gathered, none_gathered, one_gathered}
use Rattle.ta_implied.proofs.orders.Orders.with_sources.Goals as goal

pub loop-guard-init : goal.loop-guard-init
loop-guard-init c = none_gathered c.args.self.now c.args.found

pub loop-guard-preserved : goal.loop-guard-preserved
loop-guard-preserved c =
    let l = c.loop-guard in
    one_gathered c.args.self.now c.args.found l.all l.guard c.mask_if-all.result l.invariant c.mask_if-all.ensures

pub returns-clause-grown : goal.returns-clause-grown
returns-clause-grown c = c.loop-guard.invariant.grown

pub returns-clause-members : goal.returns-clause-members
returns-clause-members c =
    let l = c.loop-guard in
    let end : l.guard ≡ 64 = (let low = c.loop-guard-test.false in let high = l.auto.guard-end in omega arith) in
    (subst (Gathered c.args.self.now c.args.found l.all) end l.invariant).members
