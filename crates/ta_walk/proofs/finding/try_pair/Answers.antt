use Rattle.ta_walk.proofs.OrderSteps.{passes, takes_pair}
use Rattle.ta_walk.proofs.finding.try_pair.Goals as goal

pub returns-in_default : goal.returns-in_default
returns-in_default g c =
    let none = rw c.in_default.is at c.in_ok-multipliers.ensures in
    passes c.args.automaton.now c.args.before c.args.after c.args.sought.now c.requires (λ ts taken. none ts taken.refuted)

pub returns : goal.returns
returns g c =
    let refuted = rw c.in-Some.is at c.in_ok-multipliers.ensures in
    let may = c.takes.ensures.0 c.if-not-takes.false in
    takes_pair c.args.automaton.now c.args.before c.args.after c.args.sought.now (record { list = c.push.new.self; orders = c.insert.new.self })
    c.in-Some.multipliers c.requires may refuted c.in_ok-push.ensures.items c.insert.ensures
