use Rattle.ta_implied.proofs.Common.{refl, JoinsPair, MayJoin}
use Rattle.ta_implied.proofs.Joining.{joined_by, joined_good}
use Rattle.ta_implied.proofs.orders.Orders.push.Goals as goal

pub returns-in-Err-clause-fault : goal.returns-in-Err-clause-fault
returns-in-Err-clause-fault c =
    let may : MayJoin c.args.automaton.now c.args.self.now (c.args.before, c.args.after) = c.if-not-takes.ensures.0 refl in
    (may, record { system = c.in_ok-system.system; is = c.in_ok-system.ensures; first = c.in-Err.ensures.fault })

pub returns-clause-joined : goal.returns-clause-joined
returns-clause-joined c = joined_by c.args.automaton.now (c.args.before, c.args.after) c.args.multipliers.now c.args.self.now c.insert.new.self
    c.in_ok-system.system (c.if-not-takes.ensures.0 refl) c.in_ok-system.ensures (c.in_default.ensures.ok.0 refl) c.insert.ensures

pub returns-clause-good : goal.returns-clause-good
returns-clause-good c =
    let joined : JoinsPair c.args.automaton.now (c.args.before, c.args.after) c.args.multipliers.now c.args.self.now c.insert.new.self =
    joined_by c.args.automaton.now (c.args.before, c.args.after) c.args.multipliers.now c.args.self.now c.insert.new.self c.in_ok-system.system
    (c.if-not-takes.ensures.0 refl) c.in_ok-system.ensures (c.in_default.ensures.ok.0 refl) c.insert.ensures in
    joined_good c.args.automaton.now (c.args.before, c.args.after) c.args.multipliers.now c.args.self.now c.insert.new.self joined
