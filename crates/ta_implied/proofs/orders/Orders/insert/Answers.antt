use Rattle.std.proofs.Common.{◌<◌, length, arith}
use Rattle.ta_implied.proofs.Inserting.{inserted_pairs, inserted_orders}
use Rattle.ta_implied.proofs.orders.Orders.insert.Goals as goal

pub invariant_of-self : goal.invariant_of-self
invariant_of-self c =
    let a = c.args.automaton.now in
    let limit : length a.rise < 65 = (let l = a.shape.limits.rise_limit in omega arith) in
    inserted_orders a c.args.self.now c.args.before c.args.after c.self.inside.masks c.self.invariant c.self.view_is c.self.told limit c.requires

pub returns : goal.returns
returns c =
    let a = c.args.automaton.now in
    let limit : length a.rise < 65 = (let l = a.shape.limits.rise_limit in omega arith) in
    inserted_pairs a c.args.self.now c.args.before c.args.after c.self.inside.masks c.self.invariant c.self.view_is c.self.told limit c.requires
