use Rattle.std.proofs.Common.{arith, sym}
use Rattle.ta_search.proofs.Bodies.{place_below}
use Rattle.ta_search.proofs.reading.with_body.Goals as goal

pub overflow_add-result : goal.overflow_add-result
overflow_add-result c =
    let below = place_below c.as_slice.result.now c.args.body.now c.in-Some.place (sym c.in-Some.ensures) in
    let within = c.requires.1 in
    omega arith

pub overflow_cast-result : goal.overflow_cast-result
overflow_cast-result c =
    let below = place_below c.as_slice.result.now c.args.body.now c.in-Some.place (sym c.in-Some.ensures) in
    let within = c.requires.1 in
    omega arith
