use Rattle.ta_links.proofs.Common.{ap, arith, drop, drop_of_length-le, ◌≡◌, [], live_count}
use Rattle.ta_links.proofs.LinkedFacts.{live_few}
use Rattle.ta_links.proofs.linked.count_live.Goals as goal

pub returns : goal.returns
returns c =
    let none : drop c.loop-cell.cell-index c.args.cells.now ≡ [] = drop_of_length-le c.args.cells.now (omega arith) in
    let e = ap live_count none in
    let few = live_few c.args.cells.now in
    record { value = omega arith; few = omega arith }
