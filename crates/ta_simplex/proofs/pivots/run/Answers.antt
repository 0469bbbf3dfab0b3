use Rattle.ta_simplex.proofs.Common.{map, length, arith}
use Rattle.ta_simplex.proofs.RunSteps.{step_follows, step_falls, step_overflows, step_goes_on}
use Rattle.ta_simplex.proofs.pivots.run.Goals as goal

pub loop-row-smaller : goal.loop-row-smaller
loop-row-smaller g c =
    let inv = c.loop-row.invariant in
    step_falls c.args.system.now (map g.D.Dictionary.pivot_of c.loop-row.kept.items) (length c.loop-row.kept.items)
    (g.D.Dictionary.tableau c.loop-row.dictionary) (g.D.Dictionary.tableau c.in-Ok.next) c.in-Some.row c.in-Some-entering.column
    inv.follows c.in-Some.ensures.found c.in-Some-entering.ensures.found c.in-Ok.ensures.ok

pub loop-row-preserved : goal.loop-row-preserved
loop-row-preserved g c =
    let inv = c.loop-row.invariant in
    record {
      follows =
          step_follows g.D.Dictionary.pivot_of c.args.system.now c.loop-row.kept.items c.push.new.self.items c.in_ok-pivot.pivot
          (g.D.Dictionary.tableau c.loop-row.dictionary) (g.D.Dictionary.tableau c.in-Ok.next) c.in-Some.row c.in-Some-entering.column
          inv.follows c.in_ok-push.ensures.items c.in_ok-pivot.ensures c.in-Some.ensures.found c.in-Some-entering.ensures.found c.in-Ok.ensures.in_range
          c.in-Ok.ensures.ok;
      goes_on = step_goes_on g.D.Dictionary.pivot_of (map g.D.Dictionary.pivot_of c.args.kept.now.items) c.loop-row.kept.items c.push.new.self.items
          c.in_ok-pivot.pivot inv.goes_on c.in_ok-push.ensures.items;
    }

pub returns-in-Err-Overflow-clause-fault : goal.returns-in-Err-Overflow-clause-fault
returns-in-Err-Overflow-clause-fault g c =
    let inv = c.loop-row.invariant in
    let fault = rw c.in-Err-Overflow.field-0-is at c.in-Err-Overflow.ensures.fault in
    step_overflows g.D.Dictionary.pivot_of c.args.system.now c.loop-row.kept.items c.push.new.self.items c.in_ok-pivot.pivot
    (g.D.Dictionary.tableau c.loop-row.dictionary) c.in-Some.row c.in-Some-entering.column c.in-Err-Overflow.field-0-0 c.len.result
    inv.follows c.in_ok-push.ensures.items c.in-Some.ensures.found c.in-Some-entering.ensures.found fault (omega arith) (omega arith)
