use Rattle.std.specs.Int.{w128}
use Rattle.ta_rest.proofs.ClaimCommon.{◌&&◌, Bool, Fits, not, arith, ap, ◌∙◌, rules, has_bit, left_bit, standing_bit}
use Rattle.ta_rest.proofs.rest_end.end_of.Goals as goal

pub returns : goal.returns
returns c =
    let a = c.args.task.automaton.now in
    let p = c.args.task.pattern.now in
    let rises = a.shape.limits.rise_limit in
    let locations = a.shape.limits.locations_limit in
    let empty : Fits w128 p.empty = search rules in
    record {
      failing = λ i b. standing_bit c.risen_after.result i c.risen_after.type_inv (omega arith) ∙ ap not (c.risen_after.ensures i (omega arith));
      left = λ l b. left_bit p.empty c.left_after-left.result l empty.fits c.left_after-left.type_inv (omega arith)
          ∙ ap (λ (x : Bool). not (has_bit p.empty l) && x) (c.left_after-left.ensures l);
    }
