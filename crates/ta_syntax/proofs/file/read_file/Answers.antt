use Rattle.ta_syntax.proofs.Common.{err_is, body}
use Rattle.ta_syntax.proofs.Steps.{then, past, stops_first}
use Rattle.ta_syntax.proofs.FileSteps.{body_stops, file_placed, file_spelled, file_stops, file_within}
use Rattle.ta_syntax.specs.FileGrammar as grammar
use Rattle.ta_syntax.proofs.file.read_file.Goals as goal

pub returns-in_err-head : goal.returns-in_err-head
returns-in_err-head c = rw (err_is c.from_residual.result _ c.from_residual.ensures.1)
    (file_stops c.args.limits.now c.args.end c.args.tokens.now c.in_err-head.field-0.0
    (stops_first (grammar.head c.args.limits.now) (body c.args.limits.now) c.args.end c.args.tokens.now c.in_err-head.field-0.0 c.in_err-head.ensures))

pub returns-in_err-body : goal.returns-in_err-body
returns-in_err-body c = rw (err_is c.from_residual-in_err-body.result _ c.from_residual-in_err-body.ensures.1)
    (body_stops c.args.limits.now c.args.end c.args.tokens.now c.in_ok-head.after_head.now c.in_err-body.field-0.0 (past c.in_ok-head.ensures.took)
    c.in_err-body.ensures)

pub returns : goal.returns
returns c =
    let took = then (past c.in_ok-head.ensures.took) c.in_ok-body.ensures.took in
    record {
      spelled = file_spelled c.in_ok-head.head c.in_ok-body.body c.args.tokens.now took;
      placed = file_placed c.in_ok-head.head c.in_ok-body.body c.args.tokens.now took;
      within = file_within c.args.limits.now c.args.tokens.now took;
    }
