use Rattle.ta_syntax.proofs.Common.{err_is, places}
use Rattle.ta_syntax.proofs.Steps.{then, past, halts_by, stops_first}
use Rattle.ta_syntax.specs.FileGrammar as grammar
use Rattle.ta_syntax.proofs.file.read_places.Goals as goal

pub returns-in_err-locations_at : goal.returns-in_err-locations_at
returns-in_err-locations_at c = rw (err_is c.from_residual.result _ c.from_residual.ensures.1)
    (stops_first (grammar.locations c.args.limits.now) grammar.processes c.args.end c.args.tokens.now c.in_err-locations_at.field-0.0
    c.in_err-locations_at.ensures)

pub returns-in_err-processes_at : goal.returns-in_err-processes_at
returns-in_err-processes_at c = rw (err_is c.from_residual-in_err-processes_at.result _ c.from_residual-in_err-processes_at.ensures.1)
    (halts_by (places c.args.limits.now) grammar.processes c.args.end c.in_err-processes_at.field-0.0 (past c.in_ok-locations_at.ensures.took)
    c.in_err-processes_at.ensures)

pub returns : goal.returns
returns c = record {
  some = c.in_ok-locations_at.ensures.some;
  locations = c.in_ok-locations_at.ensures.few;
  is = c.in_ok-processes_at.ensures.is;
  shallow = c.in_ok-processes_at.ensures.shallow;
  took = then (past c.in_ok-locations_at.ensures.took) c.in_ok-processes_at.ensures.took;
}
