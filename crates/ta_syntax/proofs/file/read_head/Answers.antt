use Rattle.ta_syntax.proofs.Common.{err_is, places}
use Rattle.ta_syntax.proofs.Steps.{then, halts_by}
use Rattle.ta_syntax.specs.FileGrammar as grammar
use Rattle.ta_syntax.proofs.file.read_head.Goals as goal

pub returns-in_err-names : goal.returns-in_err-names
returns-in_err-names c = rw (err_is c.from_residual.result _ c.from_residual.ensures.1) c.in_err-names.ensures

pub returns-in_err-places : goal.returns-in_err-places
returns-in_err-places c = rw (err_is c.from_residual-in_err-places.result _ c.from_residual-in_err-places.ensures.1)
    (halts_by (grammar.head c.args.limits.now) (places c.args.limits.now) c.args.end c.in_err-places.field-0.0 c.in_ok-names.ensures.took
    c.in_err-places.ensures)

pub returns : goal.returns
returns c = record {
  parameters = c.in_ok-names.ensures.parameters;
  shared = c.in_ok-names.ensures.shared;
  some = c.in_ok-places.ensures.some;
  locations = c.in_ok-places.ensures.locations;
  is = c.in_ok-places.ensures.is;
  shallow = c.in_ok-places.ensures.shallow;
  took = then c.in_ok-names.ensures.took c.in_ok-places.ensures.took;
}
