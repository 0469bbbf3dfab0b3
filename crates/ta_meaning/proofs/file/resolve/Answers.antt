use Rattle.ta_meaning.proofs.Common.{err_is}
use Rattle.ta_meaning.proofs.Whole.{at-names, at-head}
use Rattle.ta_meaning.proofs.file.resolve.Goals as goal

pub returns-in_err-places : goal.returns-in_err-places
returns-in_err-places c = rw (err_is c.from_residual.result _ c.from_residual.ensures.1)
    (at-names c.args.limits.now c.args.tree c.in_err-places.field-0.0 c.in_err-places.ensures)

pub returns-in_err-head : goal.returns-in_err-head
returns-in_err-head c = rw (err_is c.from_residual-in_err-head.result _ c.from_residual-in_err-head.ensures.1)
    (at-head c.args.limits.now c.args.tree c.in_err-head.field-0.0 c.in_ok-places.ensures.0 c.in_err-head.ensures)

pub resolve_rest-requires : goal.resolve_rest-requires
resolve_rest-requires c = record {
  places = c.in_ok-places.ensures.1;
  clean = record { names = c.in_ok-places.ensures.0; head = c.in_ok-head.ensures.0 };
  head = c.in_ok-head.ensures.1;
}
