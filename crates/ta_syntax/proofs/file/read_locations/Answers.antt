use Rattle.ta_syntax.proofs.Common.{err_is, Limits, Production}
use Rattle.ta_syntax.proofs.Steps.{then, past, take_mark_at, mark_stops, halts_by, stops_first}
use Rattle.ta_syntax.specs.FileGrammar as grammar
use Rattle.ta_syntax.specs.declared.tokens.Mark.TheVariants as mark
use Rattle.ta_syntax.proofs.file.read_locations.Goals as goal

abbrev rest_1 : Limits → Production
rest_1 l = grammar.list_end l.locations grammar.location

pub returns-in_err-begun : goal.returns-in_err-begun
returns-in_err-begun c = rw (err_is c.from_residual.result _ c.from_residual.ensures.1)
    (stops_first (grammar.a_mark mark.Locations) (rest_1 c.args.limits.now) c.args.end c.args.tokens.now c.in_err-begun.field-0.0
    (mark_stops mark.Locations c.args.end c.args.tokens.now c.in_err-begun.field-0.0 c.in_err-begun.ensures))

pub returns-in_err-locations : goal.returns-in_err-locations
returns-in_err-locations c = rw (err_is c.from_residual-in_err-locations.result _ c.from_residual-in_err-locations.ensures.1)
    (halts_by (grammar.locations c.args.limits.now) (rest_1 c.args.limits.now) c.args.end c.in_err-locations.field-0.0
    (past (take_mark_at mark.Locations c.args.end c.first_offset-at.result c.in_ok-begun.ensures c.first_offset-at.ensures)) c.in_err-locations.ensures)

pub returns : goal.returns
returns c = record {
  some = c.in_ok-locations.ensures.some;
  few = c.in_ok-locations.ensures.few;
  took = then (past (take_mark_at mark.Locations c.args.end c.first_offset-at.result c.in_ok-begun.ensures c.first_offset-at.ensures))
      c.in_ok-locations.ensures.took;
}
