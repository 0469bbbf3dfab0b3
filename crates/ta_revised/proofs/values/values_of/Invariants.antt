use Rattle.ta_revised.proofs.ScaleFacts.{ValuesListed}
use Rattle.ta_revised.proofs.values.values_of.Given as goal

abbrev pub invariant-loop-unknown : goal.invariant-loop-unknown
invariant-loop-unknown l = ValuesListed l.columns l.scale l.rows l.basic l.values.items l.unknown-index
