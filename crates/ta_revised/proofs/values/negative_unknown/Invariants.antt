use Rattle.ta_revised.proofs.Common.{UnknownsHold}
use Rattle.ta_revised.proofs.values.negative_unknown.Given as goal

abbrev pub invariant-loop-unknown : goal.invariant-loop-unknown
invariant-loop-unknown l = UnknownsHold l.values l.unknown
