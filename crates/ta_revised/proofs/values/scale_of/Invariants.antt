use Rattle.ta_revised.proofs.Common.{◌<◌, ◌^◌}
use Rattle.ta_revised.proofs.ScaleFacts.{ListedDivide}
use Rattle.ta_revised.proofs.values.scale_of.Given as goal

abbrev pub invariant-loop-unknown : goal.invariant-loop-unknown
invariant-loop-unknown l = record {
  positive : 0 < l.scale;
  few : l.scale < 2 ^ 15;
  multiple : ListedDivide l.columns l.scale l.rows l.basic l.unknown-index;
}
