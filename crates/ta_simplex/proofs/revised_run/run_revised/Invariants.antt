use Rattle.ta_simplex.proofs.Common.{FirstHold, IsUnderWay}
use Rattle.ta_simplex.proofs.revised_run.run_revised.Given as goal

abbrev pub invariant-loop-pivots : goal.invariant-loop-pivots
invariant-loop-pivots l = record {
  under_way : IsUnderWay l.system l.dictionary;
  hold : FirstHold l.system l.dictionary l.hold;
}
