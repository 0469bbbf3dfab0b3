use Rattle.ta_revised.proofs.Common.{◌+◌, ◌≤◌, ◌≡◌, ◌^◌, drop, weight_of}
use Rattle.ta_revised.proofs.modest.weight_with.Given as goal

abbrev pub invariant-loop-coefficient : goal.invariant-loop-coefficient
invariant-loop-coefficient l = record {
  few : l.sum ≤ 2 ^ 16;
  value : l.sum + weight_of (drop l.coefficient-index l.terms) ≡ l.start + weight_of l.terms;
}
