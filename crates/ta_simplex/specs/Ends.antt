-- How solving ends: refuted by a Farkas certificate, at a vertex, or with a pivot out of range.
use Rattle.ta_linear.specs.declared.row.System.{System}
use Rattle.ta_dense.specs.Slack.{slack_tableau}
use Rattle.ta_simplex.specs.LeastIndex.{OverflowsAt}
use Rattle.ta_simplex.specs.Refuted.{IsRefuted}
use Rattle.ta_simplex.specs.Vertex.{IsVertex}
use Rattle.ta_simplex.specs.declared.End.{End}
use Rattle.ta_simplex.specs.declared.End.TheVariants.{Refuted, Vertex}
use Rattle.ta_simplex.specs.declared.fault.SolveFault.{SolveFault}
use Rattle.ta_simplex.specs.declared.fault.SolveFault.TheVariants.{Overflow, Memory}

abbrev pub IsEnd : System → End → Type 0
IsEnd s (Refuted ts) = IsRefuted s ts
IsEnd s (Vertex values) = IsVertex s values

abbrev pub IsSolveFault : System → SolveFault → Type 0
IsSolveFault s (Overflow k) = OverflowsAt (slack_tableau s) k
IsSolveFault s Memory = Unit {0}
