use Rattle.ta_encode.proofs.Common.{place_coefficient}
use Rattle.ta_encode.proofs.Running.{Valued}
use Rattle.ta_encode.proofs.line.value_in.Given as goal

abbrev pub invariant-loop-place : goal.invariant-loop-place
invariant-loop-place l = Valued (place_coefficient l.automaton l.meaning) l.terms l.place-index l.total
