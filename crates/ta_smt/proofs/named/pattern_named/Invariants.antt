use Rattle.ta_smt.proofs.WordsNamed.{NoneSoFar}
use Rattle.ta_smt.proofs.named.pattern_named.Given as goal

abbrev pub invariant-loop-i : goal.invariant-loop-i
invariant-loop-i l = NoneSoFar l.patterns l.name l.i
