use Rattle.ta_scope.proofs.Common.{List, ℤ, AreRuleCounts, AllTakenOut}
use Rattle.ta_scope.proofs.Taken.{sum_of}
use Rattle.ta_scope.proofs.circulation.without_circulations.Given as goal

-- circulations are taken out, and natural numbers are left
abbrev pub invariant-loop-rest : goal.invariant-loop-rest
invariant-loop-rest l = record {
  later : List (List ℤ);
  taken_out : AllTakenOut l.automaton l.counts later l.rest.items;
  left : AreRuleCounts l.automaton
      l.rest.items;
}

abbrev pub decreases-loop-rest : goal.decreases-loop-rest
decreases-loop-rest l = sum_of l.rest.items
