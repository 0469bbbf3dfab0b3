use Rattle.ta_revised.proofs.BasicLists.{ListedBelow}
use Rattle.ta_revised.proofs.unknown_rows.basic_unknowns.Given as goal

abbrev pub invariant-loop-at : goal.invariant-loop-at
invariant-loop-at l = ListedBelow l.list.items l.rows l.at
