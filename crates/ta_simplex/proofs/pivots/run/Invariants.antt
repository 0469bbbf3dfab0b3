use Rattle.ta_simplex.proofs.Common.{length, map, slack_tableau, variables, Follows, AddsPivots}
use Rattle.ta_simplex.proofs.Ends.{measure}
use Rattle.ta_simplex.proofs.pivots.run.Given as goal

abbrev pub invariant-loop-row : goal.invariant-loop-row
invariant-loop-row g l = record {
  follows : Follows (slack_tableau l.system) (map g.D.Dictionary.pivot_of l.kept.items) (length l.kept.items) (g.D.Dictionary.tableau l.dictionary);
  goes_on : AddsPivots (map g.D.Dictionary.pivot_of l.initial.kept.items) (map g.D.Dictionary.pivot_of l.kept.items);
}

abbrev pub decreases-loop-row : goal.decreases-loop-row
decreases-loop-row g l = measure (variables l.system) (g.D.Dictionary.tableau l.dictionary)
