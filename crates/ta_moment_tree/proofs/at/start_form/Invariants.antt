use Rattle.ta_moment_tree.proofs.Common.{Meaning, place_coefficient, Sparse}
use Rattle.ta_moment_tree.proofs.at.start_form.Given as goal

abbrev pub invariant-loop-unknown : goal.invariant-loop-unknown
invariant-loop-unknown l = Sparse (λ (m : Meaning). place_coefficient l.automaton m l.place) l.meaning-items l.unknown l.terms.items
