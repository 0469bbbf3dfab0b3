use Rattle.ta_meaning.proofs.Common.{drop, first_places}
use Rattle.ta_meaning.proofs.PartForms.{Summing}
use Rattle.ta_meaning.proofs.sums.+sums.Given as goal

abbrev pub invariant-sum_form-terms : goal.invariant-sum_form-terms
invariant-sum_form-terms l = Summing (first_places l.places.names l.allowed) l.term-items (drop l.term-index l.term-items) l.term-index l.form
