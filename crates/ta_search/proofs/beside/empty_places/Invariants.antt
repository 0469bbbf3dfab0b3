use Rattle.ta_search.proofs.Common.{Template, AtHand, Terms}
use Rattle.ta_search.proofs.beside.empty_places.Given as goal

abbrev pub invariant-numbers : goal.invariant-numbers
invariant-numbers l = (t : Template) (terms : Terms) → AtHand t terms l.places.items
