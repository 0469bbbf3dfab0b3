use Rattle.ta_search.proofs.Common.{AllByRecursion, Template, AtHand, IsPlaced, Terms}
use Rattle.ta_search.proofs.beside.in_places.Given as goal

abbrev pub invariant-placed : goal.invariant-placed
invariant-placed l =
    (t : Template) (terms : Terms) → AllByRecursion (IsPlaced t terms) l.fn.placed.items
    → AtHand t terms l.places.items × AllByRecursion (IsPlaced t terms) l.place-iterator.rest.items
