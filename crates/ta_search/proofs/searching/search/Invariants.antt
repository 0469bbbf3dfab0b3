use Rattle.ta_search.specs.Inside.Beside.{AtHand}
use Rattle.ta_search.proofs.Trying.{Searched}
use Rattle.ta_search.proofs.searching.search.Given as goal

abbrev pub invariant-vectors : goal.invariant-vectors
invariant-vectors g l = Searched l.fn.template l.fn.terms l.place l.tried.items × AtHand l.fn.template l.fn.terms l.at_hand.items
