use Rattle.ta_search.proofs.Common.{◌≡◌, Option, Some, subst, List, slice_get, Tried, none_behind}
use Rattle.ta_search.proofs.beside.empty_places.Goals as goal

pub numbers-preserved : goal.numbers-preserved
numbers-preserved c = λ t terms place x at. c.numbers.invariant t terms place x
    (none_behind c.numbers.places.items place x (subst (λ (xs : List (Option Tried)). slice_get xs place ≡ Some (Some x)) c.in_ok-push.ensures.items at))
