use Rattle.ta_meaning.proofs.Common.{◌≡◌, ◌+◌, ◌-◌, ℕ, List, Some, slice_get, take, drop, subst, kinds_of}
use Rattle.ta_meaning.proofs.Answering.{judges-along}
use Rattle.ta_meaning.proofs.ListedPlaces.{locations_part_is, used_in}
use Rattle.ta_meaning.proofs.rules.location_in.Goals as goal

pub returns : goal.returns
returns c =
    let places = c.args.places.now in
    let name = c.args.name.now in
    let first = places.parameters + places.shared in
    let part = take (c.len-count.result - first) (drop first places.names) in
    let same = locations_part_is places c.len-count.result c.len-count.ensures in
    judges-along _ _ (λ i. slice_get part i ≡ Some name.name) _ c.number_in.result (used_in places part (kinds_of places).locations name same)
    (λ i e. subst (λ (names : List (List ℕ)). slice_get names i ≡ Some name.name) same e) c.number_in.ensures
