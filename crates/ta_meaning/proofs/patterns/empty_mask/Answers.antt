use Rattle.ta_meaning.proofs.Common.{◌+◌, drop, sym, all_names, slice_range, kinds_of, slice_range-end}
use Rattle.ta_meaning.proofs.PlaceNames.{all_names_are}
use Rattle.ta_meaning.proofs.PlaceScopes.{listed_along}
use Rattle.ta_meaning.proofs.patterns.empty_mask.Goals as goal

pub returns : goal.returns
returns c =
    let places = c.args.places.now in
    let first = places.parameters + places.shared in
    listed_along places.names (all_names (kinds_of places)) (slice_range places.names first c.len.result) (drop first places.names) c.args.listed.now
    c.listed_mask.result (sym (all_names_are places)) (slice_range-end places.names first c.len.result c.len.ensures) c.listed_mask.ensures
