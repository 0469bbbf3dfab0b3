use Rattle.ta_meaning.proofs.PlaceNames.{all_names_are}
use Rattle.ta_meaning.proofs.PlaceScopes.{over_all}
use Rattle.ta_meaning.proofs.patterns.resolve_over_all.Goals as goal

pub returns : goal.returns
returns c =
    let places = c.args.places.now in
    over_all places.names _ c.len.result c.args.comparisons.now c.resolve_condition.result (all_names_are places) c.len.ensures c.resolve_condition.ensures
