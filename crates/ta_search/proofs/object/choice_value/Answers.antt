use Rattle.std.proofs.Common.{rules}
use Rattle.ta_search.proofs.Common.{◌≡◌, ◌∙◌, ap, map, items_of, view, view-Array, choice_list}
use Rattle.serde_json.specs.Data.{array}
use Rattle.ta_search.proofs.SearchItems.{choice_listed}
use Rattle.ta_search.proofs.object.choice_value.Goals as goal

pub returns : goal.returns
returns c =
    let hs = c.args.holes.now in
    let values = c.args.values.now in
    let added : map view c.push_choice.new.items.items ≡ choice_list hs values = search rules in
    view-Array c.push_choice.new.items ∙ ap array (ap items_of added ∙ choice_listed hs values)
