use Rattle.ta_search.proofs.Common.{◌∙◌, ap, has_float}
use Rattle.ta_search.proofs.SearchItems.{no_floats}
use Rattle.ta_search.proofs.object.search_json.Goals as goal

pub json_line-requires : goal.json_line-requires
json_line-requires c = ap has_float c.in_ok-value.ensures ∙ no_floats c.args.template.now c.args.end.now
