-- The items of a line of JSON, as they are added.
use Rattle.std.specs.Prelude.{ℕ, List, [], ◌∷◌}
use Rattle.serde_json.specs.Data as json
use Rattle.ta_search.specs.declared.template.Hole.{Hole}
use Rattle.ta_search.specs.SearchJson.{hole_data}

-- a value for each hole, after its name, as a list
abbrev pub choice_list : List Hole → List ℕ → List json.Data
choice_list [] values = []
choice_list (h ∷ hs) [] = []
choice_list (h ∷ hs) (value ∷ values) = hole_data h.name value ∷ choice_list hs values
