-- What a search that found values writes.
use Rattle.std.specs.Prelude.{ℕ, ◌≡◌, Bool, true, List, [], ◌∷◌, ◌++◌}
use Rattle.ta_search.specs.declared.outcome.Outcome.TheVariants.{Safe}
use Rattle.ta_search.specs.declared.outcome.SearchEnd.{SearchEnd}
use Rattle.ta_search.specs.declared.outcome.Tried.{Tried}
use Rattle.ta_search.specs.declared.template.Template.{Template}
use Rattle.ta_search.specs.declared.terms.Terms.{Terms}
use Rattle.ta_search.specs.Searching.{IsSearchEnd, LastIsFound}
use Rattle.ta_search.specs.SearchJson.{search_told}

-- a template's search by these terms ended so, values were found, and this is its text, in JSON or in lines
pub record IsFoundEnd (template : Template) (terms : Terms) (json : Bool) (end : SearchEnd) (text : List ℕ) : Type 0 where
  pub is_end : IsSearchEnd template terms end
  pub found : end.found ≡ true
  pub last : LastIsFound template terms.limits end
  pub written : text ≡ search_told json template end

-- the last vector has these values, and is safe with this certificate
pub record LastGives (end : SearchEnd) (values certificate : List ℕ) : Type 0 where
  pub before : List Tried
  pub whole : end.tried ≡ before ++ record { values = values; outcome = Safe certificate } ∷ []

-- the search ended with these values and this certificate, and this is its text
pub record FoundBy (template : Template) (terms : Terms) (json : Bool) (values certificate text : List ℕ) : Type 0 where
  pub end : SearchEnd
  pub ends : IsFoundEnd template terms json end text
  pub gives : LastGives end values certificate
