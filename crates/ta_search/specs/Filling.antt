-- A template's body with values in its holes.
use Rattle.std.specs.Prelude.{ℕ, ◌==◌, ◌&&◌, ◌++◌, Bool, true, false, List, [], ◌∷◌, decimal, if◌then◌else◌}
use Rattle.std.specs.Str.{bytes_eq}
use Rattle.ta_base.specs.Bytes.{is_word}
use Rattle.ta_search.specs.declared.template.Hole.{Hole}
use Rattle.ta_search.specs.declared.template.Template.{Template}
use Rattle.ta_search.specs.Holes.{word_at}

-- the value of the hole of this name
abbrev pub hole_value : List Hole → List ℕ → List ℕ → ℕ
hole_value [] values word = 0
hole_value (h ∷ hs) [] word = 0
hole_value (h ∷ hs) (value ∷ values) word = if bytes_eq word h.name then value else hole_value hs values word

-- a `$` gives the value of the hole whose name comes after it, in decimal; the letters, digits and `_` directly after it (`named`) give
-- nothing; every other byte gives itself
abbrev pub filled_body : List Hole → List ℕ → Bool → List ℕ → List ℕ
filled_body hs values named [] = []
filled_body hs values named (b ∷ bs) =
    if b == 36 then decimal (hole_value hs values (word_at bs)) ++ filled_body hs values true bs
    else (if named && is_word b then filled_body hs values true bs else b ∷ filled_body hs values false bs)

-- the text of a template's body with a value for each hole
abbrev pub filled_text : Template → List ℕ → List ℕ
filled_text t values = filled_body t.holes values false t.body
