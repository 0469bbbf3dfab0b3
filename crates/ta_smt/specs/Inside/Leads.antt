-- Summands, each with a text before it.
use Rattle.std.specs.Prelude.{ℕ, List, [], ◌∷◌, ◌++◌}
use Rattle.ta_smt.specs.Script.{Summand, summand_text}

abbrev pub led_text : List ℕ → List Summand → List ℕ
led_text lead [] = []
led_text lead (s ∷ ss) = lead ++ (summand_text s ++ led_text lead ss)
