-- Lists of names as masks.
use Rattle.std.specs.Prelude.{ℕ, ◌^◌, ◌<◌, List, length}
use Rattle.ta_meaning.specs.Meaning.{NamesBits}

-- a mask with a bit for each listed name, and no other bits
pub record ListedMask (names listed : List (List ℕ)) (mask : ℕ) : Type 0 where
  pub bits : NamesBits names listed mask
  pub below : mask < 2 ^ length names
