-- What the facts of a node say of its moments.
use Rattle.std.specs.Prelude.{Bool, true, false, Option, Some, None}
use Rattle.ta_moments.specs.declared.fact.Fact.{Fact}
use Rattle.ta_moments.specs.declared.fact.Fact.TheVariants.{Never, First, Stands, Last, Before, After, Same, Vacant, Fails}
use Rattle.ta_moments.specs.Moments.{Moment, is_pair}

-- whether there is a moment, and it is a pair
abbrev pub is_pair_in : Option Moment → Bool
is_pair_in None = false
is_pair_in (Some m) = is_pair m

-- whether a fact adds a pair
abbrev pub is_last : Fact → Bool
is_last (Never g) = false
is_last (First g) = false
is_last (Stands g) = false
is_last (Last g) = true
is_last (Before x y) = false
is_last (After x y) = false
is_last (Same x y) = false
is_last (Vacant r) = false
is_last (Fails r g) = false
