-- Coefficients of the firings of rules.
use Rattle.std.specs.Prelude.{ℕ, ◌<◌, ◌≡◌, ℤ, pos, Bool, List, length, get_or, All}
use Rattle.ta_linear.specs.Numbers.{InRange}
use Rattle.ta_automaton.specs.declared.automaton.Automaton.{Automaton}
use Rattle.ta_encode.specs.Unknowns.{Count}
use Rattle.ta_encode.specs.Lines.{line_coefficient}
use Rattle.ta_encode.specs.declared.line.Sense.{Sense}

-- what stands before the firings of each rule in the terms over places
pub record AreOfRules (a : Automaton) (terms : List (ℕ × ℤ)) (less_starts : Bool) (sense : Sense) (zs : List ℤ) : Type 0 where
  pub value : (r : ℕ) → r < length zs → get_or zs r (pos 0) ≡ line_coefficient a terms less_starts sense (Count 0 r)
  pub fits : All InRange zs
