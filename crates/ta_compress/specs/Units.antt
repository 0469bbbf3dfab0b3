-- A run step by step up to its last mark, and how guards change along it.
use Rattle.std.specs.Prelude.{ℕ, ℤ, pos, ◌+◌, ◌≤◌, ◌≡◌, ◌⊎◌, ◌+ℤ◌, List, [], ◌∷◌, ◌++◌, length, replicate, unsigned_abs, slice_get, Some}
use Rattle.ta_base.specs.Sums.{total}
use Rattle.ta_linear.specs.Values.{point_of, RowHolds}
use Rattle.ta_linear.specs.declared.row.Row.{Row}
use Rattle.ta_automaton.specs.declared.automaton.Automaton.{Automaton}
use Rattle.ta_replay.specs.declared.run.RunLine.{RunLine}
use Rattle.ta_replay.specs.declared.run.RunLine.TheVariants.{Step, Mark}
use Rattle.ta_replay.specs.Replays.{line_change}
use Rattle.ta_replay.specs.Shows.{MarksAt}

-- the line of a unit step of a rule
abbrev pub unit : ℕ → RunLine
unit r = Step r (pos 1)

-- each step as unit steps, as many as its factor says, and the marks in their places
abbrev pub unfolded : List RunLine → List RunLine
unfolded [] = []
unfolded (Step r factor ∷ lines) = replicate (unsigned_abs factor) (unit r) ++ unfolded lines
unfolded (Mark e ∷ lines) = Mark e ∷ unfolded lines

-- the first n lines end with the last mark; there are none where nothing is marked
pub record EndsAtLastMark (lines : List RunLine) (n : ℕ) : Type 0 where
  pub within : n ≤ length lines
  pub ends : (n ≡ 0) ⊎ ((i e : ℕ) × (n ≡ i + 1) × MarksAt lines i e)
  pub behind : (i e : ℕ) → n ≤ i → ¬ MarksAt lines i e

-- the value at a place after some lines, from the values at the start
abbrev pub value_after : Automaton → List ℤ → List RunLine → ℕ → ℤ
value_after a first lines place = point_of first place +ℤ total (line_change a place) lines

-- the truth of a row differs at two points
abbrev pub Differs : Row → (ℕ → ℤ) → (ℕ → ℤ) → Type 0
Differs row before after = (RowHolds before row × ¬ RowHolds after row) ⊎ (¬ RowHolds before row × RowHolds after row)

-- some of the rows differs at two points
pub record SomeDiffers (rows : List Row) (before after : ℕ → ℤ) : Type 0 where
  pub number : ℕ
  pub row : Row
  pub named : slice_get rows number ≡ Some row
  pub differs : Differs row before after

-- the truth of some guard of the automaton differs
abbrev pub Switches : Automaton → (ℕ → ℤ) → (ℕ → ℤ) → Type 0
Switches a before after = SomeDiffers a.rise before after ⊎ SomeDiffers a.fall before after

-- some fall guard of the automaton holds at the first point, but not at the second
pub record Drops (a : Automaton) (before after : ℕ → ℤ) : Type 0 where
  pub number : ℕ
  pub row : Row
  pub named : slice_get a.fall number ≡ Some row
  pub held : RowHolds before row
  pub fails : ¬ RowHolds after row
