-- A fact of the pattern that has a given number in a file.
use Rattle.std.specs.Prelude.{ℕ, ◌≡◌, slice_get, Some}
use Rattle.ta_automaton.specs.declared.file.File.{File}
use Rattle.ta_automaton.specs.declared.pattern.Pattern.{Pattern}

-- a fact of the pattern with this number
abbrev pub OfPattern : File → ℕ → (Pattern → Type 0) → Type 0
OfPattern file k P = (p : Pattern) → slice_get file.patterns k ≡ Some p → P p
