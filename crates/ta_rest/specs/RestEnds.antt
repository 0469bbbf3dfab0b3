-- What is asked of the end of a schema at rest: which guards fail, and which locations are empty.
use Rattle.std.specs.Prelude.{ℕ, ◌<◌, ◌≡◌, true, false, not, List, length, Option, Some, None}
use Rattle.ta_automaton.specs.declared.automaton.Automaton.{Automaton}
use Rattle.ta_automaton.specs.declared.pattern.Pattern.{Pattern}
use Rattle.ta_base.specs.Masks.{has_bit}
use Rattle.ta_words.specs.declared.element.Element.{Element}
use Rattle.ta_words.specs.Words.{has_rise, is_complete}
use Rattle.ta_encode.specs.declared.ending.WordEnd.{WordEnd}
use Rattle.ta_rest.specs.RestSearch.{must_be_left}

-- the guards that fail are those that are not in the schema, and no process is in the locations that must be left
pub record IsEndOf (a : Automaton) (p : Pattern) (start : ℕ) (past : List Element) (end : WordEnd) : Type 0 where
  pub failing : (i : ℕ) → i < length a.rise → has_bit end.failing i ≡ not (has_rise past i)
  pub left : (l : ℕ) → l < length a.locations → not (has_bit end.inhabited l) ≡ must_be_left a p start past l

-- this is asked if the schema is complete; otherwise nothing is asked
abbrev pub IsRestEnd : Automaton → Pattern → ℕ → List Element → Option WordEnd → Type 0
IsRestEnd a p start past None = is_complete p past ≡ false
IsRestEnd a p start past (Some end) = (is_complete p past ≡ true) × IsEndOf a p start past end
