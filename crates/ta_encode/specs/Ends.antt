-- Rows that a search may add at the end of a schema, after the schema's own.
use Rattle.std.specs.Prelude.{ℕ, ◌≡◌, List, [], ◌++◌, length, map, filter, not, Option, Some, None}
use Rattle.ta_linear.specs.declared.row.System.{System}
use Rattle.ta_automaton.specs.declared.automaton.Automaton.{Automaton}
use Rattle.ta_automaton.specs.declared.pattern.Pattern.{Pattern}
use Rattle.ta_base.specs.Masks.{has_bit}
use Rattle.std.specs.List.{range_with_len}
use Rattle.ta_words.specs.declared.element.Element.{Element}
use Rattle.ta_encode.specs.Unknowns.{Meaning, meanings}
use Rattle.ta_encode.specs.System.{LinearRow, Bound, bound_row, counter_row, guard_rows, negated, opposite, word_rows}
use Rattle.ta_encode.specs.Code.{AreRowsOf}
use Rattle.ta_encode.specs.declared.ending.WordEnd.{WordEnd}

-- the negations of the rise guards that are to fail at the end, and `-counter` of the locations that are to be empty
abbrev pub ended_rows : Automaton → List Meaning → Option WordEnd → List LinearRow
ended_rows a ms None = []
ended_rows a ms (Some end) =
    map negated (guard_rows a ms (has_bit end.failing) 0 a.rise)
    ++ map (λ l. opposite (counter_row a ms l)) (filter (λ l. not (has_bit end.inhabited l)) (range_with_len 0 (length a.locations)))

-- the unknowns of a schema, and its rows, then those of its end, then those of bounds
pub record EndedSystem (a : Automaton) (p : Pattern) (start : ℕ) (past : List Element) (end : Option WordEnd) (bounds : List Bound) (system : System) : Type 0
  where
    pub unknowns : system.unknowns ≡ length (meanings a p start past)
    pub rows : AreRowsOf ((word_rows a p start past ++ ended_rows a (meanings a p start past) end) ++ map bound_row bounds) system.rows
