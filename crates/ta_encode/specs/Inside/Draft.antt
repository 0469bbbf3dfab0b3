-- The unknowns and rows of a schema while it is encoded.
use Rattle.std.specs.Prelude.{ℕ, ◌≡◌, List, ◌++◌, length, map}
use Rattle.ta_linear.specs.declared.row.Row.{Row}
use Rattle.ta_linear.specs.declared.row.System.{System}
use Rattle.ta_automaton.specs.declared.automaton.Automaton.{Automaton}
use Rattle.ta_automaton.specs.declared.pattern.Pattern.{Pattern}
use Rattle.ta_words.specs.declared.element.Element.{Element}
use Rattle.ta_encode.specs.Unknowns.{Meaning, meanings, start_meanings}
use Rattle.ta_encode.specs.System.{Bound, LinearRow, bound_row, open_rows, word_rows}
use Rattle.ta_encode.specs.Code.{AreRowsOf}
use Rattle.ta_encode.specs.Inside.Lines.{AddsRows, AreWritten, IsBehind}
use Rattle.ta_encode.specs.declared.draft.Draft.{Draft}
use Rattle.ta_encode.specs.declared.origin.Origin.{Origin}

-- the unknowns and rows of a schema
pub record IsDraftOf (a : Automaton) (p : Pattern) (start : ℕ) (past : List Element) (unknowns : List Meaning) (rows : List Row) : Type 0 where
  pub unknowns_are : unknowns ≡ meanings a p start past
  pub rows_are : AreWritten (word_rows a p start past) (length unknowns) rows

-- a draft of the start without its fall guards
pub record IsOpen (a : Automaton) (p : Pattern) (draft : Draft) : Type 0 where
  pub automaton_is : draft.automaton.now ≡ a
  pub unknowns_are : draft.meanings.items ≡ start_meanings a p
  pub rows_are : AreWritten (open_rows a p) (length draft.meanings.items) draft.rows.items

-- a draft of a schema
pub record IsDraft (o : Origin) (past : List Element) (draft : Draft) : Type 0 where
  pub automaton_is : draft.automaton.now ≡ o.task.automaton.now
  pub is : IsDraftOf o.task.automaton.now o.task.pattern.now o.start_mask past draft.meanings.items draft.rows.items

-- a draft of a schema that begins with what was written before
pub record Continues (o : Origin) (past : List Element) (before after : Draft) : Type 0 where
  pub drafted : IsDraft o past after
  pub unknowns : IsBehind before.meanings.items after.meanings.items
  pub rows : IsBehind before.rows.items after.rows.items

-- writing rows over the unknowns so far after others
pub record Adds (rows_over : Automaton → List Meaning → List LinearRow) (before after : Draft) : Type 0 where
  pub automaton : after.automaton.now ≡ before.automaton.now
  pub unknowns : after.meanings.items ≡ before.meanings.items
  pub rows : AddsRows (rows_over before.automaton.now before.meanings.items) (length before.meanings.items) before.rows.items after.rows.items

-- writing unknowns after others
pub record AddsUnknowns (more : List Meaning) (before after : Draft) : Type 0 where
  pub automaton : after.automaton.now ≡ before.automaton.now
  pub unknowns : after.meanings.items ≡ before.meanings.items ++ more
  pub rows : after.rows.items ≡ before.rows.items

-- rows of the code that are written from some rows
pub record HasWritten (n : ℕ) (rows : List Row) : Type 0 where
  pub lines : List LinearRow
  pub are : AreWritten lines n rows

-- a system and what its unknowns mean, where these unknowns and rows were written before the bounds
pub record AreEncoded (unknowns : List Meaning) (rows : List Row) (bounds : List Bound) (ms : List Meaning) (system : System) : Type 0 where
  pub meanings_are : ms ≡ unknowns
  pub count : system.unknowns ≡ length unknowns
  pub rows_are : (ls : List LinearRow) → AreWritten ls (length unknowns) rows → AreRowsOf (ls ++ map bound_row bounds) system.rows
  pub behind : IsBehind rows system.rows
