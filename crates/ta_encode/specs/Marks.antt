-- How many unknowns and rows of a schema there are after each of its elements.
use Rattle.std.specs.Prelude.{ℕ, ◌+◌, ◌<◌, ◌≤◌, ◌≡◌, List, length, reverse, take, slice_index_or}
use Rattle.ta_linear.specs.declared.row.Row.{Row}
use Rattle.ta_automaton.specs.declared.automaton.Automaton.{Automaton}
use Rattle.ta_automaton.specs.declared.pattern.Pattern.{Pattern}
use Rattle.ta_words.specs.declared.element.Element.{Element}
use Rattle.ta_encode.specs.Unknowns.{Meaning}
use Rattle.ta_encode.specs.Inside.Draft.{IsDraft, IsDraftOf}
use Rattle.ta_encode.specs.declared.growing.Mark.{Mark}
use Rattle.ta_encode.specs.declared.growing.Encoding.{Encoding}
use Rattle.ta_encode.specs.declared.growing.Part.{Part}
use Rattle.ta_encode.specs.declared.origin.Origin.{Origin}

-- no unknowns and rows
abbrev pub no_mark : Mark
no_mark = record { unknowns = 0; rows = 0 }

-- how many there are after i elements
abbrev pub mark_at : List Mark → ℕ → Mark
mark_at marks i = slice_index_or marks i no_mark

-- after i elements there are these unknowns and rows: those of the schema of these elements
pub record MarkHolds (a : Automaton) (p : Pattern) (start : ℕ) (elements : List Element) (ms : List Meaning) (rows : List Row) (i : ℕ) (mark : Mark) : Type 0
  where
    pub unknowns_within : mark.unknowns ≤ length ms
    pub rows_within : mark.rows ≤ length rows
    pub drafted : IsDraftOf a p start (reverse (take i elements)) (take mark.unknowns ms) (take mark.rows rows)

-- the marks of a schema's elements, from those at the start on; they rise
pub record AreMarks (a : Automaton) (p : Pattern) (start : ℕ) (elements : List Element) (ms : List Meaning) (rows : List Row) (marks : List Mark) : Type 0 where
  pub holds : (i : ℕ) → i < length marks → MarkHolds a p start elements ms rows i (mark_at marks i)
  pub rise : (i j : ℕ) → i ≤ j → j < length marks → ((mark_at marks i).unknowns ≤ (mark_at marks j).unknowns)
      × ((mark_at marks i).rows ≤ (mark_at marks j).rows)

-- a schema's system, with its marks
abbrev pub IsEncoding : Automaton → Pattern → Encoding → Type 0
IsEncoding a p e = AreMarks a p e.start_mask e.elements.items e.meanings.items e.system.rows e.marks.items

-- the part of a schema that is written already, where `before` are the rows of the schema before: it stands after `from` of the elements,
-- and the first rows are the same
pub record IsPart (o : Origin) (elements : List Element) (before : List Row) (part : Part) : Type 0 where
  pub within : part.from ≤ length elements
  pub marked : length part.marks.items ≡ part.from + 1
  pub marks : AreMarks o.task.automaton.now o.task.pattern.now o.start_mask elements part.draft.meanings.items part.draft.rows.items part.marks.items
  pub drafted : IsDraft o (reverse (take part.from elements)) part.draft
  pub same : part.same ≤ length part.draft.rows.items
  pub rows_are : take part.same before ≡ take part.same part.draft.rows.items

-- the rows of a system that are the same as before
pub record SameRows (before : List Row) (same : ℕ) (after : List Row) : Type 0 where
  pub within : same ≤ length after
  pub rows_are : take same before ≡ take same after
