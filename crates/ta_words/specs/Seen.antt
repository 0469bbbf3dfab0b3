-- What a schema says of events and guards, as masks.
use Rattle.std.specs.Prelude.{ℕ, ◌<◌, ◌≤◌, ◌^◌, ◌≡◌, ◌↔◌, IsTrue, List, length, slice_get, Some}
use Rattle.ta_automaton.specs.declared.pattern.Event.{Event as PatternEvent}
use Rattle.ta_automaton.specs.declared.pattern.Pattern.{Pattern}
use Rattle.ta_base.specs.Masks.{has_bit, In}
use Rattle.ta_words.specs.Words.{has_event, has_rise, has_fallen}
use Rattle.ta_words.specs.declared.element.Element.{Element}
use Rattle.ta_words.specs.declared.seen.Seen.{Seen}

-- the masks of the events, the rise guards and the fallen fall guards of a schema
pub record IsSeen (seen : Seen) (start : ℕ) (past : List Element) : Type 0 where
  pub events : (e : ℕ) → e < 128 → has_bit seen.events e ≡ has_event past e
  pub rises : (i : ℕ) → i < 128 → has_bit seen.rises i ≡ has_rise past i
  pub fallen : (j : ℕ) → has_bit seen.fallen j ≡ has_fallen start past j

-- at most 8 events, which come after events of the pattern
pub record EventsNamed (p : Pattern) : Type 0 where
  pub limit : length p.events ≤ 8
  pub after : (e : ℕ) (event : PatternEvent) → slice_get p.events e ≡ Some event → event.after < 2 ^ length p.events

-- a mask of the rise guards that come before one, by pairs (j, i): j before i
abbrev pub NamesBefore : List (ℕ × ℕ) → ℕ → ℕ → Type 0
NamesBefore pairs rise mask = (j : ℕ) → IsTrue (has_bit mask j) ↔ In (j, rise) pairs
