-- The names that `show` prints of unknowns are those of the unknowns of moments on demand.
use Rattle.std.specs.Prelude.{ℕ, ◌≡◌, length, slice_get, Some}
use Rattle.ta_base.specs.Masks.{In}
use Rattle.ta_automaton.specs.declared.automaton.Automaton.{Automaton}
use Rattle.ta_automaton.specs.declared.pattern.Event.{Event}
use Rattle.ta_automaton.specs.declared.pattern.Pattern.{Pattern}
use Rattle.ta_encode.specs.Unknowns.{start_meanings}
use Rattle.ta_encode.specs.declared.meaning.Meaning.TheVariants.{Parameter, Start}
use Rattle.ta_moments.specs.Facts.{moving_rules}
use Rattle.ta_moments.specs.Forms.{unknown_form}
use Rattle.ta_moments.specs.Moments.{event_vector, unknowns_at_first}
use Rattle.ta_report.specs.Unknowns.{fired_name, start_name, unknown_names}

-- the unknown that counts how often a moving rule fires before an event, and its name
pub record FiredNamed (a : Automaton) (p : Pattern) (e : ℕ) (event : Event) (r : ℕ) : Type 0 where
  pub unknown : ℕ
  pub counts : event_vector a p e r ≡ unknown_form unknown
  pub named : slice_get (unknown_names a p) unknown ≡ Some (fired_name a event r)

-- there are as many names as a node without facts has unknowns; a parameter's unknown has the parameter's name, a start count's that of its
-- location, and what counts the firings of a moving rule before an event has the names of both
pub record UnknownsNamed (a : Automaton) (p : Pattern) : Type 0 where
  pub count : length (unknown_names a p) ≡ unknowns_at_first a p
  pub parameters : (u i : ℕ) → slice_get (start_meanings a p) u ≡ Some (Parameter i) → slice_get (unknown_names a p) u ≡ slice_get a.parameters i
  pub starts : (u l : ℕ) → slice_get (start_meanings a p) u ≡ Some (Start l) → slice_get (unknown_names a p) u ≡ Some (start_name a l)
  pub fired : (e : ℕ) (event : Event) (r : ℕ) → slice_get p.events e ≡ Some event → In r (moving_rules a p) → FiredNamed a p e event r

abbrev pub UnknownsAreNamed : Type 0
UnknownsAreNamed = (a : Automaton) (p : Pattern) → UnknownsNamed a p
