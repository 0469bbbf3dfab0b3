-- a configuration and the model's agree
use Rattle.ta_pattern.proofs.Common.{◌≡◌, ℕ, ℤ, pos, Bool, true, false, Option, Some, None, is_some, not, Ok, IsBitSet, arith, sym, ◌∙◌, subst, get_or}
use Rattle.ta_pattern.proofs.Common.{point_of, Holds, HoldsAt, location_place, config_of, IsOf, FirstFalse, EventAnswer, TellsEvent}
use Rattle.std.proofs.lemmas.Int.{ints}
use Rattle.std.proofs.lemmas.Bool.{false≢true}
use Rattle.ta_automaton.specs.declared.automaton.Automaton.{Automaton}
use Rattle.ta_automaton.specs.declared.condition.Condition.{Condition}
use Rattle.ta_automaton.proofs.Moves.{value_at-location}
use Rattle.ta_automaton.proofs.Fire.{fits_whole}
use Rattle.ta_counter.specs.declared.config.Config.{Config}
use Rattle.ta_counter.proofs.Models.{model_at, model_point, model_whole}
use Rattle.ta_counter.proofs.Rows.{holds_from, fails_from}
use Rattle.ta_pattern.specs.Empty.{KeepsEmpty}

pub holds_there : (a : Automaton) (condition : Condition) (c : Config) → HoldsAt (point_of c.values.items) condition → Holds condition (config_of a c)
holds_there a condition c h = subst (λ (f : ℕ → ℤ). HoldsAt f condition) (sym (model_point a c.values.items c.natural)) h

pub holds_here : (a : Automaton) (condition : Condition) (c : Config) → Holds condition (config_of a c) → HoldsAt (point_of c.values.items) condition
holds_here a condition c h = subst (λ (f : ℕ → ℤ). HoldsAt f condition) (model_point a c.values.items c.natural) h

pub event_answer : (point : ℕ → ℤ) (condition : Condition) (first : Option ℕ) (b : Bool) → FirstFalse point condition (Ok first) → is_some first ≡ not b
    → EventAnswer point condition (Ok b)
event_answer point condition None true h is = h
event_answer point condition None false h is = absurd (false≢true is)
event_answer point condition (Some k) true h is = absurd (false≢true (sym is))
event_answer point condition (Some k) false h is = (k, h)

pub tells_event : (a : Automaton) (condition : Condition) (c : Config) (b : Bool) → EventAnswer (point_of c.values.items) condition (Ok b)
    → TellsEvent condition (config_of a c) (Ok b)
tells_event a condition c true h = holds_there a condition c (holds_from (point_of c.values.items) condition h)
tells_event a condition c false h = λ holds. fails_from (point_of c.values.items) condition h.0 h.1 (holds_here a condition c holds)

pub counter_there : (a : Automaton) (c : Config) → IsOf a c → (l : ℕ) → pos (get_or (config_of a c).counters l 0) ≡ point_of c.values.items (location_place a l)
counter_there a c is l =
    sym (value_at-location a (config_of a c) l (fits_whole a (config_of a c) (model_whole a c.values.items is.places)))
    ∙ model_at a c.values.items c.natural (location_place a l)

-- where each location of the mask has value 0, no process is there, and the other way
pub keeps_empty : (a : Automaton) (c : Config) (mask : ℕ) → IsOf a c → ((l : ℕ) → IsBitSet mask l → point_of c.values.items (location_place a l) ≡ pos 0)
    → KeepsEmpty mask (config_of a c)
keeps_empty a c mask is h l bit = omega (arith, ints, counter_there a c is l, h l bit)
