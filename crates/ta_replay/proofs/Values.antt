-- what the values of a configuration say
use Rattle.ta_replay.proofs.Common.{◌≡◌, ℕ, pos, length, sym, ap, ◌∙◌, subst, slice_get, Some, AllByRecursion, each_from_at, Row, Automaton, Comparison}
use Rattle.ta_replay.proofs.Common.{Condition, Event, Pattern, EventWithin, Config, Over, RowsOver, config_of, places_of, IsOf, KeepsEmpty, counter_there}
use Rattle.ta_replay.proofs.Common.{keeps_empty, PatternOf, EmptyAt, each_weaker}
use Rattle.ta_automaton.specs.Forms.{ConditionOver, RowOver}
use Rattle.ta_linear.specs.Terms.{IsNormal}

over_condition : (places : ℕ) (condition : Condition) → ConditionOver places condition → Over places condition
over_condition places condition all =
    each_weaker (λ (k : Comparison). AllByRecursion (RowOver places) k.rows) (λ (k : Comparison). RowsOver places k.rows) condition.comparisons
    (λ k rows. each_weaker (RowOver places) (λ (row : Row). IsNormal 0 places row.form.terms) k.rows (λ row over. over.below) rows) all

pub event_over : (a : Automaton) (p : Pattern) (config : Config) → PatternOf a p → IsOf a config → (e : ℕ) (event : Event) → slice_get p.events e ≡ Some event
    → Over (length config.values.items) event.condition
event_over a p config within is e event at =
    let w = each_from_at (EventWithin (places_of a)) 0 p.events e event within.events at in
    subst (λ n. Over n event.condition) (sym is.places) (over_condition (places_of a) event.condition w.condition)

pub empty_at : (a : Automaton) (config : Config) (mask : ℕ) → IsOf a config → KeepsEmpty mask (config_of a config) → EmptyAt a mask config.values.items
empty_at a config mask is kept l bit = sym (counter_there a config is l) ∙ ap pos (kept l bit)

pub keeps_at : (a : Automaton) (config : Config) (mask : ℕ) → IsOf a config → EmptyAt a mask config.values.items → KeepsEmpty mask (config_of a config)
keeps_at a config mask is empty = keeps_empty a config mask is empty
