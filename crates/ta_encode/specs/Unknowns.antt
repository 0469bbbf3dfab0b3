-- The unknowns of a schema's constraint system, by their meaning. A schema is given as its past: its elements, the newest first. Source of
-- the Counts: Konnov, Lazić, Veith, Widder, POPL 2017 (acceleration factors).
use Rattle.std.specs.Prelude.{ℕ, ℤ, not, List, [], ◌∷◌, ◌++◌, length, map, filter, slice_get}
use Rattle.ta_automaton.specs.declared.automaton.Automaton.{Automaton}
use Rattle.ta_automaton.specs.declared.pattern.Pattern.{Pattern}
use Rattle.ta_base.specs.Masks.{has_bit}
use Rattle.ta_base.specs.Sums.{one_if}
use Rattle.std.specs.List.{range_with_len}
use Rattle.ta_automaton.specs.Places.{location_place, rule_change}
use Rattle.ta_words.specs.declared.element.Element.{Element}
use Rattle.ta_words.specs.declared.element.Element.TheVariants.{Event, Rise, Fall}
use Rattle.ta_words.specs.Words.{allowed_rules}
pub use Rattle.ta_encode.specs.declared.meaning.Meaning.{Meaning}
pub use Rattle.ta_encode.specs.declared.meaning.Meaning.TheVariants.{Parameter, Start, Count, Single}

-- the initial locations that are not kept empty, in order
abbrev pub start_locations : Automaton → Pattern → List ℕ
start_locations a p = filter (λ l. not (has_bit p.empty l)) a.initial

-- the unknowns at the start: the parameters, and a start count for each such location
unfoldable pub start_meanings : Automaton → Pattern → List Meaning
start_meanings a p = map Parameter (range_with_len 0 (length a.parameters)) ++ map Start (start_locations a p)

-- how often each rule that is allowed after a schema fires before the next element
abbrev pub counts_after : Automaton → Pattern → ℕ → List Element → List Meaning
counts_after a p start past = map (Count (length past)) (allowed_rules a p start past)

-- which rule that is allowed after a schema is the single step of the Fall that comes next
abbrev pub singles_after : Automaton → Pattern → ℕ → List Element → List Meaning
singles_after a p start past = map (Single (length past)) (allowed_rules a p start past)

-- the unknowns of a schema, in order: those of each prefix come first
unfoldable pub meanings : Automaton → Pattern → ℕ → List Element → List Meaning
meanings a p start [] = start_meanings a p
meanings a p start (Event e ∷ past) = meanings a p start past ++ counts_after a p start past
meanings a p start (Rise i ∷ past) = meanings a p start past ++ counts_after a p start past
meanings a p start (Fall mask ∷ past) = (meanings a p start past ++ counts_after a p start past) ++ singles_after a p start past

-- what stands before an unknown where the value at a place is written in unknowns: a counter is its start count and the
-- firings of rules into it, minus those of rules out of it; a shared variable is the sum of the updates of all firings
abbrev pub place_coefficient : Automaton → Meaning → ℕ → ℤ
place_coefficient a (Parameter i) place = one_if i place
place_coefficient a (Start l) place = one_if (location_place a l) place
place_coefficient a (Count k r) place = rule_change a (slice_get a.rules r) place
place_coefficient a (Single k r) place = rule_change a (slice_get a.rules r) place
