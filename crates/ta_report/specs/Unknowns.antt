-- The names of the unknowns of a pattern's node without facts: in certificates of moments on demand leaves and splits have their numbers.
-- They are the same for each candidate, and the first unknowns of each node below.
use Rattle.std.specs.Prelude.{ℕ, List, [], ◌++◌, codes, flat_map, map, slice_get, Option, None, Some}
use Rattle.ta_automaton.specs.declared.automaton.Automaton.{Automaton}
use Rattle.ta_automaton.specs.declared.file.File.{File}
use Rattle.ta_automaton.specs.declared.pattern.Event.{Event}
use Rattle.ta_automaton.specs.declared.pattern.Pattern.{Pattern}
use Rattle.ta_automaton.specs.declared.rule.Rule.{Rule}
use Rattle.ta_encode.specs.Unknowns.{start_locations}
use Rattle.ta_moments.specs.Facts.{moving_rules}
use Rattle.ta_report.specs.Show.{each, listed, name_at, name_text}

-- the start count of a location
abbrev pub start_name : Automaton → ℕ → List ℕ
start_name a location = codes "start " ++ name_at a.locations location

-- the name of a rule
abbrev pub rule_name : Option Rule → List ℕ
rule_name None = []
rule_name (Some rule) = rule.name

-- how often a rule fires before an event
abbrev pub fired_name : Automaton → Event → ℕ → List ℕ
fired_name a event rule = event.name ++ (codes ": " ++ rule_name (slice_get a.rules rule))

-- how often each moving rule fires before an event
abbrev pub fired_names : Automaton → Pattern → Event → List (List ℕ)
fired_names a p event = map (fired_name a event) (moving_rules a p)

-- the names of the unknowns, by number: the parameters, the start counts of the initial locations that are not kept empty, and for each
-- event how often each moving rule fires before it
abbrev pub unknown_names : Automaton → Pattern → List (List ℕ)
unknown_names a p = a.parameters ++ (map (start_name a) (start_locations a p) ++ flat_map (fired_names a p) p.events)

-- a pattern's list of them
abbrev pub pattern_unknowns_text : Automaton → Pattern → List ℕ
pattern_unknowns_text a p = listed (codes "unknowns of " ++ (p.name ++ codes " ")) name_text (unknown_names a p)

-- the lists of a file's patterns
abbrev pub unknowns_text : File → List ℕ
unknowns_text file = each (pattern_unknowns_text file.automaton) file.patterns
