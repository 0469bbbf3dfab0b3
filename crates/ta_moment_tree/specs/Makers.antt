-- What the maker of a proof does at a vertex of a node. The checker does not depend on it.
use Rattle.std.specs.Prelude.{ℤ, pos, ◌&&◌, Bool, cond, not, is_some, List, [], Option, None, Some}
use Rattle.std.specs.List.{list_all}
use Rattle.std.specs.Option.{option_map}
use Rattle.ta_automaton.specs.declared.automaton.Automaton.{Automaton}
use Rattle.ta_automaton.specs.declared.pattern.Pattern.{Pattern}
use Rattle.ta_encode.specs.Search.{Pending, Search}
use Rattle.ta_moments.specs.declared.fact.Fact.{Fact}
use Rattle.ta_moments.specs.Questions.{Values, is_known_natural, known_value, next_question}
use Rattle.ta_moments.specs.Refutes.{Asking, Node, node_rows}
use Rattle.ta_moments.specs.Searched.{Maker, asking_node, candidate_of, moment_search}
use Rattle.ta_moments.specs.Vertices.{values_of}

-- what a search refutes, as a node
abbrev pub node_of : Pending Fact → Node
node_of w = record { candidate = candidate_of w.start; past = w.past; bounds = w.bounds }

-- integers as values of the unknowns
abbrev pub whole_values : List ℤ → Values
whole_values numbers = Some (record { denominator = pos 1; numbers = numbers })

-- whether integers may be taken in place of a vertex's values: each row of the node is known and met there, and nothing is asked
abbrev pub may_take : Automaton → Pattern → Asking → Node → List ℤ → Bool
may_take a p asking node numbers =
    list_all (λ f. is_known_natural (known_value (whole_values numbers) f)) (node_rows a p asking node)
    && not (is_some (next_question a p asking node (whole_values numbers)))

-- a vertex's values times their least common denominator, where they may be taken
abbrev pub scaled_in : Automaton → Pattern → Asking → Node → Values → Option (List ℤ)
scaled_in a p asking node None = None
scaled_in a p asking node (Some values) = cond (may_take a p asking node values.numbers) (Some values.numbers) None

abbrev pub scaled_values : Automaton → Pattern → Asking → Pending Fact → List (ℤ × ℤ) → Option (List ℤ)
scaled_values a p asking w fractions = scaled_in a p asking (node_of w) (values_of fractions)

-- the next question is asked at the values of the vertex, given by numerators and positive denominators; if nothing is asked and not all
-- values are integers, these times their least common denominator are taken, if they may be
abbrev pub moment_maker : Automaton → Pattern → Asking → Maker
moment_maker a p asking = record {
  question = λ start past values. option_map asking_node
      (next_question a p asking (record { candidate = candidate_of start; past = past; bounds = [] }) (values_of values));
  scaled = scaled_values a p asking;
}

-- the search of a pattern's moments, with what may be asked
abbrev pub moments_of : Automaton → Pattern → Asking → Search Fact
moments_of a p asking = moment_search a p asking (moment_maker a p asking)
