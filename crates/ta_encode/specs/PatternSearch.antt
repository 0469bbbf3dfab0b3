-- The search of a pattern: the schemas that are to be refuted, from the empty schema of each start set (initial context).
use Rattle.std.specs.Prelude.{ℕ, ◌^◌, List, [], length, map, Some, None}
use Rattle.ta_automaton.specs.declared.automaton.Automaton.{Automaton}
use Rattle.ta_automaton.specs.declared.pattern.Pattern.{Pattern}
use Rattle.std.specs.List.{range_with_len}
use Rattle.ta_cert.specs.declared.line.Node.TheVariants as node
use Rattle.ta_words.specs.declared.element.Element.{Element}
use Rattle.ta_words.specs.Words.{children, is_complete}
use Rattle.ta_encode.specs.Unknowns.{meanings}
use Rattle.ta_encode.specs.System.{word_rows}
use Rattle.ta_encode.specs.Search.{Pending, Search, only_extend}

-- the empty schema of a start set, without bounds
abbrev pub empty_word : ℕ → Pending Element
empty_word start = record { start = start; past = []; bounds = [] }

-- the empty schema for each start set by rising mask
abbrev pub all_starts : Automaton → List (Pending Element)
all_starts a = map empty_word (range_with_len 0 (2 ^ length a.fall))

-- the search of a pattern under pairs of rise guards, (j, i) for j before i: it begins with the empty schema of each start set, and goes on
-- with the children of each schema that is not complete
abbrev pub pattern_search : Automaton → Pattern → List (ℕ × ℕ) → Search Element
pattern_search a p pairs = record {
  roots = all_starts a;
  answers = λ start past. only_extend (is_complete p past) (children a p pairs start past);
  question = λ start past values. Some node.Extend;
  scaled = λ w values. None;
  unknowns = λ start past. length (meanings a p start past);
  rows = word_rows a p;
}
