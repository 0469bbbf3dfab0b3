-- The constraint system of a schema at whose end a run is at rest, and the search of such schemas. A schema is given as its past: its
-- elements, the newest first.
use Rattle.std.specs.Prelude.{ℕ, ◌==◌, Bool, false, cond, not, ◌&&◌, List, [], ◌++◌, length, map, filter, slice_get, Option, Some, None}
use Rattle.ta_automaton.specs.declared.rule.Rule.{Rule}
use Rattle.ta_automaton.specs.declared.automaton.Automaton.{Automaton}
use Rattle.ta_automaton.specs.declared.pattern.Pattern.{Pattern}
use Rattle.ta_base.specs.Masks.{has_bit, all_below, implies, any_below}
use Rattle.std.specs.List.{range_with_len}
use Rattle.ta_words.specs.declared.element.Element.{Element}
use Rattle.ta_words.specs.Words.{children, has_fallen, has_rise, is_complete}
use Rattle.ta_encode.specs.Unknowns.{meanings}
use Rattle.ta_encode.specs.System.{LinearRow, opposite, negated, counter_row, guard_rows, word_rows}
use Rattle.ta_cert.specs.declared.line.Node.TheVariants as node
use Rattle.ta_encode.specs.Search.{Search, only_extend}
use Rattle.ta_encode.specs.PatternSearch.{all_starts}

-- whether a rule leads from a location to another, has its rise guards in the schema, and has no fall guard that is in the start set or has
-- fallen
abbrev pub leads_out : Automaton → ℕ → List Element → ℕ → Option Rule → Bool
leads_out a start past l None = false
leads_out a start past l (Some rule) =
    (rule.from == l)
    && (not (rule.from == rule.to)
    && (all_below (length a.rise) (λ i. implies (has_bit rule.rise i) (has_rise past i))
    && all_below (length a.fall) (λ j. implies (has_bit rule.fall j) (not (has_fallen start past j)))))

-- whether a location is not kept empty and has such a rule: at rest it must be empty
abbrev pub must_be_left : Automaton → Pattern → ℕ → List Element → ℕ → Bool
must_be_left a p start past l = not (has_bit p.empty l) && any_below (length a.rules) (λ r. leads_out a start past l (slice_get a.rules r))

-- the rows of rest at a schema's end: the negated rise guards that are not in the schema, and `-counter` of those locations, in order
unfoldable pub end_rows : Automaton → Pattern → ℕ → List Element → List LinearRow
end_rows a p start past =
    map negated (guard_rows a (meanings a p start past) (λ i. not (has_rise past i)) 0 a.rise)
    ++ map (λ l. opposite (counter_row a (meanings a p start past) l)) (filter (must_be_left a p start past) (range_with_len 0 (length a.locations)))

-- the rows of a schema, and those of rest if it is complete
unfoldable pub rest_rows : Automaton → Pattern → ℕ → List Element → List LinearRow
rest_rows a p start past = word_rows a p start past ++ cond (is_complete p past) (end_rows a p start past) []

-- the search of a pattern's schemas of rest: its schemas under no pairs, with these rows
abbrev pub rest_search : Automaton → Pattern → Search Element
rest_search a p = record {
  roots = all_starts a;
  answers = λ start past. only_extend (is_complete p past) (children a p [] start past);
  question = λ start past values. Some node.Extend;
  scaled = λ w values. None;
  unknowns = λ start past. length (meanings a p start past);
  rows = rest_rows a p;
}
