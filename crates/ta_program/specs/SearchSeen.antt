-- What is asked of `search`, by the texts of the command line.
use Rattle.std.specs.Prelude.{option_map}
use Rattle.ta_program.specs.declared.search.Search.{Search}
use Rattle.ta_program.specs.SearchWords.{SearchWords}

abbrev pub search_seen : Search → SearchWords
search_seen command = record {
  file = command.file.now;
  budget = command.budget.given;
  wide = command.budget.wide;
  out = option_map (λ w. w.now) command.out;
  filled = option_map (λ w. w.now) command.filled;
  json = command.json;
}
