-- What `rest` and `rest-check` are asked for, by the texts of the command line.
use Rattle.std.specs.Prelude.{option_map}
use Rattle.ta_program.specs.declared.rest.Rest.{Rest}
use Rattle.ta_program.specs.declared.rest_check.RestCheck.{RestCheck}
use Rattle.ta_program.specs.RestWords.{RestCheckWords, RestWords}

abbrev pub rest_seen : Rest → RestWords
rest_seen command = record {
  verify = record {
    file = command.file.now;
    wide = command.silent.budget.wide;
    budget = command.silent.budget.given;
    out = option_map (λ w. w.now) command.out;
    json = command.json;
    pattern = option_map (λ w. w.now) command.pattern;
    all = command.all;
  };
  silent = option_map (λ w. w.now) command.silent.names;
}

abbrev pub rest_check_seen : RestCheck → RestCheckWords
rest_check_seen command = record {
  file = command.file.now;
  other = command.certificate.now;
  wide = command.wide;
  silent = option_map (λ w. w.now) command.silent;
  options = command.options;
}
