-- What each command is asked for, by the texts of the command line.
use Rattle.std.specs.Prelude.{option_map}
use Rattle.ta_program.specs.declared.verify.Verify.{Verify}
use Rattle.ta_program.specs.VerifyWords.{VerifyWords}

abbrev pub verify_seen : Verify → VerifyWords
verify_seen command = record {
  file = command.file.now;
  wide = command.budget.wide;
  budget = command.budget.given;
  out = option_map (λ w. w.now) command.out;
  json = command.json;
  pattern = option_map (λ w. w.now) command.pattern;
  all = command.all;
}
