-- What `check` and `replay` are asked for, by the texts of the command line.
use Rattle.ta_program.specs.declared.check.Check.{Check}
use Rattle.ta_program.specs.declared.replay.Replay.{Replay}
use Rattle.ta_program.specs.CheckWords.{CheckWords, ReplayWords}

abbrev pub check_seen : Check → CheckWords
check_seen command = record { file = command.file.now; other = command.certificate.now; wide = command.wide; options = command.options }

abbrev pub replay_seen : Replay → ReplayWords
replay_seen command = record { file = command.file.now; other = command.run.now; wide = command.wide; json = command.json }
