use Rattle.ta_program.specs.Values.{limits_of}
use Rattle.ta_program.proofs.Common.{map, Some, check_meaning}
use Rattle.ta_program.specs.CheckSeen.{check_seen}
use Rattle.ta_program.specs.CheckWords.{check_words}
use Rattle.ta_program.proofs.Meanings.{asked_for, check_decides, check_passes}
use Rattle.ta_program.proofs.check.CheckRequest.read.Goals as goal

pub returns : goal.returns
returns c =
    asked_for check_seen (λ asked. Some (asked.file, limits_of asked.wide)) check_meaning check_decides check_passes
    c.read_check.result (check_words (map (λ w. w.now) c.args.words.now)) c.read_check.ensures
