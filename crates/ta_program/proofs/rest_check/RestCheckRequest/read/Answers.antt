use Rattle.ta_program.specs.Values.{limits_of}
use Rattle.ta_program.proofs.Common.{map, rest_check_meaning, rest_check_words, LegalSilently}
use Rattle.ta_program.specs.RestSeen.{rest_check_seen}
use Rattle.ta_program.proofs.Meanings.{asked_where}
use Rattle.ta_program.proofs.RestMeanings.{rest_check_decides, rest_check_passes}
use Rattle.ta_program.proofs.rest_check.RestCheckRequest.read.Goals as goal

pub returns : goal.returns
returns c =
    asked_where rest_check_seen (λ asked. LegalSilently (limits_of asked.wide) asked.file asked.silent) rest_check_meaning rest_check_decides rest_check_passes
    c.read_rest_check.result (rest_check_words (map (λ w. w.now) c.args.words.now)) c.read_rest_check.ensures
