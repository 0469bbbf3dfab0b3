use Rattle.ta_program.proofs.Common.{map, LegalRest, rest_meaning, rest_words}
use Rattle.ta_program.specs.RestSeen.{rest_seen}
use Rattle.ta_program.proofs.Meanings.{asked_where}
use Rattle.ta_program.proofs.RestMeanings.{rest_decides, rest_passes}
use Rattle.ta_program.proofs.rest.RestStagingRequest.read.Goals as goal

pub returns : goal.returns
returns c = asked_where rest_seen LegalRest rest_meaning rest_decides rest_passes c.read_rest.result (rest_words (map (λ w. w.now) c.args.words.now))
    c.read_rest.ensures
