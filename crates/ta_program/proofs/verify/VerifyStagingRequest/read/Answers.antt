use Rattle.ta_program.specs.Values.{limits_of}
use Rattle.ta_program.proofs.Common.{map, LegalPicked, verify_meaning, verify_words}
use Rattle.ta_program.specs.Asking.{verify_seen}
use Rattle.ta_program.proofs.Meanings.{asked_where, verify_decides, verify_passes}
use Rattle.ta_program.proofs.verify.VerifyStagingRequest.read.Goals as goal

pub returns : goal.returns
returns c =
    asked_where verify_seen (λ asked. LegalPicked (limits_of asked.wide) asked.file asked.pattern) verify_meaning verify_decides verify_passes
    c.read_verify.result (verify_words (map (λ w. w.now) c.args.words.now)) c.read_verify.ensures
