use Rattle.ta_program.proofs.Common.{map, None}
use Rattle.ta_program.specs.Version.{version_meaning, version_words}
use Rattle.ta_program.specs.declared.version.Version.{Version}
use Rattle.ta_program.proofs.Meanings.{asked_for, version_decides, version_passes}
use Rattle.ta_program.proofs.version.VersionRequest.read.Goals as goal

pub returns : goal.returns
returns c =
    asked_for (λ (command : Version). tt) (λ asked. None) (λ asked. version_meaning) (λ asked. version_decides) (λ asked. version_passes)
    c.read_version.result (version_words (map (λ w. w.now) c.args.words.now)) c.read_version.ensures
