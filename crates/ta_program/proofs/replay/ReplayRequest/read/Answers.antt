use Rattle.ta_program.specs.Values.{limits_of}
use Rattle.ta_program.proofs.Common.{map, Some, replay_meaning}
use Rattle.ta_program.specs.CheckSeen.{replay_seen}
use Rattle.ta_program.specs.CheckWords.{replay_words}
use Rattle.ta_program.proofs.Meanings.{asked_for, replay_decides, replay_passes}
use Rattle.ta_program.proofs.replay.ReplayRequest.read.Goals as goal

pub returns : goal.returns
returns c =
    asked_for replay_seen (λ asked. Some (asked.file, limits_of asked.wide)) replay_meaning replay_decides replay_passes
    c.read_replay.result (replay_words (map (λ w. w.now) c.args.words.now)) c.read_replay.ensures
