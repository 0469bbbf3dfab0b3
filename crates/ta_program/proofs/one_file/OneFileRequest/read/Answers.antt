use Rattle.ta_program.specs.Values.{limits_of}
use Rattle.ta_program.proofs.Common.{map, Some, one_file_meaning, one_file_words}
use Rattle.ta_program.specs.declared.one_file.OneFile.{OneFile}
use Rattle.ta_program.specs.Taken.{file_seen}
use Rattle.ta_program.proofs.Meanings.{asked_for}
use Rattle.ta_program.proofs.OneFileMeanings.{one_file_decides, one_file_passes}
use Rattle.ta_program.proofs.one_file.OneFileRequest.read.Goals as goal

pub returns : goal.returns
returns g c =
    asked_for (λ (command : OneFile g.row.C.Denot). file_seen command.asked) (λ asked. Some (asked.file, limits_of asked.wide))
    (one_file_meaning g.C.OfOneFile.text)
    (one_file_decides g.C.OfOneFile.text) (one_file_passes g.C.OfOneFile.text)
    c.read_one_file.result (one_file_words (map (λ w. w.now) c.args.words.now)) c.read_one_file.ensures
