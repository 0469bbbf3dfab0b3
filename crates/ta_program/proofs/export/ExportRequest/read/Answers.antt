use Rattle.ta_base.specs.LimitRows.{narrow}
use Rattle.ta_program.proofs.Common.{map, Some, export_meaning, export_words, asked_seen}
use Rattle.ta_program.specs.declared.export.Export.{Export}
use Rattle.ta_program.proofs.Meanings.{asked_for}
use Rattle.ta_program.proofs.WordMeanings.{export_decides, export_passes}
use Rattle.ta_program.proofs.export.ExportRequest.read.Goals as goal

pub returns : goal.returns
returns c =
    asked_for (λ (command : Export). asked_seen command.asked) (λ asked. Some (asked.file, narrow)) export_meaning export_decides export_passes
    c.read_export.result (export_words (map (λ w. w.now) c.args.words.now)) c.read_export.ensures
