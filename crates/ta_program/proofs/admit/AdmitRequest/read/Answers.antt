use Rattle.ta_base.specs.LimitRows.{narrow}
use Rattle.ta_program.proofs.Common.{map, Some, admit_meaning, admit_words}
use Rattle.ta_program.specs.declared.admit.Admit.{Admit}
use Rattle.ta_program.specs.AdmitSeen.{admit_seen}
use Rattle.ta_program.proofs.Meanings.{asked_for}
use Rattle.ta_program.proofs.WordMeanings.{admit_decides, admit_passes}
use Rattle.ta_program.proofs.admit.AdmitRequest.read.Goals as goal

pub returns : goal.returns
returns c =
    asked_for (λ (command : Admit). admit_seen command.asked command.values.now) (λ all. Some (all.asked.file, narrow)) admit_meaning admit_decides admit_passes
    c.read_admit.result (admit_words (map (λ w. w.now) c.args.words.now)) c.read_admit.ensures
