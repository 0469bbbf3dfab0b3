use Rattle.ta_program.proofs.Common.{map, names_seen, two_names}
use Rattle.ta_program.specs.declared.two_files.TwoFiles.{TwoFiles}
use Rattle.ta_program.proofs.Meanings.{asked_where}
use Rattle.ta_program.proofs.two_files.TwoFilesRequest.read.Goals as goal

pub returns : goal.returns
returns g c =
    asked_where (λ (command : TwoFiles g.row.C.Denot). names_seen command.names) g.C.OfTwoFiles.legal g.C.OfTwoFiles.stated
    c.is_determined.ensures.decides c.is_determined.ensures.passes
    c.read_two_files.result (two_names (map (λ w. w.now) c.args.words.now)) c.read_two_files.ensures
