use Rattle.ta_program.proofs.Meanings.{compress_decides, compress_passes}
use Rattle.ta_program.proofs.compress.CompressOfTwoFiles.is_determined.Goals as goal

pub returns-clause-decides : goal.returns-clause-decides
returns-clause-decides c = compress_decides

pub returns-clause-passes : goal.returns-clause-passes
returns-clause-passes c = compress_passes
