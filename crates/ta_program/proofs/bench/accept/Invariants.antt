use Rattle.ta_base.specs.LimitRows.{narrow}
use Rattle.ta_program.proofs.Common.{◌≡◌, take, CheckerStandsFor, subject_of, claiming, concat}
use Rattle.ta_rest.specs.declared.claim.Claim.TheVariants.{Safe}
use Rattle.ta_program.proofs.bench.accept.Given as goal

-- the checker stands for the pieces so far
abbrev pub invariant-loop-piece : goal.invariant-loop-piece
invariant-loop-piece l = record {
  stands : CheckerStandsFor l.checker (concat (take l.piece-index l.pieces));
  subject : subject_of l.checker ≡ claiming Safe l.scoped.file narrow.line_bytes;
}
