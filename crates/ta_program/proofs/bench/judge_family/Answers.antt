use Rattle.ta_program.proofs.Common.{refl}
use Rattle.ta_meaning.proofs.FileLimits.{legal_within}
use Rattle.ta_base.specs.LimitRows.{narrow}
use Rattle.ta_program.proofs.bench.judge_family.Goals as goal

-- a certificate is wanted
pub answer_judged-answer-requires-clause-certificate : goal.answer_judged-answer-requires-clause-certificate
answer_judged-answer-requires-clause-certificate g c = c.in_ok-judged.ensures.certificate refl

pub answer_judged-answer-requires-clause-accepted : goal.answer_judged-answer-requires-clause-accepted
answer_judged-answer-requires-clause-accepted g c = c.in_ok-judged.ensures.accepted narrow (legal_within narrow _ _ c.requires.legal) refl
