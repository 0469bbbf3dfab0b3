use Rattle.ta_program.proofs.Certifying.{certifies_of, no_answer_seen}
use Rattle.ta_program.proofs.certified.answer_certified.Goals as goal

pub returns-in-Ok-clause-certified : goal.returns-in-Ok-clause-certified
returns-in-Ok-clause-certified g c = λ begun written called. rw c.in-Ok.is
    (λ so_far. certifies_of g.S.Shelf.stage_bytes _ _ c.args.name.now written c.answer_staged.result (c.answer_staged.ensures.settles begun written so_far))

pub returns-in-Ok-clause-staged : goal.returns-in-Ok-clause-staged
returns-in-Ok-clause-staged g c = λ begun written called. rw c.in-Ok.is (λ so_far. c.answer_staged.ensures.staged begun written called so_far)

pub returns-in-Err-clause-certified : goal.returns-in-Err-clause-certified
returns-in-Err-clause-certified g c = λ begun written called. rw c.in-Err.is
    (λ so_far. no_answer_seen g.S.Shelf.stage_bytes written c.let_go.result c.let_go.ensures.no_answer)

pub returns-in-Err-clause-staged : goal.returns-in-Err-clause-staged
returns-in-Err-clause-staged g c = λ begun written called. rw c.in-Err.is (λ in_part. c.let_go.ensures.staged begun called in_part)
