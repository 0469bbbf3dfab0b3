use Rattle.ta_shelf.proofs.ShellCommon.{◌∙◌, ℕ, Err, subst, SettledCause}
use Rattle.ta_shelf.proofs.StagedPut.{halted, published, unasked, unasked_cause, unstaged, wrote_cause}
use Rattle.ta_shelf.proofs.putting.put_staged.Goals as goal

pub returns-in-Unasked-clause-settled : goal.returns-in-Unasked-clause-settled
returns-in-Unasked-clause-settled g c = λ lost first faults. rw c.in-Unasked.is
    (λ staged. unasked g.S.Shelf.stage_name g.S.Shelf.stage_bytes c.args.text.now _ _ _ first faults c.write_text.result _ _ staged c.write_text.ensures)

pub returns-in-Unasked-clause-cause : goal.returns-in-Unasked-clause-cause
returns-in-Unasked-clause-cause g c = λ first faults. rw c.in-Unasked.is
    (λ staged. unasked_cause g.S.Shelf.stage_name g.S.Shelf.stage_bytes c.args.text.now (g.S.Shelf.files c.args.shelf.now) _ _ first faults c.write_text.result
    _ _ staged c.write_text.ensures)

pub returns-in-Ok-clause-settled : goal.returns-in-Ok-clause-settled
returns-in-Ok-clause-settled g c = λ lost first faults. rw c.in-Staged.is
    (λ staged. published g.S.Shelf.stage_name g.S.Shelf.stage_bytes c.args.text.now _ _ _ first faults c.in-Staged.name c.in-Staged.stage _ _ staged
    c.publish.result _ _ c.in-Ok.ensures c.publish.ensures.published)

pub returns-in-Ok-clause-cause : goal.returns-in-Ok-clause-cause
returns-in-Ok-clause-cause g c = λ first faults.
    rw c.in-Staged.is (λ staged. subst (λ (n : ℕ). SettledCause c.publish.result n (g.S.Shelf.faults c.publish.new.shelf)) staged.such.2
    c.publish.ensures.cause)

pub returns-in-Err-clause-settled : goal.returns-in-Err-clause-settled
returns-in-Err-clause-settled g c = λ lost first faults.
    rw c.in-Staged.is (λ staged. rw c.abandon.ensures.kept
    (halted g.S.Shelf.stage_name g.S.Shelf.stage_bytes c.args.text.now _ _ _ first faults c.in-Staged.name c.in-Staged.stage _ _ staged c.in-Err.halt _ _
    staged.such.0 c.in-Err.ensures c.abandon.ensures.log))

pub returns-in-Err-clause-cause : goal.returns-in-Err-clause-cause
returns-in-Err-clause-cause g c = λ first faults.
    rw c.in-Staged.is (λ staged. wrote_cause (Err c.in-Err.halt) c.args.text.now _ _ faults _ c.in-Err.ensures (c.abandon.ensures.faults ∙ staged.such.2))

pub returns-in-Lost-clause-settled : goal.returns-in-Lost-clause-settled
returns-in-Lost-clause-settled g c = λ lost first faults. rw c.in-Lost.is
    (λ staged. unstaged g.S.Shelf.stage_name g.S.Shelf.stage_bytes c.args.text.now _ _ _ first faults c.in-Lost.name lost _ _ staged c.write_text-in-Lost.result
    c.write_text-in-Lost.ensures)

pub returns-in-Lost-clause-cause : goal.returns-in-Lost-clause-cause
returns-in-Lost-clause-cause g c = λ first faults. rw c.in-Lost.is (λ staged. staged.such.1)
