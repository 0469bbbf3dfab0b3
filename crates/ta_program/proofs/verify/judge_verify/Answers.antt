use Rattle.ta_program.specs.Values.{limits_of}
use Rattle.ta_program.proofs.Common.{[], ℕ, sym, arith, refl, subst, Changed, StagedBy, ScopedFile, Grew, Says, Result, Answer, Refusal}
use Rattle.ta_program.proofs.Common.{grew_kept, grew_spared, may_put, file_kind, picked_meaning, verify_meaning, result_seen}
use Rattle.ta_program.specs.Asking.{verify_seen}
use Rattle.ta_program.proofs.Certifying.{none_staged, unread_seen, unread_staged}
use Rattle.ta_program.proofs.Meanings.{picked_monotone}
use Rattle.ta_program.proofs.verify.judge_verify.Goals as goal

pub returns-in-Ok-clause-says : goal.returns-in-Ok-clause-says
returns-in-Ok-clause-says g c =
    let asked = verify_seen c.args.asked.now in
    let files = g.S.Shelf.files c.args.shelf.now in
    let so = c.answer_picked-answer.ensures.says files in
    record {
      lost = so.lost;
      middle = _;
      says = grew_spared (file_kind (limits_of asked.wide)) (λ (s : ScopedFile). s.file) files asked.file (may_put asked.out) (picked_meaning asked)
          (picked_monotone asked) (λ v. refl)
          c.in-Ok.scoped (result_seen g.S.Shelf.stage_bytes so.lost c.answer_picked-answer.result) _ _
          (rw c.one.ensures at c.in-Ok.ensures.stage) so.says;
      staged = subst (λ (n : ℕ). Changed
          (StagedBy (may_put asked.out) g.S.Shelf.stage_name g.S.Shelf.stage_bytes c.answer_picked-answer.result n
          (g.S.Shelf.faults c.answer_picked-answer.new.shelf))
          (g.S.Shelf.calls c.read_spared.new.shelf) (g.S.Shelf.calls c.answer_picked-answer.new.shelf)) c.in-Ok.ensures.cause
          c.answer_picked-answer.ensures.staged;
    }

pub returns-in-Err-clause-says : goal.returns-in-Err-clause-says
returns-in-Err-clause-says g c =
    let asked = verify_seen c.args.asked.now in
    let files = g.S.Shelf.files c.args.shelf.now in
    let m = verify_meaning asked in
    record {
      lost = [];
      middle = _;
      says = subst (λ (seen : Result Answer Refusal). Grew (Says m files seen) (g.S.Shelf.calls c.args.shelf.now) (g.S.Shelf.calls c.read_spared.new.shelf))
          (sym (unread_seen ScopedFile g.S.Shelf.stage_bytes [] c.in-Err.refusal _ _ c.in-Err.ensures.cause))
          (grew_kept (file_kind (limits_of asked.wide)) (λ (s : ScopedFile). s.file) files asked.file (may_put asked.out) (picked_meaning asked) (omega arith)
          (omega arith)
          c.in-Err.refusal _ _ (rw c.one.ensures at c.in-Err.ensures.stage));
      staged = none_staged _ _ (unread_staged ScopedFile m.puts g.S.Shelf.stage_name g.S.Shelf.stage_bytes c.in-Err.refusal _ _ c.in-Err.ensures.cause);
    }
