use Rattle.ta_program.proofs.Common.{
  [],
  refl,
  subst,
  sym,
  Answer,
  Refusal,
  Result,
  Says,
  finds,
  finds_then,
  may_put,
  rest_quietly,
  result_seen,
  CycleHinders,
  IsEnds,
  ends_of,
}
use Rattle.ta_program.specs.RestSeen.{rest_seen}
use Rattle.ta_program.proofs.Certifying.{none_staged, unread_seen, unread_staged}
use Rattle.ta_program.proofs.Resting.{ends_refused, refused_cause}
use Rattle.ta_program.proofs.rest.answer_scoped.Goals as goal

pub returns-in-Ok-clause-says : goal.returns-in-Ok-clause-says
returns-in-Ok-clause-says g c = λ files.
    let file = c.args.scoped.file in
    let asked = rest_seen c.args.asked.now in
    let ends = c.in-Ok.ensures.ends in
    let so = c.answer_quietly-answer.ensures.says files file ends.endings in
    record {
      lost = so.lost;
      says = finds_then (IsEnds file) (CycleHinders asked.verify.file file) (may_put asked.verify.out) (rest_quietly asked file) files (ends_of c.in-Ok.rest)
          (result_seen g.S.Shelf.stage_bytes so.lost c.answer_quietly-answer.result) _ ends (λ w. refl) so.says;
    }

pub returns-in-Err-clause-says : goal.returns-in-Err-clause-says
returns-in-Err-clause-says g c = λ files.
    let file = c.args.scoped.file in
    let asked = rest_seen c.args.asked.now in
    record {
      lost = [];
      says = subst (λ (seen : Result Answer Refusal). Says (finds (IsEnds file) (CycleHinders asked.verify.file file) (may_put asked.verify.out)
          (rest_quietly asked file)) files seen []) (sym (unread_seen Answer g.S.Shelf.stage_bytes [] c.in-Err.refusal 0 0
          (refused_cause Answer asked.verify.file file c.in-Err.refusal 0 c.in-Err.ensures.refusal)))
          (ends_refused asked.verify.file file (may_put asked.verify.out) (rest_quietly asked file) files c.in-Err.refusal c.in-Err.ensures.refusal);
    }

pub returns-in-Err-clause-staged : goal.returns-in-Err-clause-staged
returns-in-Err-clause-staged g c =
    none_staged _ _ (unread_staged Answer _ g.S.Shelf.stage_name g.S.Shelf.stage_bytes c.in-Err.refusal _ _
    (refused_cause Answer c.args.asked.now.file.now c.args.scoped.file c.in-Err.refusal (g.S.Shelf.faults c.args.shelf.now) c.in-Err.ensures.refusal))
