use Rattle.ta_program.proofs.Common.{
  [],
  refl,
  subst,
  sym,
  Answer,
  IsPick,
  PickHinders,
  Refusal,
  Result,
  Says,
  ends_of,
  finds_then,
  may_put,
  rest_picked,
  rest_report_meaning,
  resting,
  result_seen,
}
use Rattle.ta_program.specs.RestSeen.{rest_seen}
use Rattle.ta_program.proofs.Certifying.{none_staged, unread_seen, unread_staged}
use Rattle.ta_program.proofs.PatternPicks.{pick_cause, pick_refused}
use Rattle.ta_program.proofs.Resting.{own_pick, own_refused}
use Rattle.ta_program.proofs.rest.answer_picked.Goals as goal

pub returns-in-Ok-clause-says : goal.returns-in-Ok-clause-says
returns-in-Ok-clause-says g c = λ files file ends.
    let asked = rest_seen c.args.asked.now in
    let rest = c.args.rest.now in
    let is = own_pick file rest.ending.file rest.added ends asked.verify.pattern c.in-Ok.pick c.in-Ok.ensures.pick in
    let so = c.answer_rest.ensures.says files file ends in
    record {
      lost = so.lost;
      says = finds_then (IsPick file asked.verify.pattern) (PickHinders asked.verify.file file asked.verify.pattern) (may_put asked.verify.out)
          (rest_report_meaning asked file (ends_of rest) (resting asked.verify.budget c.args.silent.now)) files c.in-Ok.pick
          (result_seen g.S.Shelf.stage_bytes so.lost c.answer_rest.result) _ is (λ w. refl) so.says;
    }

pub returns-in-Err-clause-says : goal.returns-in-Err-clause-says
returns-in-Err-clause-says g c = λ files file ends.
    let asked = rest_seen c.args.asked.now in
    let rest = c.args.rest.now in
    let refused = own_refused file rest.ending.file rest.added ends asked.verify.file asked.verify.pattern c.in-Err.refusal c.in-Err.ensures.refusal in
    let cause = pick_cause Answer asked.verify.file file asked.verify.pattern c.in-Err.refusal 0 refused in
    record {
      lost = [];
      says = subst (λ (seen : Result Answer Refusal). Says (rest_picked asked file (ends_of rest) (resting asked.verify.budget c.args.silent.now)) files
          seen []) (sym (unread_seen Answer g.S.Shelf.stage_bytes [] c.in-Err.refusal 0 0 cause))
          (pick_refused asked.verify.file file asked.verify.pattern (may_put asked.verify.out)
          (rest_report_meaning asked file (ends_of rest) (resting asked.verify.budget c.args.silent.now)) files c.in-Err.refusal refused);
    }

pub returns-in-Err-clause-staged : goal.returns-in-Err-clause-staged
returns-in-Err-clause-staged g c =
    let asked = rest_seen c.args.asked.now in
    none_staged _ _ (unread_staged Answer _ g.S.Shelf.stage_name g.S.Shelf.stage_bytes c.in-Err.refusal _ _
    (pick_cause Answer asked.verify.file c.args.rest.now.ending.file asked.verify.pattern c.in-Err.refusal (g.S.Shelf.faults c.args.shelf.now)
    c.in-Err.ensures.refusal))
