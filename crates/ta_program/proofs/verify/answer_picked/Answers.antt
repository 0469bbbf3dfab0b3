use Rattle.ta_program.proofs.Common.{[], refl, subst, sym, Answer, IsPick, PickHinders, Refusal, Result, Says, finds_then, may_put, picked_meaning}
use Rattle.ta_program.proofs.Common.{report_meaning, result_seen}
use Rattle.ta_program.specs.Asking.{verify_seen}
use Rattle.ta_program.proofs.Certifying.{none_staged, unread_seen, unread_staged}
use Rattle.ta_program.proofs.PatternPicks.{pick_cause, pick_refused}
use Rattle.ta_program.proofs.verify.answer_picked.Goals as goal

pub returns-in-Ok-clause-says : goal.returns-in-Ok-clause-says
returns-in-Ok-clause-says g c = λ files.
    let asked = verify_seen c.args.asked.now in
    let file = c.args.scoped.now.file in
    let so = c.answer_report.ensures.says files in
    record {
      lost = so.lost;
      says = finds_then (IsPick file asked.pattern) (PickHinders asked.file file asked.pattern) (may_put asked.out) (report_meaning asked file) files
          c.in-Ok.pick
          (result_seen g.S.Shelf.stage_bytes so.lost c.answer_report.result) _ c.in-Ok.ensures.pick (λ w. refl) so.says;
    }

pub returns-in-Err-clause-says : goal.returns-in-Err-clause-says
returns-in-Err-clause-says g c = λ files.
    let asked = verify_seen c.args.asked.now in
    let file = c.args.scoped.now.file in
    let cause = pick_cause Answer asked.file file asked.pattern c.in-Err.refusal 0 c.in-Err.ensures.refusal in
    record {
      lost = [];
      says = subst (λ (seen : Result Answer Refusal). Says (picked_meaning asked file) files seen [])
          (sym (unread_seen Answer g.S.Shelf.stage_bytes [] c.in-Err.refusal 0 0 cause))
          (pick_refused asked.file file asked.pattern (may_put asked.out) (report_meaning asked file) files c.in-Err.refusal c.in-Err.ensures.refusal);
    }

pub returns-in-Err-clause-staged : goal.returns-in-Err-clause-staged
returns-in-Err-clause-staged g c =
    let asked = verify_seen c.args.asked.now in
    none_staged _ _ (unread_staged Answer _ g.S.Shelf.stage_name g.S.Shelf.stage_bytes c.in-Err.refusal _ _
    (pick_cause Answer asked.file c.args.scoped.now.file asked.pattern c.in-Err.refusal (g.S.Shelf.faults c.args.shelf.now) c.in-Err.ensures.refusal))
