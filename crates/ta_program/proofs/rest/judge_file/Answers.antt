use Rattle.ta_program.specs.Values.{limits_of}
use Rattle.ta_program.proofs.Common.{
  [],
  ℕ,
  sym,
  arith,
  refl,
  subst,
  Answer,
  Changed,
  Grew,
  Refusal,
  Result,
  Says,
  StagedBy,
  ScopedFile,
  at_ends,
  grew_kept,
  grew_spared,
  may_put,
  file_kind,
  rest_meaning,
  rest_quietly,
  result_seen,
}
use Rattle.ta_program.specs.RestSeen.{rest_seen}
use Rattle.ta_program.proofs.Certifying.{none_staged, unread_seen, unread_staged}
use Rattle.ta_program.proofs.RestMeanings.{ends_monotone, rest_quietly_monotone}
use Rattle.ta_program.proofs.rest.judge_file.Goals as goal

pub returns-in-Ok-clause-says : goal.returns-in-Ok-clause-says
returns-in-Ok-clause-says g c =
    let asked = rest_seen c.args.asked.now in
    let puts = may_put asked.verify.out in
    let files = g.S.Shelf.files c.args.shelf.now in
    let so = c.answer_scoped.ensures.says files in
    record {
      lost = so.lost;
      middle = _;
      says = grew_spared (file_kind (limits_of asked.verify.wide)) (λ (s : ScopedFile). s.file) files asked.verify.file puts
          (at_ends asked.verify.file puts (rest_quietly asked))
          (ends_monotone (limits_of asked.verify.wide) asked.verify.file puts (rest_quietly asked) (rest_quietly_monotone asked)) (λ v. refl) c.in-Ok.scoped
          (result_seen g.S.Shelf.stage_bytes so.lost c.answer_scoped.result) _ _
          (rw c.one.ensures at c.in-Ok.ensures.stage) so.says;
      staged = subst (λ (n : ℕ). Changed
          (StagedBy puts g.S.Shelf.stage_name g.S.Shelf.stage_bytes c.answer_scoped.result n (g.S.Shelf.faults c.answer_scoped.new.shelf))
          (g.S.Shelf.calls c.read_spared.new.shelf) (g.S.Shelf.calls c.answer_scoped.new.shelf)) c.in-Ok.ensures.cause c.answer_scoped.ensures.staged;
    }

pub returns-in-Err-clause-says : goal.returns-in-Err-clause-says
returns-in-Err-clause-says g c =
    let asked = rest_seen c.args.asked.now in
    let puts = may_put asked.verify.out in
    let files = g.S.Shelf.files c.args.shelf.now in
    record {
      lost = [];
      middle = _;
      says = subst (λ (seen : Result Answer Refusal). Grew (Says (rest_meaning asked) files seen) (g.S.Shelf.calls c.args.shelf.now)
          (g.S.Shelf.calls c.read_spared.new.shelf)) (sym (unread_seen ScopedFile g.S.Shelf.stage_bytes [] c.in-Err.refusal _ _ c.in-Err.ensures.cause))
          (grew_kept (file_kind (limits_of asked.verify.wide)) (λ (s : ScopedFile). s.file) files asked.verify.file puts
          (at_ends asked.verify.file puts (rest_quietly asked)) (omega arith)
          (omega arith) c.in-Err.refusal _ _ (rw c.one.ensures at c.in-Err.ensures.stage));
      staged = none_staged _ _ (unread_staged ScopedFile puts g.S.Shelf.stage_name g.S.Shelf.stage_bytes c.in-Err.refusal _ _ c.in-Err.ensures.cause);
    }
