use Rattle.ta_program.proofs.Common.{◌≡◌, ◌∙◌, ap, option_map, refl, Some, None, Begun}
use Rattle.ta_program.specs.Asking.{verify_seen}
use Rattle.ta_program.proofs.Certifying.{kept_or, memory_says, none_staged, nowhere, picked_certified, picked_plain, plain_staged, refused_staged, staged_or}
use Rattle.ta_program.proofs.Certifying.{told_text}
use Rattle.ta_program.proofs.verify.answer_report.Goals as goal

pub returns-in-None-clause-says : goal.returns-in-None-clause-says
returns-in-None-clause-says g c = λ files.
    let asked = verify_seen c.args.asked.now in
    let none : asked.out ≡ None = ap (option_map (λ w. w.now)) c.in-None.is in
    picked_plain asked c.args.scoped.now.file c.args.pick _ g.S.Shelf.stage_bytes c.report_to.result c.answer_plain.result none
    (c.report_to.ensures.reports nowhere c.new-none.ensures.text) c.answer_plain.ensures files

pub returns-in-None-clause-staged : goal.returns-in-None-clause-staged
returns-in-None-clause-staged g c =
    rw c.in-None.is (none_staged _ _
    (plain_staged g.S.Shelf.stage_name g.S.Shelf.stage_bytes c.report_to.result c.answer_plain.result _ c.answer_plain.ensures))

pub returns-in-Ok-clause-says : goal.returns-in-Ok-clause-says
returns-in-Ok-clause-says g c = λ files.
    let asked = verify_seen c.args.asked.now in
    let name = c.in-Some.name.now in
    let begun : Begun = record {
      name = name;
      before = record
          { files = g.S.Shelf.files c.args.shelf.now; calls = g.S.Shelf.calls c.args.shelf.now; faults = g.S.Shelf.faults c.args.shelf.now };
    } in
    let given : asked.out ≡ Some name = ap (option_map (λ w. w.now)) c.in-Some.is in
    picked_certified asked c.args.scoped.now.file c.args.pick _ name g.S.Shelf.stage_bytes c.report_to-report.result c.answer_certified.result given
    (c.report_to-report.ensures.reports begun c.in-Ok.ensures.begun)
    (λ written done. c.answer_certified.ensures.certified begun written refl done) files

pub returns-in-Ok-clause-staged : goal.returns-in-Ok-clause-staged
returns-in-Ok-clause-staged g c =
    let begun : Begun = record {
      name = c.in-Some.name.now;
      before = record
          { files = g.S.Shelf.files c.args.shelf.now; calls = g.S.Shelf.calls c.args.shelf.now; faults = g.S.Shelf.faults c.args.shelf.now };
    } in
    let to = c.report_to-report.ensures.reports begun c.in-Ok.ensures.begun in
    let so = staged_or g.S.Shelf.stage_name g.S.Shelf.stage_bytes begun c.report_to-report.result c.report_to-report.new.target _
    (told_text (verify_seen c.args.asked.now) c.args.scoped.now.file c.args.pick _ c.report_to-report.result to)
    (c.report_to-report.ensures.stops begun c.in-Ok.ensures.begun) in
    rw c.in-Some.is (c.answer_certified.ensures.staged begun so.0 refl so.1)

pub returns-in-Ok-clause-kept : goal.returns-in-Ok-clause-kept
returns-in-Ok-clause-kept g c =
    let begun : Begun = record {
      name = c.in-Some.name.now;
      before = record
          { files = g.S.Shelf.files c.args.shelf.now; calls = g.S.Shelf.calls c.args.shelf.now; faults = g.S.Shelf.faults c.args.shelf.now };
    } in
    let to = c.report_to-report.ensures.reports begun c.in-Ok.ensures.begun in
    let so = staged_or g.S.Shelf.stage_name g.S.Shelf.stage_bytes begun c.report_to-report.result c.report_to-report.new.target _
    (told_text (verify_seen c.args.asked.now) c.args.scoped.now.file c.args.pick _ c.report_to-report.result to)
    (c.report_to-report.ensures.stops begun c.in-Ok.ensures.begun) in
    c.answer_certified.ensures.kept ∙ kept_or g.S.Shelf.stage_name g.S.Shelf.stage_bytes begun c.report_to-report.result c.report_to-report.new.target _ so.0
    so.1

pub returns-in-Err-clause-says : goal.returns-in-Err-clause-says
returns-in-Err-clause-says g c = λ files. rw c.in-Some.is (memory_says _ _ _ g.S.Shelf.stage_bytes files)

pub returns-in-Err-clause-staged : goal.returns-in-Err-clause-staged
returns-in-Err-clause-staged g c = rw c.in-Some.is
    (refused_staged c.in-Some.name.now g.S.Shelf.stage_name g.S.Shelf.stage_bytes _ _ _ _ c.in-Err.ensures.refused c.in-Err.ensures.calm)
