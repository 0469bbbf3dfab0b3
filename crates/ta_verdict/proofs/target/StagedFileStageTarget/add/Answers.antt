use Rattle.ta_verdict.proofs.Common.{◌∙◌, ◌++◌, List, ℕ, ap, concat, subst, StagedOr}
use Rattle.ta_shelf.proofs.StagedMore.{in_part}
use Rattle.ta_verdict.proofs.JudgedSoFar.{err_any}
use Rattle.ta_verdict.proofs.TargetsMade.{adds_or, stops_or}
use Rattle.ta_verdict.proofs.target.StagedFileStageTarget.add.Goals as goal

pub returns-in_err-lines-clause-stops : goal.returns-in_err-lines-clause-stops
returns-in_err-lines-clause-stops g c = λ begun text h. err_any _ _ (in_part _ _ begun c.args.self.now _ text h)

pub returns-clause-added : goal.returns-clause-added
returns-clause-added g c = λ begun text more h lines.
    let same = ap concat c.as_slice.ensures ∙ c.in_ok-lines.ensures.text c.requires more lines in
    adds_or g.S.Shelf.stage_name g.S.Shelf.stage_bytes begun c.add_texts_to_file.new.file _ (text ++ more) c.add_texts_to_file.result
    (subst (λ (t : List ℕ). StagedOr g.S.Shelf.stage_name g.S.Shelf.stage_bytes begun c.add_texts_to_file.result c.add_texts_to_file.new.file
    (record {
      files = g.S.Shelf.files c.add_texts_to_file.new.shelf;
      calls = g.S.Shelf.calls c.add_texts_to_file.new.shelf;
      faults = g.S.Shelf.faults
          c.add_texts_to_file.new.shelf;
    }) (text ++ t)) same
    (c.add_texts_to_file.ensures begun text h))

pub returns-clause-stops : goal.returns-clause-stops
returns-clause-stops g c = λ begun text h.
    stops_or g.S.Shelf.stage_name g.S.Shelf.stage_bytes begun c.add_texts_to_file.new.file _ _ c.add_texts_to_file.result
    (c.add_texts_to_file.ensures begun text h)
