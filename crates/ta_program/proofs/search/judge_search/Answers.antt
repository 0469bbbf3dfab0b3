use Rattle.ta_program.specs.Values.{limits_of}
use Rattle.ta_program.proofs.Common.{arith, refl, Template, found_meaning, found_names, grew_kept, grew_spared, template_kind, search_seen}
use Rattle.ta_program.proofs.SearchMeanings.{found_monotone}
use Rattle.ta_program.proofs.search.judge_search.Goals as goal

pub returns-in-Ok-clause-says : goal.returns-in-Ok-clause-says
returns-in-Ok-clause-says g c =
    let asked = search_seen c.args.asked.now in
    let files = g.S.Shelf.files c.args.shelf.now in
    grew_spared (template_kind (limits_of asked.wide)) (λ (t : Template). t) files asked.file (found_names asked) (found_meaning asked) (found_monotone asked)
    (λ v. refl)
    c.in-Ok.template c.answer_search.result _ _
    (rw c.may_put.ensures at c.in-Ok.ensures.stage) (c.answer_search.ensures.says files)

pub returns-in-Err-clause-says : goal.returns-in-Err-clause-says
returns-in-Err-clause-says g c =
    let asked = search_seen c.args.asked.now in
    grew_kept (template_kind (limits_of asked.wide)) (λ (t : Template). t) (g.S.Shelf.files c.args.shelf.now) asked.file (found_names asked)
    (found_meaning asked)
    (omega arith)
    (omega arith) c.in-Err.refusal _ _
    (rw c.may_put.ensures at c.in-Err.ensures.stage)
