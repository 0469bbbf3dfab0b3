use Rattle.ta_shelf.proofs.ShellCommon.{◌≡◌, ◌∷◌, [], sym, rules}
use Rattle.ta_shelf.proofs.StagedMore.{log_whole, settles_whole}
use Rattle.ta_shelf.proofs.staged_end.answer_staged.Goals as goal

pub returns-in-Some-clause-settles : goal.returns-in-Some-clause-settles
returns-in-Some-clause-settles g c = λ begun written h. settles_whole _ _ begun c.args.file _ written h c.args.number c.args.text c.args.name.now
    c.output_of.result _ c.in-Some.is c.output_of.ensures

pub returns-in-Some-clause-staged : goal.returns-in-Some-clause-staged
returns-in-Some-clause-staged g c = λ begun written called h. log_whole _ _ begun c.args.file _ written h (c.args.name.now ∷ []) c.args.number c.args.text
    c.args.name.now c.output_of.result _ called c.in-Some.is c.output_of.ensures

pub returns-in-None-clause-settles : goal.returns-in-None-clause-settles
returns-in-None-clause-settles g c = λ begun written h. c.let_long_go.ensures.settles c.args.number c.args.text written begun h
