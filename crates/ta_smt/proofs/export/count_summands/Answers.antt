use Rattle.ta_smt.proofs.Common.{◌≡◌, ◌∙◌, ap, rules, FitsSigned, to_z-of_z, w128, part}
use Rattle.ta_smt.proofs.Written.{side_counted, terms_count}
use Rattle.ta_smt.proofs.export.count_summands.Goals as goal

pub returns : goal.returns
returns c =
    let form = c.args.form.now in
    let fits : FitsSigned w128 form.constant = search rules in
    let is : c.part.result ≡ part c.args.side form.constant = c.part.ensures ∙ ap (part c.args.side) (to_z-of_z w128 form.constant fits) in
    side_counted c.args.side form c.part.result c.count_terms-count.result c.count_of.result is
    (c.count_terms-count.ensures.count ∙ ap (terms_count c.args.side) c.as_slice.ensures) c.count_of.ensures.number
