use Rattle.ta_meaning.proofs.Common.{first_places, sum_faults, plain_sum}
use Rattle.ta_meaning.proofs.Answering.{judges-answer}
use Rattle.ta_meaning.proofs.ComparedForms.{sum_answers}
use Rattle.ta_meaning.proofs.conditions.resolve_sum.Goals as goal

pub returns : goal.returns
returns c =
    let s = first_places c.args.places.now.names c.args.allowed in
    sum_answers s (sum_faults s c.args.sum.now) (plain_sum c.args.sum.now) c.args.at c.in_ok-form.form c.small_form.result c.in_ok-form.ensures.0
    c.in_ok-form.ensures.1 (judges-answer _ _ c.small_form.result c.small_form.ensures)
