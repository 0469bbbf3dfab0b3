use Rattle.ta_meaning.proofs.SmallForms.{minus_answers}
use Rattle.ta_meaning.proofs.forms.minus.Goals as goal

pub returns : goal.returns
returns c = minus_answers c.plus.result c.args.a.now c.args.b.now c.in_ok-negative.negative c.in_ok-negative.ensures c.plus.ensures
