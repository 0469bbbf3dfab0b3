use Rattle.ta_syntax.proofs.Common.{sym, ◌∙◌}
use Rattle.ta_syntax.proofs.items.next_relation.Goals as goal

pub returns : goal.returns
returns c = record { first = c.in-Some.first.now; split = c.in-Some.ensures.cases.0; is = c.in-Fixed.is ∙ sym c.in-Some-relation_of.ensures }
