use Rattle.ta_check.proofs.Common.{sym, ◌∙◌, false≢true, not-true, none_of, false_from_ne_true, not_from_false}
use Rattle.ta_check.proofs.JudgingHeads.{free_from, free_back}
use Rattle.ta_check.proofs.position.Position.is_free.Goals as goal

pub returns-else-self-ne2 : goal.returns-else-self-ne2
returns-else-self-ne2 c = λ subject at is. (
  λ some. free_from subject c.args.self.now at is (none_of c.args.self.now.waiting (sym c.is_some.ensures ∙ c.if-is_some.false))
      (none_of c.args.self.now.current (sym c.is_some-else-is_some.ensures ∙ c.if-is_some-2.false))
      (λ two empty. false≢true (sym (not-true c.is_empty.result some) ∙ c.is_empty.ensures.1 empty)),
  λ free. not_from_false c.is_empty.result
      (false_from_ne_true c.is_empty.result (λ empty. (free_back subject c.args.self.now at is free).some c.if-self-ne2.false (c.is_empty.ensures.0 empty))),
)
