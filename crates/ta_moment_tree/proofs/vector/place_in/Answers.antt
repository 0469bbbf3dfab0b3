use Rattle.ta_moment_tree.proofs.Common.{◌+◌, ◌∙◌, ap, drop_of_length-le}
use Rattle.ta_moments.specs.Moments.{fresh}
use Rattle.ta_moment_tree.proofs.Vectors.{fresh_at_place, fresh_next, fresh_none}
use Rattle.ta_moment_tree.proofs.vector.place_in.Goals as goal

pub loop-number-preserved : goal.loop-number-preserved
loop-number-preserved c first other = c.loop-number.invariant first other
    ∙ fresh_next first c.args.rules.now other c.args.rule c.loop-number.number c.loop-number-test.true c.if-other-rule.false

pub returns-then-other-rule-clause-some : goal.returns-then-other-rule-clause-some
returns-then-other-rule-clause-some c first other = c.loop-number.invariant first other
    ∙ fresh_at_place first c.args.rules.now other c.args.rule c.loop-number.number c.loop-number-test.true c.if-other-rule.true

pub returns-clause-none : goal.returns-clause-none
returns-clause-none c first other =
    c.loop-number.invariant first other ∙ ap (λ rest. fresh (first + c.loop-number.number) rest other c.args.rule)
    (drop_of_length-le c.args.rules.now c.loop-number-test.false) ∙ fresh_none (first + c.loop-number.number) other c.args.rule
