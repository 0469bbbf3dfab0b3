use Rattle.ta_witness.proofs.RestCommon.{bit_true}
use Rattle.ta_witness.proofs.Giving.{marked_own, plain_own}
use Rattle.ta_witness.proofs.rest_witnessing.own_run.Goals as goal

pub returns-then-has_pattern-clause-is : goal.returns-then-has_pattern-clause-is
returns-then-has_pattern-clause-is c = λ ends.
    let added = c.args.rest.now.added in
    let run = c.args.run in
    marked_own added run c.without_last.result ends (bit_true added run.pattern (c.has_pattern.ensures.0 c.if-has_pattern.true)) c.without_last.ensures.marked

pub returns-clause-is : goal.returns-clause-is
returns-clause-is c = λ ends. plain_own c.args.rest.now.added c.args.run c.has_pattern.result c.has_pattern.ensures c.if-has_pattern.false
