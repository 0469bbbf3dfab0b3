use Rattle.ta_dense.proofs.Common.{◌∙◌, ap, map, take_all, raised}
use Rattle.ta_dense.proofs.Mapped.{mapped_more}
use Rattle.ta_dense.proofs.extending.raised_old.Goals as goal

pub loop-variable-preserved : goal.loop-variable-preserved
loop-variable-preserved c =
    mapped_more (raised c.args.unknowns c.args.new) c.args.non_basic.now c.loop-variable.variable-index 0 c.raised_variable.result
    c.loop-variable.columns.items c.push.new.self.items c.loop-variable-test.true c.raised_variable.ensures c.loop-variable.invariant c.in_ok-push.ensures.items

pub returns : goal.returns
returns c =
    c.loop-variable.invariant
    ∙ ap (map (raised c.args.unknowns c.args.new)) (take_all c.loop-variable.variable-index c.args.non_basic.now c.loop-variable-test.false)
