use Rattle.ta_syntax.proofs.Common.{arith, ◌≡◌, ◌<◌, length, ap, err_is}
use Rattle.ta_syntax.proofs.Steps.{step_shorter}
use Rattle.ta_syntax.proofs.ListSteps.{blocks_begin, blocks_past, blocks_stop, blocks_go_on, blocks_end}
use Rattle.ta_syntax.proofs.blocks.read_blocks.Goals as goal

pub turns-init : goal.turns-init
turns-init g c = rw c.new-items.ensures.items
    (blocks_begin c.args.mark (g.T.Block.grammar c.args.limits.now) g.T.Block.spelled g.T.Block.stated c.args.limit c.args.tokens.now)

pub returns-then-len-limit : goal.returns-then-len-limit
returns-then-len-limit g c =
    let full : length c.turns.items.items ≡ c.args.limit = omega arith in
    blocks_past c.args.mark (g.T.Block.grammar c.args.limits.now) g.T.Block.spelled g.T.Block.stated c.args.limit c.args.tokens.now c.args.end
    c.first_offset.result
    c.turns.items.items c.turns.rest.now c.in-Some.inner.now full c.turns.invariant c.in-Some.ensures c.first_offset.ensures

pub returns-in_err-block : goal.returns-in_err-block
returns-in_err-block g c =
    let more : length c.turns.items.items < c.args.limit = omega (arith, c.turns.invariant.few) in
    rw (err_is c.from_residual.result _ c.from_residual.ensures.1)
    (blocks_stop c.args.mark (g.T.Block.grammar c.args.limits.now) g.T.Block.spelled g.T.Block.stated c.args.limit c.args.tokens.now c.args.end
    c.turns.items.items c.turns.rest.now c.in-Some.inner.now c.in_err-block.field-0.0 more c.turns.invariant c.in-Some.ensures c.in_err-block.ensures)

pub turns-preserved : goal.turns-preserved
turns-preserved g c =
    let more : length c.turns.items.items < c.args.limit = omega (arith, c.turns.invariant.few) in
    rw c.in_ok-push.ensures.items (blocks_go_on c.args.mark (g.T.Block.grammar c.args.limits.now) g.T.Block.spelled g.T.Block.stated c.args.limit
    c.args.tokens.now
    c.turns.items.items c.in_ok-block.block c.turns.rest.now c.in-Some.inner.now c.in_ok-block.after.now more c.turns.invariant c.in-Some.ensures
    c.in_ok-block.ensures)

pub turns-smaller : goal.turns-smaller
turns-smaller g c = omega (arith, step_shorter c.in_ok-block.ensures, ap length c.in-Some.ensures.split)

pub returns : goal.returns
returns g c = blocks_end c.args.mark (g.T.Block.grammar c.args.limits.now) g.T.Block.spelled g.T.Block.stated c.args.limit c.args.tokens.now c.turns.items.items
    c.turns.rest.now c.turns.invariant c.in_default.ensures
