use Rattle.ta_syntax.proofs.Common.{arith, ◌≡◌, ◌<◌, length, ap, err_is}
use Rattle.ta_syntax.proofs.ListSteps.{list_begins, list_past, list_stops, list_goes_on, list_ends}
use Rattle.ta_syntax.proofs.Steps.{step_shorter}
use Rattle.ta_syntax.proofs.lists.read_list.Goals as goal

pub items-init : goal.items-init
items-init g c = rw c.new-items.ensures.items (list_begins g.T.Item.grammar g.T.Item.spelled g.T.Item.stated c.args.limit c.args.tokens.now)

pub returns-then-len-limit : goal.returns-then-len-limit
returns-then-len-limit g c =
    let full : length c.items.items.items ≡ c.args.limit = omega arith in
    list_past g.T.Item.grammar g.T.Item.spelled g.T.Item.stated c.args.limit c.args.tokens.now c.args.end c.items.items.items c.items.rest.now
    c.past_limit.result
    full c.items.invariant c.past_limit.ensures

pub returns-in_err-item : goal.returns-in_err-item
returns-in_err-item g c =
    let more : length c.items.items.items < c.args.limit = omega (arith, c.items.invariant.few) in
    rw (err_is c.from_residual.result _ c.from_residual.ensures.1)
    (list_stops g.T.Item.grammar g.T.Item.spelled g.T.Item.stated c.args.limit c.args.tokens.now c.args.end c.items.items.items c.items.rest.now
    c.in_err-item.field-0.0 more c.items.invariant c.in_err-item.ensures)

pub returns-in_default : goal.returns-in_default
returns-in_default g c =
    let more : length c.items.items.items < c.args.limit = omega (arith, c.items.invariant.few) in
    rw c.in_ok-push.ensures.items (list_ends g.T.Item.grammar g.T.Item.spelled g.T.Item.stated c.args.limit c.args.tokens.now c.items.items.items
    c.in_ok-item.item
    c.items.rest.now c.in_ok-item.after.now more c.items.invariant c.in_ok-item.ensures c.in_default.ensures)

pub items-preserved : goal.items-preserved
items-preserved g c =
    let more : length c.items.items.items < c.args.limit = omega (arith, c.items.invariant.few) in
    rw c.in_ok-push.ensures.items (list_goes_on g.T.Item.grammar g.T.Item.spelled g.T.Item.stated c.args.limit c.args.tokens.now c.items.items.items
    c.in_ok-item.item c.items.rest.now c.in_ok-item.after.now c.in-Some.after_comma.now more c.items.invariant c.in_ok-item.ensures c.in-Some.ensures)

pub items-smaller : goal.items-smaller
items-smaller g c = omega (arith, step_shorter c.in_ok-item.ensures, ap length c.in-Some.ensures.split)
