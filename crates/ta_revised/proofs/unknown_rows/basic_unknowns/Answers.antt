use Rattle.ta_revised.proofs.Common.{arith}
use Rattle.ta_revised.proofs.BasicLists.{listed_all, listed_more, listed_none}
use Rattle.ta_revised.proofs.unknown_rows.basic_unknowns.Goals as goal

pub loop-at-init : goal.loop-at-init
loop-at-init c = rw c.in_ok-list.ensures.items (listed_none c.args.rows.now)

pub loop-at-preserved : goal.loop-at-preserved
loop-at-preserved c =
    listed_more c.loop-at.list.items c.list_basic.new.list.items c.args.rows.now c.loop-at.at c.index-rows-at.result _ (omega arith) c.index-rows-at.is
    c.in_ok-list_basic.ensures c.loop-at.invariant

pub returns : goal.returns
returns c = listed_all c.loop-at.list.items c.args.rows.now c.loop-at.at (omega arith) c.loop-at.invariant
