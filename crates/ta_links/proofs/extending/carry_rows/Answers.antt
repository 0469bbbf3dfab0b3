use Rattle.ta_links.proofs.Common.{◌≡◌, sym, subst, arith, get_or_read, IsKept, kept_at, no_pivot}
use Rattle.ta_links.proofs.ExtendedRows.{carrying_none, carrying_more, carrying_refused}
use Rattle.ta_links.proofs.extending.carry_rows.Goals as goal

pub loop-pivot-init : goal.loop-pivot-init
loop-pivot-init c = carrying_none c.args.columns c.args.first c.args.count c.args.kept.now c.args.heads.now.items c.args.links.now c.requires.room
    c.requires.empty

pub carry_through-requires-clause-kept : goal.carry_through-requires-clause-kept
carry_through-requires-clause-kept c =
    let is : c.index-kept-pivot.result ≡ kept_at c.args.kept.now c.loop-pivot.pivot = get_or_read c.args.kept.now c.loop-pivot.pivot c.index-kept-pivot.result
    (omega arith) c.index-kept-pivot.is no_pivot in
    subst (IsKept c.args.columns) (sym is) (c.requires.kept c.loop-pivot.pivot (omega arith))

pub returns-in-Some-clause-refused : goal.returns-in-Some-clause-refused
returns-in-Some-clause-refused c =
    let ks = c.args.kept.now in
    let is : c.index-kept-pivot.result ≡ kept_at c.args.kept.now c.loop-pivot.pivot = get_or_read c.args.kept.now c.loop-pivot.pivot c.index-kept-pivot.result
    (omega arith) c.index-kept-pivot.is no_pivot in
    carrying_refused c.args.columns c.args.first c.args.count ks c.loop-pivot.pivot c.index-kept-pivot.result c.args.heads.now.items c.loop-pivot.heads.items
    c.args.links.now c.loop-pivot.links c.in-Some.row is c.loop-pivot.invariant (rw c.in-Some.is at c.in_ok-row.ensures.refused)

pub loop-pivot-preserved : goal.loop-pivot-preserved
loop-pivot-preserved c =
    let ks = c.args.kept.now in
    let is : c.index-kept-pivot.result ≡ kept_at c.args.kept.now c.loop-pivot.pivot = get_or_read c.args.kept.now c.loop-pivot.pivot c.index-kept-pivot.result
    (omega arith) c.index-kept-pivot.is no_pivot in
    carrying_more c.args.columns c.args.first c.args.count ks c.loop-pivot.pivot c.index-kept-pivot.result c.args.heads.now.items c.loop-pivot.heads.items
    c.carry_through.new.heads.items c.args.links.now c.loop-pivot.links c.carry_through.new.links is c.loop-pivot.invariant
    (rw c.in_default.is at c.in_ok-row.ensures.done)
