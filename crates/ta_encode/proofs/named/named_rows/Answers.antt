use Rattle.ta_encode.proofs.Common.{◌≡◌, ◌++◌, length, map, arith, refl, sym, subst, AllBelow, bound_row, row_number_at}
use Rattle.ta_encode.proofs.Naming.{names_none, names_more, names_all, names_absent}
use Rattle.ta_encode.proofs.named.named_rows.Goals as goal

pub loop-number-init : goal.loop-number-init
loop-number-init c = λ ls is. names_none (ls ++ map bound_row c.args.bounds.now) c.args.system.now.unknowns c.args.multipliers.now c.new-rows.result.items
    c.new-rows.ensures.items

pub returns-then-not-branch : goal.returns-then-not-branch
returns-then-not-branch c = λ ls is.
    let i = c.loop-number.number-index in
    let told = rw c.if-not-branch.true at (c.in_ok-push_named.ensures ls is) in
    names_absent (ls ++ map bound_row c.args.bounds.now) c.args.system.now.unknowns c.args.multipliers.now i (row_number_at c.args.multipliers.now i)
    c.loop-number.rows.items (c.loop-number.invariant ls is) c.loop-number-test.true refl told

pub loop-number-preserved : goal.loop-number-preserved
loop-number-preserved c = λ ls is.
    let told = rw c.if-not-branch.false at (c.in_ok-push_named.ensures ls is) in
    names_more (ls ++ map bound_row c.args.bounds.now) c.args.system.now.unknowns c.args.multipliers.now c.loop-number.number-index c.loop-number.rows.items
    c.push_named.new.rows.items c.loop-number-test.true (c.loop-number.invariant ls is) told

pub invariant_of-result : goal.invariant_of-result
invariant_of-result c =
    let some = c.requires.rows in
    record { within = subst (AllBelow c.args.system.now.unknowns) (sym c.from_vec.ensures) (c.loop-number.invariant some.0 some.1).are.below }

pub returns : goal.returns
returns c = λ ls is.
    let ts = c.args.multipliers.now in
    let end : c.loop-number.number-index ≡ length ts =
    (let most = c.loop-number.auto.number-index-end in let past_all = c.loop-number-test.false in omega arith) in
    let told = names_all (ls ++ map bound_row c.args.bounds.now) c.args.system.now.unknowns ts c.loop-number.number-index c.loop-number.rows.items
    c.from_vec.result (c.loop-number.invariant ls is) end c.from_vec.ensures in
    (refl, told.0, told.1)
