use Rattle.ta_check.proofs.Common.{None, true, false, refl, err_is, Moments, search_of, claiming_with}
use Rattle.ta_check.proofs.JudgingNodes.{some_newest, pattern_there, tree_within, tree_kept, node_taken, node_refused, told_in, stood_in}
use Rattle.ta_check.proofs.position.Position.take_moment.Goals as goal

pub moment_tree-moments-requires : goal.moment_tree-moments-requires
moment_tree-moments-requires c =
    let at = c.requires.somewhere in
    pattern_there (claiming_with c.args.claim c.args.file.now c.args.silent.now at.0) c.args.self.now at.1 c.args.pattern c.requires.none c.requires.current
    at.2

pub read_node-requires-clause-within : goal.read_node-requires-clause-within
read_node-requires-clause-within c =
    let at = c.requires.somewhere in
    tree_within Moments (claiming_with c.args.claim c.args.file.now c.args.silent.now at.0) c.args.self.now at.1 c.args.pattern _ c.requires.none
    c.requires.current c.requires.kind c.moment_tree-moments.ensures.search at.2

pub read_node-requires-clause-kept : goal.read_node-requires-clause-kept
read_node-requires-clause-kept c =
    let at = c.requires.somewhere in
    let subject = claiming_with c.args.claim c.args.file.now c.args.silent.now at.0 in
    let n = some_newest subject c.args.self.now at.1 c.args.pattern c.requires.none c.requires.current at.2 in
    (c.moment_tree-moments.ensures.kept n.0 n.1.named c.args.self.now.kept).1
    (tree_kept Moments subject c.args.self.now at.1 c.args.pattern n.0 c.requires.kind n.1)

pub returns-in_err-read_node : goal.returns-in_err-read_node
returns-in_err-read_node c = λ limit at is.
    let s = c.args.self.now in
    let subject = claiming_with c.args.claim c.args.file.now c.args.silent.now limit in
    let n = some_newest subject s at c.args.pattern c.requires.none c.requires.current is in
    let f = c.in_err-read_node.field-0.0 in
    let new = record s { moments = c.read_node.new.place; kept = c.read_node.new.kept } in
    let told = told_in _ (search_of Moments subject s.orders n.0) s.moments c.args.number c.args.node.now f (c.moment_tree-moments.ensures.search n.0 n.1.named)
    c.in_err-read_node.ensures.taken in
    rw (err_is c.from_residual.result _ c.from_residual.ensures.1)
    (node_refused Moments subject s new at c.args.pattern c.args.number n.0 c.args.node.now f n.1 c.requires.kind c.requires.has told)

pub returns-then-not-branch : goal.returns-then-not-branch
returns-then-not-branch c = λ limit at is.
    let s = c.args.self.now in
    let subject = claiming_with c.args.claim c.args.file.now c.args.silent.now limit in
    let n = some_newest subject s at c.args.pattern c.requires.none c.requires.current is in
    let new = record s { moments = c.read_node.new.place; kept = c.read_node.new.kept; current = None } in
    let taken = rw c.if-not-branch.true at c.in_ok-read_node.ensures.taken in
    let stood = stood_in _ (search_of Moments subject s.orders n.0) s.moments c.read_node.new.place c.args.node.now false
    (c.moment_tree-moments.ensures.search n.0 n.1.named) taken in
    node_taken Moments subject s new at c.args.pattern c.args.number n.0 c.args.node.now false n.1 c.requires.kind is
    (record { version = refl; orders = refl; waiting = refl }) refl refl
    ((c.moment_tree-moments.ensures.kept n.0 n.1.named c.read_node.new.kept).0 c.in_ok-read_node.ensures.kept) stood

pub returns-else-not-branch : goal.returns-else-not-branch
returns-else-not-branch c = λ limit at is.
    let s = c.args.self.now in
    let subject = claiming_with c.args.claim c.args.file.now c.args.silent.now limit in
    let n = some_newest subject s at c.args.pattern c.requires.none c.requires.current is in
    let new = record s { moments = c.read_node.new.place; kept = c.read_node.new.kept } in
    let taken = rw c.if-not-branch.false at c.in_ok-read_node.ensures.taken in
    let stood = stood_in _ (search_of Moments subject s.orders n.0) s.moments c.read_node.new.place c.args.node.now true
    (c.moment_tree-moments.ensures.search n.0 n.1.named) taken in
    node_taken Moments subject s new at c.args.pattern c.args.number n.0 c.args.node.now true n.1 c.requires.kind is
    (record { version = refl; orders = refl; waiting = refl }) refl c.requires.current
    ((c.moment_tree-moments.ensures.kept n.0 n.1.named c.read_node.new.kept).0 c.in_ok-read_node.ensures.kept) stood
