use Rattle.ta_moment_tree.proofs.Common.{◌+◌, [], reverse, take, arith, sym, append-nil, candidate_of, moment_maker, asking_of}
use Rattle.ta_moment_tree.proofs.Cutting.{front_on}
use Rattle.ta_moment_tree.proofs.Coming.{comes_few, comes_first}
use Rattle.ta_moment_tree.proofs.Parts.{mark_of, marks_more, node_next, node_unknowns}
use Rattle.ta_moment_tree.proofs.moment_tree.MomentTree.grown.Goals as goal

pub with_fact-requires-clause-node : goal.with_fact-requires-clause-node
with_fact-requires-clause-node c = record
    { candidate = candidate_of c.args.start; past = reverse (take c.loop-number.number c.args.facts.now); is = c.loop-number.invariant.is.is }

pub with_fact-requires-clause-room : goal.with_fact-requires-clause-room
with_fact-requires-clause-room c =
    let t = c.args.self.now in
    let a = t.task.automaton.now in
    let p = t.task.pattern.now in
    let asking = asking_of t in
    let maker = moment_maker a p asking in
    let past = reverse (take c.loop-number.number c.args.facts.now) in
    let few = comes_few a p asking maker t.task.over c.args.start past
    (comes_first a p asking maker c.args.start c.args.facts.now c.loop-number.number c.requires.comes) in
    let is = node_unknowns a p t.silent.now (candidate_of c.args.start) past c.loop-number.node c.loop-number.invariant.is in
    omega (arith, few, is)

pub loop-number-preserved : goal.loop-number-preserved
loop-number-preserved c =
    let t = c.args.self.now in
    let a = t.task.automaton.now in
    let p = t.task.pattern.now in
    let silent = t.silent.now in
    let o = candidate_of c.args.start in
    let facts = c.args.facts.now in
    let number = c.loop-number.number in
    let below = c.loop-number-test.true in
    let inv = c.loop-number.invariant in
    let old = c.loop-number.node in
    let new = c.in_ok-node.node in
    let next = node_next a p silent o facts number _ old new below inv.is c.in_ok-node.ensures.task
    (c.in_ok-node.ensures.node o (reverse (take number facts)) inv.is.is) in
    let past = reverse (take (number + 1) facts) in
    let mark = mark_of a p silent o past new c.mark.result next (c.mark.ensures.mark silent o past next.is) in
    record {
      within = omega arith;
      is = next;
      marks = marks_more a p silent o facts number c.mark.result c.loop-number.marks.items c.push.new.self.items inv.marks c.in_ok-push.ensures.items mark;
      rows = (let more = c.in_ok-node.ensures.rows in front_on c.args.part.node.draft.rows.items old.draft.rows.items new.draft.rows.items more.more inv.rows
          more.is);
    }

pub loop-number-init : goal.loop-number-init
loop-number-init c =
    let part = c.requires.part in
    record { within = part.within; is = part.is; marks = part.marks; rows = record { more = []; is = sym (append-nil c.args.part.node.draft.rows.items) } }
