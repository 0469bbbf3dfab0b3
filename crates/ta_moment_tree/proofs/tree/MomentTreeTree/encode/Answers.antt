use Rattle.ta_moment_tree.proofs.Common.{IfOk-weaker, IsSmall, moment_maker, asking_of}
use Rattle.ta_encode.specs.Cursors.{node_at}
use Rattle.ta_moment_tree.proofs.Coming.{comes_small}
use Rattle.ta_moment_tree.proofs.tree.MomentTreeTree.encode.Goals as goal

pub returns-clause-small : goal.returns-clause-small
returns-clause-small c =
    let t = c.args.self.now in
    let a = t.task.automaton.now in
    let p = t.task.pattern.now in
    IfOk-weaker c.written.result _ (λ written. IsSmall c.args.bounds.now written.kept.system)
    (λ written is. comes_small a p (asking_of t) (moment_maker a p (asking_of t)) t.task.over (node_at c.args.start c.args.facts.now c.args.bounds.now)
    written.kept.system c.requires.comes is)
    c.written.ensures.system
