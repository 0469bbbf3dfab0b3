use Rattle.ta_moment_tree.proofs.Common.{moment_maker, asking_of}
use Rattle.ta_moment_tree.proofs.Roots.{root_of}
use Rattle.ta_moment_tree.proofs.tree.MomentTreeTree.root.Goals as goal

pub returns : goal.returns
returns c =
    let t = c.args.self.now in
    let a = t.task.automaton.now in
    let p = t.task.pattern.now in
    root_of a p (asking_of t) (moment_maker a p (asking_of t)) c.args.number c.start_at.result t.task.over.events_limit c.start_at.ensures
