use Rattle.ta_walk.proofs.Common.{node_at, moment_maker, asking_of}
use Rattle.ta_walk.proofs.FewMoments.{few_values}
use Rattle.ta_walk.proofs.moment_maker.MomentMakerMaker.question.Goals as goal

pub asked_at-requires-clause-values : goal.asked_at-requires-clause-values
asked_at-requires-clause-values c =
    let t = c.args.self.now.tree in
    let a = t.task.automaton.now in
    let p = t.task.pattern.now in
    let w = node_at c.args.start c.args.facts.now c.requires.vertex.0 in
    few_values a p t.task.over (asking_of t) (moment_maker a p (asking_of t)) w c.args.values.now c.requires.comes c.requires.vertex.1
