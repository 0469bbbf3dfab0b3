use Rattle.ta_moment_tree.proofs.Common.{◌≤◌, length, reverse, take, IsBehind, candidate_of, NodeIs, AreMarks}
use Rattle.ta_moment_tree.proofs.moment_tree.MomentTree.grown.Given as goal

abbrev pub invariant-loop-number : goal.invariant-loop-number
invariant-loop-number l = record {
  within : l.number ≤ length l.facts;
  is : NodeIs l.self.task.automaton.now l.self.task.pattern.now l.self.silent.now (candidate_of l.start) (reverse (take l.number l.facts)) l.node;
  marks : AreMarks l.self.task.automaton.now l.self.task.pattern.now l.self.silent.now (candidate_of l.start) l.facts l.number l.marks.items;
  rows : IsBehind l.initial.node.draft.rows.items l.node.draft.rows.items;
}
