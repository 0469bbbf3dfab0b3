use Rattle.ta_moment_tree.proofs.Common.{reverse, arith, candidate_of, moment_maker, asking_of}
use Rattle.ta_moment_tree.proofs.Coming.{comes_few}
use Rattle.ta_moment_tree.proofs.Counting.{unknowns_same}
use Rattle.ta_moment_tree.proofs.tree.MomentTreeTree.unknown_count.Goals as goal

pub unknown_count-requires : goal.unknown_count-requires
unknown_count-requires c silent candidate =
    let t = c.args.self.now in
    let a = t.task.automaton.now in
    let p = t.task.pattern.now in
    let past = reverse c.args.facts.now in
    omega (
      arith,
      comes_few a p (asking_of t) (moment_maker a p (asking_of t)) t.task.over c.args.start past c.requires,
      unknowns_same a p silent t.silent.now
          candidate (candidate_of c.args.start) past,
    )
