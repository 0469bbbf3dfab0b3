use Rattle.ta_moment_tree.proofs.Common.{ℕ, List, [], ◌∷◌, ◌++◌, Option, arith, ap, sym, subst, ◌∙◌, In, Task, candidates, candidate_of, IsMark, IsNode}
use Rattle.ta_moment_tree.proofs.Common.{NodeMark, moment_maker, asking_of}
use Rattle.ta_moments.specs.Moments.{known}
use Rattle.ta_moment_tree.proofs.Coming.{comes_listed}
use Rattle.ta_moment_tree.proofs.Parts.{marks_first, same_nothing}
use Rattle.ta_moment_tree.proofs.moment_tree.MomentTree.begin.Goals as goal

pub first-requires : goal.first-requires
first-requires c =
    let t = c.args.self.now in
    let a = t.task.automaton.now in
    let p = t.task.pattern.now in
    subst (λ (o : Option ℕ). In o (candidates p)) (sym c.candidate_of.ensures)
    (comes_listed a p (asking_of t) (moment_maker a p (asking_of t)) c.args.start c.requires.0 c.requires.1)

pub returns-clause-part : goal.returns-clause-part
returns-clause-part c = λ facts.
    let t = c.args.self.now in
    let a = t.task.automaton.now in
    let p = t.task.pattern.now in
    let silent = t.silent.now in
    let node = c.in_ok-node.node in
    let task = c.in_ok-node.ensures.task in
    let is = subst (λ (o : Option ℕ). IsNode silent o [] node) c.candidate_of.ensures (c.in_ok-node.ensures.node silent) in
    let mark = subst (λ (k : Task). IsMark (known k.automaton.now k.pattern.now silent (candidate_of c.args.start) []) c.mark.result) task
    (c.mark.ensures.mark silent (candidate_of c.args.start) [] is) in
    record {
      within = omega arith;
      is = record { automaton = ap (λ (k : Task). k.automaton.now) task; pattern = ap (λ (k : Task). k.pattern.now) task; is = is };
      marks = marks_first a p silent (candidate_of c.args.start) facts c.mark.result c.push.new.self.items
          (c.in_ok-push.ensures.items ∙ ap (λ (ms : List NodeMark). ms ++ c.mark.result ∷ []) c.new-marks.ensures.items) mark;
      same = same_nothing c.args.system.rows node.draft.rows.items;
    }
