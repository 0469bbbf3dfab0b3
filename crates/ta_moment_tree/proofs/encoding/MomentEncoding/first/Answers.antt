use Rattle.ta_moment_tree.proofs.Common.{[], sym, subst, In, Task, candidates, IsDraft}
use Rattle.ta_moment_tree.proofs.encoding.MomentEncoding.first.Goals as goal

pub returns-clause-node : goal.returns-clause-node
returns-clause-node c silent =
    let task = c.in_ok-plan.ensures.task in
    record {
      plan = c.in_ok-plan.ensures.plan;
      listed = subst (λ (t : Task). In c.args.candidate (candidates t.pattern.now)) (sym task) c.requires;
      draft = subst (λ (t : Task). IsDraft t.automaton.now t.pattern.now silent c.args.candidate [] c.in_ok-plan.draft) (sym task)
          (c.in_ok-plan.ensures.draft silent);
    }
