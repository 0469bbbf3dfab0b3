use Rattle.ta_moment_tree.proofs.Fitting.{draft_added, draft_fits}
use Rattle.ta_moment_tree.proofs.encoding.MomentEncoding.with_fact.Goals as goal

pub with_fact-requires-clause-fits : goal.with_fact-requires-clause-fits
with_fact-requires-clause-fits c =
    let t = c.args.self.plan.task in
    let n = c.requires.node in
    draft_fits t.automaton.now t.pattern.now c.args.silent.now n.candidate n.past c.args.self.draft n.is.listed n.is.draft

pub returns-clause-node : goal.returns-clause-node
returns-clause-node c candidate past is =
    let t = c.args.self.plan.task in
    record {
      plan = is.plan;
      listed = is.listed;
      draft = draft_added t.automaton.now t.pattern.now c.args.silent.now candidate past c.args.fact c.args.self.draft c.in_ok-draft.draft is.draft
          c.in_ok-draft.ensures;
    }
