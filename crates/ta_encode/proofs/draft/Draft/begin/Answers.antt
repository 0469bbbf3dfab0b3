use Rattle.ta_encode.proofs.Common.{length, arith, ap, ◌∙◌}
use Rattle.ta_encode.proofs.Smallness.{resilience_small}
use Rattle.ta_encode.proofs.Drafts.{opened, start_few, start_small}
use Rattle.ta_encode.proofs.draft.Draft.begin.Goals as goal

pub of-draft-requires : goal.of-draft-requires
of-draft-requires c =
    let same = ap length c.in_ok-meanings.ensures in
    let few = start_few c.args.task.automaton.now c.args.task.pattern.now in
    let parameters = c.args.task.automaton.now.shape.limits.parameters_limit in
    let locations = c.args.task.automaton.now.shape.limits.locations_limit in
    record { few = omega arith }

pub push_condition-requires : goal.push_condition-requires
push_condition-requires c = record { small = resilience_small c.args.task.automaton.now }

pub push_condition-requires-2 : goal.push_condition-requires-2
push_condition-requires-2 c = record { small = start_small c.args.task.automaton.now c.args.task.pattern.now c.args.task.over }

pub returns : goal.returns
returns c = opened c.args.task.automaton.now c.args.task.pattern.now c.of-draft.ensures.automaton (c.of-draft.ensures.meanings ∙ c.in_ok-meanings.ensures)
    c.of-draft.ensures.rows c.in_ok-push_condition.ensures c.in_ok-push_processes.ensures c.in_ok-push_condition-2.ensures
