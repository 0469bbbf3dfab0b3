use Rattle.ta_smt.proofs.Common.{subst, FirstStranger, of_task}
use Rattle.ta_smt.proofs.Spelled.{no_stranger}
use Rattle.ta_smt.proofs.admitting.run_of.Goals as goal

pub unreachable-requires : goal.unreachable-requires
unreachable-requires c =
    let file = c.args.scoped.now.file in
    let s = c.requires.solves in
    let k = c.in_default.field-0 in
    let first = of_task file c.args.pattern c.of-task.result (λ a p. FirstStranger a p c.args.start_mask c.elements.result.now k) c.of-task.ensures.automaton
    c.of-task.ensures.pattern c.in_default.ensures.stranger in
    no_stranger file.automaton s.pattern c.args.start_mask c.args.word.now k s.solved.legal
    (subst (λ es. FirstStranger file.automaton s.pattern c.args.start_mask es k) c.elements.ensures (first s.pattern s.named))
