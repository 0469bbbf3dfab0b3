use Rattle.ta_program.proofs.Common.{ap, refl, subst, file_line, LoopsAlone}
use Rattle.ta_rest.proofs.Moving.{moves_bounded}
use Rattle.ta_program.proofs.ends.find_ends.Goals as goal

pub returns-in-Ok-clause-ends : goal.returns-in-Ok-clause-ends
returns-in-Ok-clause-ends c =
    let ends = c.in-Ok.ensures.ok in
    let loops = subst LoopsAlone ends.automaton c.in-Ok.rest.loops_alone in
    record { loops = loops; few = moves_bounded c.args.scoped.file.automaton loops; endings = ends }

pub returns-in-Err-Cycle-clause-refusal : goal.returns-in-Err-Cycle-clause-refusal
returns-in-Err-Cycle-clause-refusal c = record {
  numbered = refl;
  rule = c.in-Err-Cycle.rule;
  first = rw c.in-Err-Cycle.field-0-is at c.in-Err-Cycle.ensures.fault;
  said = ap (file_line c.args.name.now) c.cycle_phrase.ensures;
}
