use Rattle.ta_automaton.proofs.Numbered.{pattern_at}
use Rattle.ta_automaton.proofs.Thresholds.{pattern_within}
use Rattle.ta_automaton.proofs.task.Task.of.Goals as goal

pub invariant_of-result : goal.invariant_of-result
invariant_of-result c =
    let p = c.index-as_slice-number.result in
    record {
      over = pattern_within c.args.file.now c.args.number p
          (pattern_at c.args.file.now c.as_slice.result.now c.args.number p c.as_slice.ensures c.requires c.index-as_slice-number.is);
    }

pub returns-clause-pattern : goal.returns-clause-pattern
returns-clause-pattern c = pattern_at c.args.file.now c.as_slice.result.now c.args.number c.index-as_slice-number.result c.as_slice.ensures c.requires
    c.index-as_slice-number.is
