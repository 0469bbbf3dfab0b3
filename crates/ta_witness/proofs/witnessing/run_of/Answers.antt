use Rattle.ta_witness.proofs.Common.{ap, reverse, subst, ◌∙◌, slice_get_within, Automaton, Pattern, meanings, SolvedWord, LegalWord, IfOk-weaker}
use Rattle.ta_automaton.proofs.Numbered.{of_pattern, same_pattern}
use Rattle.ta_words.proofs.Tasks.{to_task}
use Rattle.ta_witness.proofs.Making.{run_witness, run_fits}
use Rattle.ta_witness.proofs.Witnesses.{witnesses_show}
use Rattle.ta_witness.proofs.witnessing.run_of.Goals as goal

pub of-task-requires-clause-number : goal.of-task-requires-clause-number
of-task-requires-clause-number c =
    let asked = c.requires.solution in
    slice_get_within c.args.scoped.now.file.patterns c.args.solution.now.pattern asked.pattern asked.named

pub of-task-requires-clause-narrow : goal.of-task-requires-clause-narrow
of-task-requires-clause-narrow c = c.requires.narrow

pub encode-requires-clause-legal : goal.encode-requires-clause-legal
encode-requires-clause-legal c =
    let file = c.args.scoped.now.file in
    let s = c.args.solution.now in
    to_task file s.pattern c.of-task.result (λ a p. LegalWord a p s.start_mask (reverse s.word)) c.of-task.ensures.automaton c.of-task.ensures.pattern
    (of_pattern file s.pattern c.requires.solution.pattern (λ p. LegalWord file.automaton p s.start_mask
    (reverse s.word)) c.requires.solution.named c.requires.solution.solved.legal)

pub run_for-requires-clause-made : goal.run_for-requires-clause-made
run_for-requires-clause-made c =
    let file = c.args.scoped.now.file in
    let s = c.args.solution.now in
    let t = c.of-task.result in
    record {
      named = c.of-task.ensures.pattern;
      unknowns = c.as_slice-meanings.ensures ∙ c.in_ok-encoded.ensures.meanings
          ∙ ap (λ (a : Automaton). meanings a t.pattern.now s.start_mask (reverse s.word)) c.of-task.ensures.automaton;
      values = c.requires.solution.values;
      are = c.requires.solution.are;
      solved = subst (λ (p : Pattern). SolvedWord file.automaton p s.start_mask s.word c.requires.solution.values)
          (same_pattern file s.pattern c.requires.solution.pattern t.pattern.now c.requires.solution.named c.of-task.ensures.pattern)
          c.requires.solution.solved;
    }

pub returns-clause-witness : goal.returns-clause-witness
returns-clause-witness c = IfOk-weaker c.run_for.result _ _ (λ run r. run_witness c.args.scoped.now.file _ _ c.args.solution.now run r) c.run_for.ensures

pub returns-clause-fits : goal.returns-clause-fits
returns-clause-fits c = IfOk-weaker c.run_for.result _ _ (λ run r. run_fits c.args.scoped.now.file _ _ c.args.solution.now run r) c.run_for.ensures

pub returns-clause-shows : goal.returns-clause-shows
returns-clause-shows c = IfOk-weaker c.run_for.result _ _
    (λ run r. (witnesses_show c.args.scoped.now.file c.args.scoped.now.in_scope c.args.solution.now c.requires.solution run
    (run_witness c.args.scoped.now.file _ _ c.args.solution.now run r)).0) c.run_for.ensures

pub returns-clause-short : goal.returns-clause-short
returns-clause-short c = IfOk-weaker c.run_for.result _ _
    (λ run r. (witnesses_show c.args.scoped.now.file c.args.scoped.now.in_scope c.args.solution.now c.requires.solution run
    (run_witness c.args.scoped.now.file _ _ c.args.solution.now run r)).1) c.run_for.ensures
