use Rattle.ta_smt.proofs.Common.{reverse, err_is, asked, LegalWord, to_task}
use Rattle.ta_smt.proofs.Admitted.{few_in_word, system_asked, word_stops}
use Rattle.ta_smt.proofs.admitting.check_word.Goals as goal

pub encode-requires-clause-legal : goal.encode-requires-clause-legal
encode-requires-clause-legal c = to_task c.args.file.now c.args.pattern c.of-task.result (λ a p. LegalWord a p c.args.start_mask (reverse c.args.word.now))
    c.of-task.ensures.automaton c.of-task.ensures.pattern c.requires.legal

pub check_values-requires : goal.check_values-requires
check_values-requires c =
    let t = c.of-task.result in
    few_in_word t c.args.start_mask c.args.word.now c.in_ok-encoded.encoded.system
    (to_task c.args.file.now c.args.pattern t (λ a p. LegalWord a p c.args.start_mask (reverse c.args.word.now)) c.of-task.ensures.automaton
    c.of-task.ensures.pattern c.requires.legal)
    c.in_ok-encoded.ensures.system

pub returns-in_err-check_values-clause-fault : goal.returns-in_err-check_values-clause-fault
returns-in_err-check_values-clause-fault c =
    let is = system_asked c.args.file.now c.args.pattern c.args.start_mask c.args.word.now c.in_ok-encoded.encoded.system c.of-task.result
    c.of-task.ensures.automaton c.of-task.ensures.pattern c.in_ok-encoded.ensures.system in
    rw (err_is c.from_residual-in_err-check_values.result _ c.from_residual-in_err-check_values.ensures.1)
    (word_stops c.args.file.now (asked c.args.pattern c.args.start_mask c.args.word.now) c.args.values.now c.in_ok-encoded.encoded.system
    c.in_err-check_values.field-0.0 is c.in_err-check_values.ensures.fault)

pub returns-clause-passes : goal.returns-clause-passes
returns-clause-passes c = record {
  system = c.in_ok-encoded.encoded.system;
  is = system_asked c.args.file.now c.args.pattern c.args.start_mask c.args.word.now c.in_ok-encoded.encoded.system c.of-task.result c.of-task.ensures.automaton
      c.of-task.ensures.pattern c.in_ok-encoded.ensures.system;
  checked = c.in_ok-check_values.ensures.passes;
}
