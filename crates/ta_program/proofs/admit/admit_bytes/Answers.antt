use Rattle.ta_program.proofs.Common.{legal_exists, legal_of, word_seen}
use Rattle.ta_smt.proofs.Admitted.{admits_are_exact}
use Rattle.ta_program.proofs.admit.admit_bytes.Goals as goal

pub admit-requires-clause-exists : goal.admit-requires-clause-exists
admit-requires-clause-exists c = legal_exists c.args.scoped.now.file (word_seen c.args.word.now) c.requires.word

pub admit-requires-clause-legal : goal.admit-requires-clause-legal
admit-requires-clause-legal c = legal_of c.args.scoped.now.file (word_seen c.args.word.now) c.requires.word

pub returns-in-Err-clause-fault : goal.returns-in-Err-clause-fault
returns-in-Err-clause-fault c none = record {
  no_memory = none;
  first = c.in-Err.ensures.fault;
  gives_no_run = λ run admits. (admits_are_exact c.args.scoped.now.file (word_seen c.args.word.now) c.args.bytes.now run admits).0 c.in-Err.fault none
      c.in-Err.ensures.fault;
}
