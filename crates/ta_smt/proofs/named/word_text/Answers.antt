use Rattle.ta_smt.proofs.Common.{reverse, asked, LegalWord, to_task}
use Rattle.ta_smt.proofs.Admitted.{system_asked}
use Rattle.ta_smt.proofs.WordsNamed.{legal_exists, legal_of, word_text_is}
use Rattle.ta_smt.proofs.named.word_text.Goals as goal

pub of-task-requires-clause-number : goal.of-task-requires-clause-number
of-task-requires-clause-number c = let named = c.args.named.now in legal_exists c.args.file.now
    (asked named.pattern named.start_mask named.word) c.requires.legal

pub encode-requires-clause-legal : goal.encode-requires-clause-legal
encode-requires-clause-legal c =
    let named = c.args.named.now in
    to_task c.args.file.now named.pattern c.of-task.result (λ a p. LegalWord a p named.start_mask (reverse named.word)) c.of-task.ensures.automaton
    c.of-task.ensures.pattern (legal_of c.args.file.now (asked named.pattern named.start_mask named.word) c.requires.legal)

pub returns : goal.returns
returns c =
    let file = c.args.file.now in
    let named = c.args.named.now in
    let word = asked named.pattern named.start_mask named.word in
    let system = c.in_ok-encoded.encoded.system in
    word_text_is file word system c.in_ok-text.text
    (system_asked file named.pattern named.start_mask named.word system c.of-task.result c.of-task.ensures.automaton c.of-task.ensures.pattern
    c.in_ok-encoded.ensures.system)
    c.in_ok-text.ensures.text c.in_ok-text.ensures.denotes
