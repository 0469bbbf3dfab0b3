use Rattle.ta_program.proofs.Common.{[], refl, replies, Answer, finds_then, IsWordOf, WordFaultOf, legal_word, SaysSystem, WordHinders, asked_seen, word_seen}
use Rattle.ta_program.proofs.WordMeanings.{word_cause, word_refused}
use Rattle.ta_program.proofs.export.answer_export.Goals as goal

pub answer_system-requires-clause-word : goal.answer_system-requires-clause-word
answer_system-requires-clause-word c = legal_word c.args.file.now (asked_seen c.args.asked.now).word (word_seen c.in-Ok.word) c.in-Ok.ensures.word

pub returns-in-Ok-clause-says : goal.returns-in-Ok-clause-says
returns-in-Ok-clause-says c files =
    let asked = asked_seen c.args.asked.now in
    let file = c.args.file.now in
    finds_then (IsWordOf file asked.word) (WordHinders (WordFaultOf file asked.word) asked.file) [] (λ word. replies [] (SaysSystem file word)) files
    (word_seen c.in-Ok.word) c.answer_system.result [] c.in-Ok.ensures.word (λ w. refl) (c.answer_system.ensures.says files)

pub returns-in-Err-clause-says : goal.returns-in-Err-clause-says
returns-in-Err-clause-says c files =
    let asked = asked_seen c.args.asked.now in
    let file = c.args.file.now in
    word_refused (IsWordOf file asked.word) (WordFaultOf file asked.word) asked.file (λ word. replies [] (SaysSystem file word)) files c.in-Err.refusal
    c.in-Err.ensures.refusal

pub returns-in-Err-clause-cause : goal.returns-in-Err-clause-cause
returns-in-Err-clause-cause c =
    let asked = asked_seen c.args.asked.now in
    word_cause Answer (WordFaultOf c.args.file.now asked.word) asked.file c.in-Err.refusal 0 c.in-Err.ensures.refusal
