use Rattle.ta_program.proofs.Common.{[], refl, Answer, grew_found, grew_none, IsWholeWordOf, WholeFaultOf, legal_word, values_meaning, WordHinders, asked_seen}
use Rattle.ta_program.proofs.Common.{word_seen}
use Rattle.ta_program.proofs.WordMeanings.{word_cause, word_refused}
use Rattle.ta_program.proofs.admit.judge_word.Goals as goal

pub judge_values-requires-clause-word : goal.judge_values-requires-clause-word
judge_values-requires-clause-word g c = legal_word c.args.scoped.now.file (asked_seen c.args.asked.now).word (word_seen c.in-Ok.word) c.in-Ok.ensures.word.is

pub returns-in-Ok-clause-says : goal.returns-in-Ok-clause-says
returns-in-Ok-clause-says g c =
    let asked = asked_seen c.args.asked.now in
    let file = c.args.scoped.now.file in
    grew_found (IsWholeWordOf file asked.word) (WordHinders (WholeFaultOf file asked.word) asked.file) [] (values_meaning c.args.values.now file)
    (g.S.Shelf.files c.args.shelf.now) (word_seen c.in-Ok.word) c.judge_values.result _ _ c.in-Ok.ensures.word (λ w. refl) c.judge_values.ensures.says

pub returns-in-Err-clause-says : goal.returns-in-Err-clause-says
returns-in-Err-clause-says g c =
    let asked = asked_seen c.args.asked.now in
    let file = c.args.scoped.now.file in
    grew_none _ _ _ _ (word_refused (IsWholeWordOf file asked.word) (WholeFaultOf file asked.word) asked.file (values_meaning c.args.values.now file)
    (g.S.Shelf.files c.args.shelf.now) c.in-Err.refusal c.in-Err.ensures.refusal)

pub returns-in-Err-clause-cause : goal.returns-in-Err-clause-cause
returns-in-Err-clause-cause g c =
    let asked = asked_seen c.args.asked.now in
    word_cause Answer (WholeFaultOf c.args.scoped.now.file asked.word) asked.file c.in-Err.refusal _ c.in-Err.ensures.refusal
