use Rattle.ta_smt.proofs.Common.{◌≡◌, reverse, asked, is_complete, spelling, of_pattern}
use Rattle.ta_smt.proofs.WordsNamed.{no_whole, whole_found}
use Rattle.ta_smt.proofs.named.whole_word.Goals as goal

pub returns-in-Ok-clause-word : goal.returns-in-Ok-clause-word
returns-in-Ok-clause-word c =
    whole_found c.args.file.now (spelling c.args.name.now c.args.start_mask c.args.elements.now)
    (asked c.in-Ok.named.pattern c.in-Ok.named.start_mask c.in-Ok.named.word) c.is_complete.result c.in-Ok.ensures.word
    (of_pattern c.args.file.now c.in-Ok.named.pattern c.of.result.pattern.now (λ p. c.is_complete.result ≡ is_complete p (reverse c.in-Ok.named.word))
    c.of.ensures.pattern (rw c.elements.ensures at c.is_complete.ensures)) c.if-is_complete.true

pub returns-in-Ok-2-clause-fault : goal.returns-in-Ok-2-clause-fault
returns-in-Ok-2-clause-fault c =
    no_whole c.args.file.now (spelling c.args.name.now c.args.start_mask c.args.elements.now)
    (asked c.in-Ok.named.pattern c.in-Ok.named.start_mask c.in-Ok.named.word) c.is_complete.result c.in-Ok.ensures.word
    (of_pattern c.args.file.now c.in-Ok.named.pattern c.of.result.pattern.now (λ p. c.is_complete.result ≡ is_complete p (reverse c.in-Ok.named.word))
    c.of.ensures.pattern (rw c.elements.ensures at c.is_complete.ensures)) c.if-is_complete.false
