use Rattle.ta_smt.proofs.Common.{◌^◌, length, reverse, below_by, beyond_by, FirstStranger, LegalWord, of_task, slice_get_within}
use Rattle.ta_smt.proofs.WordsNamed.{no_child, no_start, word_found}
use Rattle.ta_smt.proofs.named.named_word.Goals as goal

pub returns-then-not-begins-clause-fault : goal.returns-then-not-begins-clause-fault
returns-then-not-begins-clause-fault c =
    let file = c.args.file.now in
    let named = rw c.as_slice.ensures at c.in-Some.ensures in
    no_start file c.args.name.now c.args.start_mask c.args.elements.now c.in-Some.pattern named
    (beyond_by c.args.start_mask (2 ^ length file.automaton.fall) c.begins.result c.begins.ensures c.if-not-begins.true)

pub of-requires-clause-number : goal.of-requires-clause-number
of-requires-clause-number c =
    let named = rw c.as_slice.ensures at c.in-Some.ensures in
    slice_get_within c.args.file.now.patterns c.in-Some.pattern named.0 named.1.at

pub returns-in-Ok-clause-word : goal.returns-in-Ok-clause-word
returns-in-Ok-clause-word c =
    let file = c.args.file.now in
    let named = rw c.as_slice.ensures at c.in-Some.ensures in
    word_found file c.args.name.now c.args.start_mask c.args.elements.now c.in-Ok.word c.in-Some.pattern named
    (below_by c.args.start_mask (2 ^ length file.automaton.fall) c.begins.result c.begins.ensures c.if-not-begins.false) c.in-Ok.ensures.word
    (of_task file c.in-Some.pattern c.of.result (λ a p. LegalWord a p c.args.start_mask (reverse c.in-Ok.word)) c.of.ensures.automaton c.of.ensures.pattern
    c.in-Ok.ensures.legal)

pub returns-in-Err-clause-fault : goal.returns-in-Err-clause-fault
returns-in-Err-clause-fault c =
    let file = c.args.file.now in
    let named = rw c.as_slice.ensures at c.in-Some.ensures in
    no_child file c.args.name.now c.args.start_mask c.args.elements.now c.in-Some.pattern c.in-Err.number named
    (below_by c.args.start_mask (2 ^ length file.automaton.fall) c.begins.result c.begins.ensures c.if-not-begins.false)
    (of_task file c.in-Some.pattern c.of.result (λ a p. FirstStranger a p c.args.start_mask c.args.elements.now c.in-Err.number) c.of.ensures.automaton
    c.of.ensures.pattern c.in-Err.ensures.stranger)
