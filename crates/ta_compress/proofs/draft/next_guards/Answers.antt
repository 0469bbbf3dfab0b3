use Rattle.ta_base.proofs.Lists.{some_at}
use Rattle.ta_compress.proofs.draft.next_guards.Goals as goal

pub returns-in-Err-clause-answer : goal.returns-in-Err-clause-answer
returns-in-Err-clause-answer c =
    let named = some_at c.args.automaton.now.rules c.args.rule c.requires.exists in
    absurd (c.requires.may c.in-Err.field-0 named.0 named.1 (c.in-Err.ensures.answer named.0 named.1))
