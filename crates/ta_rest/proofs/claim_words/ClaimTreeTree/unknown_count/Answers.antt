use Rattle.ta_rest.proofs.ClaimCommon.{reverse, sym, ◌∙◌}
use Rattle.ta_rest.proofs.ClaimWords.{claim_legal, claim_unknowns}
use Rattle.ta_rest.proofs.claim_words.ClaimTreeTree.unknown_count.Goals as goal

pub unknown_count-requires : goal.unknown_count-requires
unknown_count-requires c =
    let t = c.args.self.now in
    claim_legal t.claim t.task.automaton.now t.task.pattern.now t.orders.now c.args.start (reverse c.args.facts.now) c.requires

pub returns : goal.returns
returns c =
    let t = c.args.self.now in
    c.unknown_count.ensures ∙ sym (claim_unknowns t.claim t.task.automaton.now t.task.pattern.now t.orders.now c.args.start (reverse c.args.facts.now))
