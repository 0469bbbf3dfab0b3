use Rattle.ta_rest.proofs.Common.{ask_node, Ask, search_of_claim}
use Rattle.ta_rest.proofs.ClaimCommon.{not, reverse, subst, sym, TellsMayAsk}
use Rattle.ta_rest.proofs.ClaimWords.{claim_extends}
use Rattle.ta_rest.proofs.claim_words.ClaimTreeTree.may_ask.Goals as goal

pub returns-in-Extend : goal.returns-in-Extend
returns-in-Extend c =
    let t = c.args.self.now in
    let past = reverse c.args.facts.now in
    subst (λ (a : Ask). TellsMayAsk (search_of_claim t) c.args.start past (ask_node a) (not c.is_complete.result)) (sym c.in-Extend.is)
    (claim_extends t.claim t.task.automaton.now t.task.pattern.now t.orders.now c.args.start past c.is_complete.result c.is_complete.ensures)
