use Rattle.ta_rest.proofs.Common.{ask_node, Ask, search_of_claim}
use Rattle.ta_rest.proofs.ClaimCommon.{reverse, subst, sym, AnswerIs}
use Rattle.ta_rest.proofs.claim_words.ClaimTreeTree.answer.Goals as goal

pub returns-in-Extend : goal.returns-in-Extend
returns-in-Extend c =
    let t = c.args.self.now in
    subst (λ (a : Ask). AnswerIs (search_of_claim t) c.args.start (reverse c.args.facts.now) (ask_node a) c.args.number c.child.result) (sym c.in-Extend.is)
    c.child.ensures
