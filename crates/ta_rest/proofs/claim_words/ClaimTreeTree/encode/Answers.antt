use Rattle.ta_rest.proofs.Common.{BoundsWithin}
use Rattle.ta_rest.proofs.ClaimCommon.{ℕ, reverse, subst, node_at}
use Rattle.ta_rest.proofs.ClaimWords.{claim_legal, claim_small, claim_unknowns}
use Rattle.ta_rest.proofs.claim_words.ClaimTreeTree.encode.Goals as goal

pub grown-requires-clause-legal : goal.grown-requires-clause-legal
grown-requires-clause-legal c =
    let t = c.args.self.now in
    claim_legal t.claim t.task.automaton.now t.task.pattern.now t.orders.now c.args.start (reverse c.args.facts.now) c.requires.comes

pub grown-requires-clause-bounds : goal.grown-requires-clause-bounds
grown-requires-clause-bounds c =
    let t = c.args.self.now in
    subst (λ (n : ℕ). BoundsWithin n c.args.bounds.now)
    (claim_unknowns t.claim t.task.automaton.now t.task.pattern.now t.orders.now c.args.start (reverse c.args.facts.now)) c.requires.bounds

pub returns-clause-small : goal.returns-clause-small
returns-clause-small c =
    let t = c.args.self.now in
    let a = t.task.automaton.now in
    let p = t.task.pattern.now in
    claim_small t.claim a t.task.narrow p t.orders.now (node_at c.args.start c.args.facts.now c.args.bounds.now) c.in_ok-encoding.field-0.encoding.system
    t.task.over
    (claim_legal t.claim a p t.orders.now c.args.start (reverse c.args.facts.now) c.requires.comes)
    c.in_ok-encoding.ensures.system
