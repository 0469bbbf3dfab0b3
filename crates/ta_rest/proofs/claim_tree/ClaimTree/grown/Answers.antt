use Rattle.ta_rest.proofs.ClaimCommon.{sym, subst, IfOk-weaker, node_at, SystemAt, search_for, Claim}
use Rattle.ta_rest.proofs.RestRows.{rest_system}
use Rattle.ta_rest.proofs.claim_tree.ClaimTree.grown.Goals as goal

pub returns-in-Safe-clause-system : goal.returns-in-Safe-clause-system
returns-in-Safe-clause-system c =
    let t = c.args.self.now in
    let w = node_at c.args.start_mask c.args.elements.now c.args.bounds.now in
    IfOk-weaker c.grown.result _ (λ grown. SystemAt (search_for t.claim t.task.automaton.now t.task.pattern.now t.orders.now) w grown.encoding.system)
    (λ grown is. subst (λ (k : Claim). SystemAt (search_for k t.task.automaton.now t.task.pattern.now t.orders.now) w grown.encoding.system) (sym c.in-Safe.is)
    (record { unknowns = is.unknowns; rows = is.rows }))
    c.grown.ensures.system

pub returns-in-RestSafe-clause-system : goal.returns-in-RestSafe-clause-system
returns-in-RestSafe-clause-system c =
    let t = c.args.self.now in
    let a = t.task.automaton.now in
    let p = t.task.pattern.now in
    let w = node_at c.args.start_mask c.args.elements.now c.args.bounds.now in
    IfOk-weaker c.grown_to.result _ (λ grown. SystemAt (search_for t.claim a p t.orders.now) w grown.encoding.system)
    (λ grown ended. subst (λ (k : Claim). SystemAt (search_for k a p t.orders.now) w grown.encoding.system) (sym c.in-RestSafe.is)
    (rest_system a p w c.rest_end-end.result grown.encoding.system c.rest_end-end.ensures ended))
    c.grown_to.ensures.system
