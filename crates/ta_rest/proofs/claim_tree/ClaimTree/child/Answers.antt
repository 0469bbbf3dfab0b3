use Rattle.ta_rest.proofs.ClaimCommon.{◌≡◌, ℕ, List, [], reverse, slice_get, subst, sym, children, search_for, AnswerIs, Claim, Extend}
use Rattle.ta_rest.proofs.PatternWords.{child_answers}
use Rattle.ta_rest.proofs.RestRows.{rest_answers}
use Rattle.ta_rest.proofs.claim_tree.ClaimTree.child.Goals as goal

pub returns-in-Safe : goal.returns-in-Safe
returns-in-Safe c =
    let t = c.args.self.now in
    let a = t.task.automaton.now in
    let p = t.task.pattern.now in
    let past = reverse c.args.elements.now in
    let is = child_answers a t.task.narrow p t.orders.now c.args.start_mask past c.args.number c.child.result t.task.over c.child.ensures in
    subst (λ (k : Claim). AnswerIs (search_for k a p t.orders.now) c.args.start_mask past Extend c.args.number c.child.result) (sym c.in-Safe.is) is

pub returns-in-RestSafe : goal.returns-in-RestSafe
returns-in-RestSafe c =
    let t = c.args.self.now in
    let a = t.task.automaton.now in
    let p = t.task.pattern.now in
    let past = reverse c.args.elements.now in
    let told = c.child-in-RestSafe.result in
    let child = subst (λ (pairs : List (ℕ × ℕ)). told ≡ slice_get (children a p pairs c.args.start_mask past) c.args.number) c.new.ensures
    c.child-in-RestSafe.ensures in
    let is = rest_answers a p c.args.start_mask past c.args.number told
    (child_answers a t.task.narrow p [] c.args.start_mask past c.args.number told t.task.over child) in
    subst (λ (k : Claim). AnswerIs (search_for k a p t.orders.now) c.args.start_mask past Extend c.args.number told) (sym c.in-RestSafe.is) is
