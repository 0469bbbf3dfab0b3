use Rattle.ta_scope.proofs.Common.{ℕ, List, length, length-append, ◌∷◌, [], arith, sym, ap, subst, IsBitSet, ◌↔◌, Reaches}
use Rattle.ta_scope.proofs.Reaching.{LeadsSoFar, leads_push}
use Rattle.ta_scope.proofs.reach.leads.Goals as goal

pub loop-location-preserved : goal.loop-location-preserved
loop-location-preserved c =
    let a = c.args.automaton.now in
    let table = c.loop-location.table.items in
    let mask = c.reached_from.result in
    let here : (y : ℕ) → IsBitSet mask y ↔ Reaches a c.args.rules.now (length table) y = subst (λ n. (y : ℕ) → IsBitSet mask y ↔ Reaches a c.args.rules.now n y)
    (sym c.loop-location.invariant.0) c.reached_from.ensures in (
      (let longer = ap (λ (xs : List ℕ). length xs) c.in_ok-push.ensures.items in let before = c.loop-location.invariant.0 in omega
          (arith, length-append table (mask ∷ []))),
      subst (LeadsSoFar a c.args.rules.now) (sym c.in_ok-push.ensures.items) (leads_push a c.args.rules.now table mask c.loop-location.invariant.1 here),
    )
