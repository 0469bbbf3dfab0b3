use Rattle.ta_scope.proofs.Common.{arith, length-append, sym, ap, subst, length, ◌++◌, ◌∷◌, [], List, ℕ, IsBuilt, Next, Ready}
use Rattle.ta_scope.proofs.OrderLaws.{built_push, built_length, order_done}
use Rattle.ta_scope.proofs.order.order_of.Goals as goal

pub loop-location-smaller : goal.loop-location-smaller
loop-location-smaller c =
    let a = c.args.automaton.now in
    let next : Next a c.args.rules.now c.loop-location.order.items c.in-Some.location = subst (λ (xs : List ℕ). Next a c.args.rules.now xs c.in-Some.location)
    c.as_slice.ensures.value c.in-Some.ensures.some in
    let short = built_length a c.args.rules.now (c.loop-location.order.items ++ c.in-Some.location ∷ [])
    (built_push a c.args.rules.now c.loop-location.order.items c.in-Some.location c.loop-location.invariant next) in
    let longer = ap (λ (xs : List ℕ). length xs) c.in_ok-push.ensures.items in
    omega (arith, length-append c.loop-location.order.items (c.in-Some.location ∷ []))

pub loop-location-preserved : goal.loop-location-preserved
loop-location-preserved c =
    let a = c.args.automaton.now in
    let next : Next a c.args.rules.now c.loop-location.order.items c.in-Some.location = subst (λ (xs : List ℕ). Next a c.args.rules.now xs c.in-Some.location)
    c.as_slice.ensures.value c.in-Some.ensures.some in
    subst (IsBuilt a c.args.rules.now) (sym c.in_ok-push.ensures.items)
    (built_push a c.args.rules.now c.loop-location.order.items c.in-Some.location c.loop-location.invariant next)

pub returns : goal.returns
returns c =
    let a = c.args.automaton.now in
    order_done a c.args.rules.now c.loop-location.order.items c.requires c.loop-location.invariant
    (λ l b ready. c.in_default.ensures.none l b (subst (λ (xs : List ℕ). Ready a c.args.rules.now xs l) (sym c.as_slice.ensures.value) ready))
