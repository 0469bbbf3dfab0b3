use Rattle.ta_scope.proofs.Common.{◌++◌, ℕ, ℤ, List, refl, sym, ap, ◌∙◌, get_or, length, take, take_more, take_all, steps_along, steps_from}
use Rattle.ta_scope.proofs.Listing.{along_more}
use Rattle.ta_scope.proofs.arrange.steps_of.Goals as goal

pub loop-location-init : goal.loop-location-init
loop-location-init c = c.new-steps.ensures.items

pub loop-location-preserved : goal.loop-location-preserved
loop-location-preserved c =
    let a = c.args.automaton.now in
    let order = c.args.order.now in
    let i = c.loop-location.location-index in
    let l = get_or order i 0 in
    c.in_ok-push_steps.ensures refl
    ∙ ap (λ (xs : List (ℕ × ℤ)). xs ++ steps_from a c.args.counts.now l (length a.rules)) c.loop-location.invariant
    ∙ sym (along_more a c.args.counts.now (take i order) l)
    ∙ ap (steps_along a c.args.counts.now) (sym (take_more order i 0 c.loop-location-test.true))

pub returns : goal.returns
returns c = c.loop-location.invariant ∙ ap (steps_along c.args.automaton.now c.args.counts.now)
    (take_all c.loop-location.location-index c.args.order.now c.loop-location-test.false)
