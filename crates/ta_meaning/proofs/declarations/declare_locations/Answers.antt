use Rattle.ta_meaning.proofs.Common.{◌≡◌, ◌+◌, List, ◌∷◌, drop, map, subst, arith, err_is, drop_of_length-le, next_item, TreeLocation, location_spelled}
use Rattle.ta_meaning.proofs.DeclaredSteps.{DeclaredTo, declaring_begins, declaring_goes_on, declaring_stops, declaring_ends}
use Rattle.ta_meaning.proofs.declarations.declare_locations.Goals as goal

pub loop-location-init : goal.loop-location-init
loop-location-init c = declaring_begins c.args.names.now (map location_spelled c.args.locations.now)

pub returns-in_err-declare : goal.returns-in_err-declare
returns-in_err-declare c =
    let xs = c.args.locations.now in
    let i = c.loop-location.location-index in
    let x = c.location-item.result in
    let start = c.args.names.now in
    let all = map location_spelled xs in
    let here : drop i xs ≡ x ∷ drop (i + 1) xs = next_item xs i x (omega arith) c.location-item.is in
    rw (err_is c.from_residual.result _ c.from_residual.ensures.1)
    (declaring_stops start all c.loop-location.names x.name (map location_spelled (drop (i + 1) xs)) c.in_err-declare.field-0.0
    (subst (λ (ys : List TreeLocation). DeclaredTo start all c.loop-location.names (map location_spelled ys)) here c.loop-location.invariant)
    c.in_err-declare.ensures.faults)

pub loop-location-preserved : goal.loop-location-preserved
loop-location-preserved c =
    let xs = c.args.locations.now in
    let i = c.loop-location.location-index in
    let x = c.location-item.result in
    let start = c.args.names.now in
    let all = map location_spelled xs in
    let here : drop i xs ≡ x ∷ drop (i + 1) xs = next_item xs i x (omega arith) c.location-item.is in
    declaring_goes_on start all c.loop-location.names x.name (map location_spelled (drop (i + 1) xs)) c.declare.new.self
    (subst (λ (ys : List TreeLocation). DeclaredTo start all c.loop-location.names (map location_spelled ys)) here c.loop-location.invariant)
    c.in_ok-declare.ensures.faults.0 c.in_ok-declare.ensures.faults.1

pub returns : goal.returns
returns c =
    let xs = c.args.locations.now in
    declaring_ends c.args.names.now (map location_spelled xs) c.loop-location.names
    (subst (λ (ys : List TreeLocation). DeclaredTo c.args.names.now (map location_spelled xs) c.loop-location.names (map location_spelled ys))
    (drop_of_length-le xs c.loop-location-test.false) c.loop-location.invariant)
