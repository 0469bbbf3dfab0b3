use Rattle.ta_meaning.proofs.Common.{◌≡◌, ◌+◌, List, ◌∷◌, drop, subst, arith, err_is, drop_of_length-le, next_item, Spelled}
use Rattle.ta_meaning.proofs.DeclaredSteps.{DeclaredTo, declaring_begins, declaring_goes_on, declaring_stops, declaring_ends}
use Rattle.ta_meaning.proofs.declarations.declare_names.Goals as goal

pub loop-name-init : goal.loop-name-init
loop-name-init c = declaring_begins c.args.names.now c.args.spelled.now

pub returns-in_err-declare : goal.returns-in_err-declare
returns-in_err-declare c =
    let xs = c.args.spelled.now in
    let i = c.loop-name.name-index in
    let x = c.name-item.result in
    let start = c.args.names.now in
    let here : drop i xs ≡ x ∷ drop (i + 1) xs = next_item xs i x (omega arith) c.name-item.is in
    rw (err_is c.from_residual.result _ c.from_residual.ensures.1)
    (declaring_stops start xs c.loop-name.names x (drop (i + 1) xs) c.in_err-declare.field-0.0
    (subst (λ (ys : List Spelled). DeclaredTo start xs c.loop-name.names ys) here c.loop-name.invariant) c.in_err-declare.ensures.faults)

pub loop-name-preserved : goal.loop-name-preserved
loop-name-preserved c =
    let xs = c.args.spelled.now in
    let i = c.loop-name.name-index in
    let x = c.name-item.result in
    let start = c.args.names.now in
    let here : drop i xs ≡ x ∷ drop (i + 1) xs = next_item xs i x (omega arith) c.name-item.is in
    declaring_goes_on start xs c.loop-name.names x (drop (i + 1) xs) c.declare.new.self
    (subst (λ (ys : List Spelled). DeclaredTo start xs c.loop-name.names ys) here c.loop-name.invariant) c.in_ok-declare.ensures.faults.0
    c.in_ok-declare.ensures.faults.1

pub returns : goal.returns
returns c =
    let xs = c.args.spelled.now in
    declaring_ends c.args.names.now xs c.loop-name.names
    (subst (λ (ys : List Spelled). DeclaredTo c.args.names.now xs c.loop-name.names ys) (drop_of_length-le xs c.loop-name-test.false) c.loop-name.invariant)
