use Rattle.ta_meaning.proofs.Common.{◌≡◌, ◌∙◌, sym, ℕ, List, Some, slice_get, subst, arith, err_is, eqb-true, eqb-false, FileFault, First}
use Rattle.ta_meaning.proofs.ListedPlaces.{shared_part_is, used_in, variable_first, variable_again, variable_new}
use Rattle.ta_meaning.proofs.updates.variable_in.Goals as goal

pub returns-in_err-variable : goal.returns-in_err-variable
returns-in_err-variable c =
    let places = c.args.places.now in
    let name = c.args.name.now in
    let e = c.in_err-variable.field-0.0 in
    rw (err_is c.from_residual.result _ c.from_residual.ensures.1)
    (variable_first places c.args.seen.now name e c.requires
    (subst (λ (fs : List FileFault). First fs e) (used_in places _ _ name (shared_part_is places)) c.in_err-variable.ensures))

pub returns-then-contains : goal.returns-then-contains
returns-then-contains c =
    let places = c.args.places.now in
    let o = c.in_ok-variable.ensures in
    let named = subst (λ (names : List (List ℕ)). slice_get names c.in_ok-variable.variable ≡ Some c.args.name.now.name) (shared_part_is places) o.1 in
    let w = c.if-contains.ensures.cases in
    variable_again places c.args.seen.now c.args.name.now c.in_ok-variable.variable (w.0, w.1, eqb-true _ _ (w.2 c.in_ok-variable.variable)) named

pub returns : goal.returns
returns c =
    let places = c.args.places.now in
    let o = c.in_ok-variable.ensures in
    let named = subst (λ (names : List (List ℕ)). slice_get names c.in_ok-variable.variable ≡ Some c.args.name.now.name) (shared_part_is places) o.1 in
    let none = c.if-contains.ensures.cases in
    variable_new places c.args.seen.now c.args.name.now c.in_ok-variable.variable c.requires
    (λ w. eqb-false _ _ (none w.0 c.in_ok-variable.variable (omega arith) w.1) w.2) (sym (used_in places _ _ c.args.name.now (shared_part_is places)) ∙ o.0)
    named
