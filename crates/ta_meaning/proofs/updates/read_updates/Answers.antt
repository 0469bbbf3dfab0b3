use Rattle.ta_meaning.proofs.Common.{◌≡◌, inr, ◌+◌, ℕ, List, [], drop, sym, subst, err_is, drop_of_length-le, next_item, TreeUpdate, First, kinds_of, names_at}
use Rattle.ta_meaning.proofs.Common.{variable_faults, IsNewVariable}
use Rattle.ta_meaning.proofs.UpdateReading.{UpdatesReading, updates_begin, variable_stops, amount_stops, updates_more, updates_end}
use Rattle.ta_meaning.proofs.updates.read_updates.Goals as goal

pub returns-in_err-variable : goal.returns-in_err-variable
returns-in_err-variable c =
    let ns = kinds_of c.args.places.now in
    let all = c.args.updates.now in
    let i = c.loop-update.update-index in
    let here = subst (λ (us : List TreeUpdate). UpdatesReading ns all us c.loop-update.seen.items c.loop-update.read.items)
    (next_item all i c.update-item.result c.loop-update-test.true c.update-item.is) c.loop-update.invariant in
    rw (err_is c.from_residual.result _ c.from_residual.ensures.1)
    (variable_stops ns all (drop (i + 1) all) c.update-item.result c.loop-update.seen.items c.loop-update.read.items c.in_err-variable.field-0.0 here
    (inr (subst (λ (seen : List ℕ). First (variable_faults ns (names_at ns.shared seen) c.update-item.result.name) c.in_err-variable.field-0.0)
    c.as_slice.ensures.value c.in_err-variable.ensures)))

pub returns-in_err-amount : goal.returns-in_err-amount
returns-in_err-amount c =
    let ns = kinds_of c.args.places.now in
    let all = c.args.updates.now in
    let i = c.loop-update.update-index in
    let here = subst (λ (us : List TreeUpdate). UpdatesReading ns all us c.loop-update.seen.items c.loop-update.read.items)
    (next_item all i c.update-item.result c.loop-update-test.true c.update-item.is) c.loop-update.invariant in
    let told = subst (λ (seen : List ℕ). (variable_faults ns (names_at ns.shared seen) c.update-item.result.name ≡ [])
    × IsNewVariable ns.shared seen c.update-item.result.name.name c.in_ok-variable.variable) c.as_slice.ensures.value c.in_ok-variable.ensures in
    rw (err_is c.from_residual-in_err-amount.result _ c.from_residual-in_err-amount.ensures.1)
    (amount_stops ns all (drop (i + 1) all) c.update-item.result c.loop-update.seen.items c.loop-update.read.items c.in_err-amount.field-0.0 here told.0
    (inr c.in_err-amount.ensures))

pub loop-update-preserved : goal.loop-update-preserved
loop-update-preserved c =
    let ns = kinds_of c.args.places.now in
    let all = c.args.updates.now in
    let i = c.loop-update.update-index in
    let here = subst (λ (us : List TreeUpdate). UpdatesReading ns all us c.loop-update.seen.items c.loop-update.read.items)
    (next_item all i c.update-item.result c.loop-update-test.true c.update-item.is) c.loop-update.invariant in
    let told = subst (λ (seen : List ℕ). (variable_faults ns (names_at ns.shared seen) c.update-item.result.name ≡ [])
    × IsNewVariable ns.shared seen c.update-item.result.name.name c.in_ok-variable.variable) c.as_slice.ensures.value c.in_ok-variable.ensures in
    let more = updates_more ns all (drop (i + 1) all) c.update-item.result c.loop-update.seen.items c.loop-update.read.items c.push_update.new.updates.items
    c.in_ok-variable.variable c.in_ok-amount.amount here told.0 told.1 c.in_ok-amount.ensures.0 c.in_ok-amount.ensures.1 c.in_ok-push_update.ensures in
    subst (λ (seen : List ℕ). UpdatesReading ns all (drop (i + 1) all) seen c.push_update.new.updates.items) (sym c.in_ok-push.ensures.items) more

pub returns : goal.returns
returns c =
    let all = c.args.updates.now in
    updates_end (kinds_of c.args.places.now) all _ _ c.loop-update.read.items (drop_of_length-le all c.loop-update-test.false) c.loop-update.invariant

pub loop-update-init : goal.loop-update-init
loop-update-init c = rw (c.new-seen.ensures.items, c.new-read.ensures.items) (updates_begin (kinds_of c.args.places.now) c.args.updates.now)

pub variable_in-requires : goal.variable_in-requires
variable_in-requires c = rw c.as_slice.ensures.value c.loop-update.invariant.known
