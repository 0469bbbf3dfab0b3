use Rattle.ta_encode.proofs.Common.{◌≡◌, ◌-◌, ◌≤◌, ◌<◌, pos, List, [], ◌∷◌, length, map, get_or, slice_get, Some, arith, ap, refl, subst, Row, slice_get-get_or}
use Rattle.ta_encode.proofs.Common.{slice_get_read, Bound, Low, bound_row, AddsRows}
use Rattle.ta_encode.proofs.Naming.{adds_copy, adds_bound, no_row}
use Rattle.ta_encode.proofs.named.push_named.Goals as goal

pub returns-then-number-written : goal.returns-then-number-written
returns-then-number-written c = λ ls is.
    let rows = c.as_slice-written.result.now in
    let at = subst (λ (rs : List Row). slice_get rs c.args.number ≡ Some c.index-written-number.result) c.as_slice-written.ensures
    (slice_get_read rows (length rows) c.args.number c.index-written-number.result refl c.if-number-written.true c.index-written-number.is) in
    adds_copy ls (map bound_row c.args.bounds.now) c.args.system.now.rows c.args.number c.args.system.now.unknowns c.index-written-number.result
    c.in_ok-copy_row.field-0 c.args.rows.now.items c.push.new.self.items is c.args.system.now.within at c.in_ok-copy_row.ensures.constant
    c.in_ok-copy_row.ensures.terms c.in_ok-push.ensures.items

pub returns-then-at-bounds : goal.returns-then-at-bounds
returns-then-at-bounds c = λ ls is.
    let count = ap length c.as_slice-written.ensures in
    let past : length c.args.system.now.rows ≤ c.args.number = omega arith in
    let within : c.args.number - length c.args.system.now.rows < length c.args.bounds.now = omega arith in
    let d : Bound = record { unknown = 0; floor = pos 0; side = Low } in
    let n = c.args.system.now.unknowns in
    let before = c.args.rows.now.items in
    let after = c.push_bound.new.rows.items in
    let added = subst (λ (rs : List Row). AddsRows (bound_row (get_or c.args.bounds.now (c.args.number - length rs) d) ∷ []) n before after)
    c.as_slice-written.ensures c.in_ok-push_bound.ensures in
    let at = c.args.number - length c.args.system.now.rows in
    adds_bound ls c.args.bounds.now c.args.system.now.rows c.args.number n (get_or c.args.bounds.now at d) before after is past
    (slice_get-get_or c.args.bounds.now at d within) added

pub returns : goal.returns
returns c = λ ls is.
    let count = ap length c.as_slice-written.ensures in
    let past : length c.args.system.now.rows ≤ c.args.number = omega arith in
    let none : length c.args.bounds.now ≤ c.args.number - length c.args.system.now.rows = omega arith in
    no_row ls c.args.bounds.now c.args.system.now.rows c.args.number is past none
