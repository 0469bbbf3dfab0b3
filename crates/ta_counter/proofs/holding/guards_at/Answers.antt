use Rattle.ta_counter.proofs.Common.{length, ap, sym, subst, ◌∙◌, ℤ, List, RowsOver}
use Rattle.ta_counter.proofs.Guarding.{rise_rows_over, fall_rows_over}
use Rattle.ta_counter.proofs.holding.guards_at.Goals as goal

pub mask_at-requires-clause-over : goal.mask_at-requires-clause-over
mask_at-requires-clause-over c =
    let places = ap (λ (vs : List ℤ). length vs) c.as_slice-values.ensures.value ∙ c.requires.places in
    subst (RowsOver (length c.as_slice-values.result.now)) (sym c.as_slice.ensures)
    (rise_rows_over c.args.automaton.now (length c.as_slice-values.result.now) places)

pub mask_at-requires-2-clause-over : goal.mask_at-requires-2-clause-over
mask_at-requires-2-clause-over c =
    let places = ap (λ (vs : List ℤ). length vs) c.as_slice-values.ensures.value ∙ c.requires.places in
    subst (RowsOver (length c.as_slice-values.result.now)) (sym c.as_slice-2.ensures)
    (fall_rows_over c.args.automaton.now (length c.as_slice-values.result.now) places)

pub returns : goal.returns
returns c =
    let rise_mask = rw (c.as_slice-values.ensures.value, c.as_slice.ensures) at c.in_ok-rise.ensures.mask in
    let rise_stay = rw (c.as_slice-values.ensures.value, c.as_slice.ensures) at c.in_ok-rise.ensures.stay in
    let fall_mask = rw (c.as_slice-values.ensures.value, c.as_slice-2.ensures) at c.in_ok-fall.ensures.mask in
    let fall_stay = rw (c.as_slice-values.ensures.value, c.as_slice-2.ensures) at c.in_ok-fall.ensures.stay in
    record { stay = record { rise = rise_stay; fall = fall_stay }; rise = rise_mask; fall = fall_mask }
