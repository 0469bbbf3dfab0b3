use Rattle.ta_revised.proofs.Common.{get_or, pos, to_z-of_z, w64}
use Rattle.ta_revised.proofs.RowValues.{SmallTerm, computed_term, row_next, small_term, sum_fits, term_fits}
use Rattle.ta_revised.proofs.short_rows.row_value_of.Goals as goal

pub bounds-values-unknown : goal.bounds-values-unknown
bounds-values-unknown c =
    (small_term c.args.scale c.args.values.now _ _ _ c.loop-unknown.unknown-index (0, pos 0) c.requires.small
    c.loop-unknown.invariant c.loop-unknown-test.true).below

-- the term of this step
term : (c : goal.After-value-1) → SmallTerm c.args.values.now (get_or c.args.terms.now c.loop-unknown.unknown-index (0, pos 0))
term c =
    small_term c.args.scale c.args.values.now _ _ _ c.loop-unknown.unknown-index (0, pos 0) c.requires.small
    c.loop-unknown.invariant c.loop-unknown-test.true

pub overflow_mul-value-in-loop-unknown : goal.overflow_mul-value-in-loop-unknown
overflow_mul-value-in-loop-unknown c = rw (computed_term _ _ (term c)) (term_fits _ _ (term c))

pub overflow_add-value : goal.overflow_add-value
overflow_add-value c =
    let next = row_next _ _ _ _ _ _ _ (term c) c.loop-unknown.invariant c.loop-unknown-test.true in
    rw (computed_term _ _ (term c), to_z-of_z w64 _ (term_fits _ _ (term c))) (sum_fits _ _ _ _ _ next)

pub loop-unknown-preserved : goal.loop-unknown-preserved
loop-unknown-preserved c =
    let next = row_next _ _ _ _ _ _ _ (term c) c.loop-unknown.invariant c.loop-unknown-test.true in
    rw (computed_term _ _ (term c), to_z-of_z w64 _ (term_fits _ _ (term c)), to_z-of_z w64 _ (sum_fits _ _ _ _ _ next)) next
