use Rattle.ta_encode.proofs.Common.{◌≡◌, ℕ, ℤ, ◌≤◌, List, to_z, length, arith, sym, ap, ◌∙◌, subst, w128, AllByRecursion, coefficient}
use Rattle.ta_encode.proofs.Running.{Small, count_fits, count_more, count_past, counted_all}
use Rattle.ta_encode.proofs.place.update_of.Goals.{then-number-variable, else-number-variable}
use Rattle.ta_encode.proofs.place.update_of.Goals as goal

pub overflow_add-total : goal.overflow_add-total
overflow_add-total c =
    let items = c.as_slice-number-items.result.now in
    let same = c.as_slice-number-items.ensures in
    count_fits items c.loop-number.number-index c.args.variable (to_z w128 c.loop-number.total-bits) (subst (AllByRecursion Small) (sym same) c.requires.small)
    (subst (λ (ts : List (ℕ × ℤ)). length ts ≤ 16) (sym same) c.requires.limit) c.loop-number-test.true c.loop-number.invariant

pub loop-number-preserved : goal.loop-number-preserved
loop-number-preserved c =
    let items = c.as_slice-number-items.result.now in
    let same = c.as_slice-number-items.ensures in
    let each = subst (AllByRecursion Small) (sym same) c.requires.small in
    let few = subst (λ (ts : List (ℕ × ℤ)). length ts ≤ 16) (sym same) c.requires.limit in
    elim c.if-number-variable.branch [
      | then-number-variable w ↦ count_more items c.loop-number.number-index c.args.variable (to_z w128 c.loop-number.total-bits)
          (to_z w128 c.if-number-variable.total-bits) each few c.loop-number-test.true c.loop-number.invariant w.if-number-variable.true w.total-is
      | else-number-variable w ↦ count_past items c.loop-number.number-index c.args.variable (to_z w128 c.loop-number.total-bits)
          (to_z w128 c.if-number-variable.total-bits) c.loop-number-test.true c.loop-number.invariant w.if-number-variable.false w.total-is
    ]

pub returns-clause-value : goal.returns-clause-value
returns-clause-value c =
    let end : c.loop-number.number-index ≡ length c.as_slice-number-items.result.now =
    (let low = c.loop-number-test.false in let high = c.loop-number.auto.number-index-end in omega arith) in
    counted_all c.as_slice-number-items.result.now c.loop-number.number-index c.args.variable (to_z w128 c.loop-number.total-bits) end c.loop-number.invariant
    ∙ ap (λ ts. coefficient ts c.args.variable) c.as_slice-number-items.ensures

pub returns-clause-small : goal.returns-clause-small
returns-clause-small c =
    let end : c.loop-number.number-index ≤ 16 =
    (let same = ap length c.as_slice-number-items.ensures in let few = c.requires.limit in let high = c.loop-number.auto.number-index-end in omega arith) in
    let small = c.loop-number.invariant.small in
    omega arith
