use Rattle.ta_simplex.proofs.Common.{◌+◌, ℕ, ℤ, get_or, pos, rules, sym, ap, subst, Vec, Global, to_z-of_z, SFits, of_z, w128, ListsSlots, zero_from_bits}
use Rattle.ta_simplex.proofs.SlotLemmas.{list-more, list-skip}
use Rattle.ta_simplex.proofs.multipliers.terms_of.Goals.{then-multipliers-row-ne0+in_ok-push, else-multipliers-row-ne0}
use Rattle.ta_simplex.proofs.multipliers.terms_of.Goals as goal

pub loop-row-preserved : goal.loop-row-preserved
loop-row-preserved c =
    let ms = c.args.multipliers.now in
    let row = c.loop-row.row in
    let old = c.loop-row.terms.items in
    let f : SFits w128 (get_or c.args.multipliers.now c.loop-row.row (pos 0)) = search rules in
    let P : Vec (ℕ × ℤ) Global → Type 0 = λ v. ListsSlots ms (row + 1) v.items in
    elim c.if-multipliers-row-ne0.branch [
      | then-multipliers-row-ne0+in_ok-push w ↦
          let items = simp to_z-of_z at w.in_ok-push.ensures.items in
          subst P (sym w.terms-is) (subst (ListsSlots ms (row + 1)) (sym items)
          (list-more ms row old c.requires.natural c.loop-row.invariant (λ e. w.if-multipliers-row-ne0.true (ap (of_z w128) e))))
      | else-multipliers-row-ne0 w ↦
          subst P (sym w.terms-is) (list-skip ms row old c.loop-row.invariant
          (zero_from_bits (get_or c.args.multipliers.now c.loop-row.row (pos 0)) f w.if-multipliers-row-ne0.false))
    ]
