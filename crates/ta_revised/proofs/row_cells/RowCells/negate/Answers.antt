use Rattle.ta_revised.proofs.Common.{◌≡◌, ◌∙◌, List, ℤ, neg_ℤ, map, length, ap, refl, arith, rules, with_items_is, length-map, arc_value, with_items}
use Rattle.ta_revised.proofs.Common.{zeros_behind}
use Rattle.ta_revised.proofs.RowCellFacts.{map_behind, own_behind, own_short}
use Rattle.ta_revised.proofs.row_cells.RowCells.negate.Goals as goal

-- the cells of its own, changed
changed : (c : goal.After-self-2-1) → (with_items c.in-Some.cells.now c.negate_narrow.new.cells).items
    ≡ map neg_ℤ (zeros_behind (arc_value c.self.inside.stored).items 0)
changed c =
    let owned = c.deref_mut.ensures.value ∙ ap (λ (v : _). v.items) c.in-Some.ensures.value ∙ c.in_ok-own.ensures.value in
    with_items_is c.in-Some.cells.now c.negate_narrow.new.cells (c.negate_narrow.auto.cells ∙ ap length c.deref_mut.ensures.value ∙ search rules)
    ∙ c.negate_narrow.ensures ∙ ap (map neg_ℤ) owned

pub invariant_of-self : goal.invariant_of-self
invariant_of-self c = rw c.in_err-own.ensures.same c.self.invariant

pub invariant_of-self-2 : goal.invariant_of-self-2
invariant_of-self-2 c =
    let xs = (arc_value c.self.inside.stored).items in
    let short = own_short xs c.self.inside.count 0 c.self.invariant.short (omega arith) in
    let long = length-map (zeros_behind xs 0) neg_ℤ in
    record { short = rw (changed c) (omega arith) }

pub returns : goal.returns
returns c =
    let xs = (arc_value c.self.inside.stored).items in
    let count = c.self.inside.count in
    ap (λ (ys : List ℤ). zeros_behind ys count) (changed c) ∙ map_behind neg_ℤ count (zeros_behind xs 0) refl
    ∙ ap (map neg_ℤ) (own_behind xs count 0 c.self.invariant.short (omega arith)) ∙ ap (map neg_ℤ) c.self.view_is
