use Rattle.ta_revised.proofs.Common.{◌≡◌, ◌∙◌, List, ℤ, int_div, map, length, ap, arith, rules, with_items_is, to_z-of_z, length-map, arc_value, with_items}
use Rattle.ta_revised.proofs.Common.{zeros_behind}
use Rattle.ta_revised.proofs.RowCellFacts.{map_behind, zero_div, own_behind, own_short}
use Rattle.ta_revised.proofs.row_cells.RowCells.divide.Goals as goal

-- the cells of its own, changed
changed : (c : goal.After-self-2-1) → (with_items c.in-Some.cells.now c.divide_narrow.new.cells).items
    ≡ map (λ z. int_div z c.args.divisor) (zeros_behind (arc_value c.self.inside.stored).items 0)
changed c =
    let fd = c.ranges.divisor in
    let owned = c.deref_mut.ensures.value ∙ ap (λ (v : _). v.items) c.in-Some.ensures.value ∙ c.in_ok-own.ensures.value in
    with_items_is c.in-Some.cells.now c.divide_narrow.new.cells (c.divide_narrow.auto.cells ∙ ap length c.deref_mut.ensures.value ∙ search rules)
    ∙ (simp to_z-of_z at c.divide_narrow.ensures) ∙ ap (map (λ (z : ℤ). int_div z c.args.divisor)) owned

pub invariant_of-self : goal.invariant_of-self
invariant_of-self c = rw c.in_err-own.ensures.same c.self.invariant

pub invariant_of-self-2 : goal.invariant_of-self-2
invariant_of-self-2 c =
    let xs = (arc_value c.self.inside.stored).items in
    let short = own_short xs c.self.inside.count 0 c.self.invariant.short (omega arith) in
    let long = length-map (zeros_behind xs 0) (λ (z : ℤ). int_div z c.args.divisor) in
    record { short = rw (changed c) (omega arith) }

pub returns : goal.returns
returns c =
    let xs = (arc_value c.self.inside.stored).items in
    let count = c.self.inside.count in
    let divided : ℤ → ℤ = λ z. int_div z c.args.divisor in
    ap (λ (ys : List ℤ). zeros_behind ys count) (changed c) ∙ map_behind divided count (zeros_behind xs 0) (zero_div c.args.divisor c.requires)
    ∙ ap (map divided) (own_behind xs count 0 c.self.invariant.short (omega arith)) ∙ ap (map divided) c.self.view_is
