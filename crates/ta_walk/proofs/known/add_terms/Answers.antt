use Rattle.ta_walk.proofs.Common.{rules, ◌≡◌, ℤ, Option, Some, None, to_z, subst, sym, FitsSigned, ◌*ℤ◌, w128, to_z-of_z, with_product}
use Rattle.std.specs.Prelude.{◌-ℤ◌}
use Rattle.ta_walk.proofs.MergedTerms.{adding_end, adding_past, adding_none, adding_next}
use Rattle.ta_walk.proofs.known.add_terms.Goals as goal

pub returns-in_default-number_of : goal.returns-in_default-number_of
returns-in_default-number_of c =
    let start : FitsSigned w128 c.args.start = c.ranges.start in
    let now = simp to_z-of_z at c.terms.invariant in
    sym (adding_past now (rw c.in-Some.is at c.next_terms.ensures.some) c.in_default-number_of.ensures)

pub returns-in-None : goal.returns-in-None
returns-in-None c =
    let start : FitsSigned w128 c.args.start = c.ranges.start in
    let now = simp to_z-of_z at c.terms.invariant in
    let sum : ℤ = to_z w128 c.terms.sum-bits in
    let one : FitsSigned w128 c.in-Some.one = search rules in
    let other : FitsSigned w128 c.in-Some.other = search rules in
    let number : FitsSigned w128 c.in-Some-number_of.number = search rules in
    let told = c.in-Some-number_of.ensures in
    let by : Option ℤ → ℤ → Type 0 = λ o z. o ≡ with_product (Some sum) ((c.in-Some.one -ℤ c.in-Some.other) *ℤ z) in
    let raw : by None c.in-Some-number_of.number = simp to_z-of_z at c.in-None.ensures in
    let is = subst (by None) told.1 raw in
    sym (adding_none now (rw c.in-Some.is at c.next_terms.ensures.some) told.0 is)

pub terms-preserved : goal.terms-preserved
terms-preserved c =
    let sum : ℤ = to_z w128 c.terms.sum-bits in
    let one : FitsSigned w128 c.in-Some.one = search rules in
    let other : FitsSigned w128 c.in-Some.other = search rules in
    let number : FitsSigned w128 c.in-Some-number_of.number = search rules in
    let next = c.in-Some-next_sum.next in
    let after : FitsSigned w128 next = search rules in
    let told = c.in-Some-number_of.ensures in
    let by : Option ℤ → ℤ → Type 0 = λ o z. o ≡ with_product (Some sum) ((c.in-Some.one -ℤ c.in-Some.other) *ℤ z) in
    let raw : by (Some next) c.in-Some-number_of.number = simp to_z-of_z at c.in-Some-next_sum.ensures in
    let is = subst (by (Some next)) told.1 raw in
    simp to_z-of_z (adding_next next c.terms.invariant (rw c.in-Some.is at c.next_terms.ensures.some) told.0 is)

pub returns : goal.returns
returns c =
    let start : FitsSigned w128 c.args.start = c.ranges.start in
    let now = simp to_z-of_z at c.terms.invariant in
    let none = rw c.in_default.is at c.next_terms.ensures.none in
    sym (adding_end now none.0 none.1)
