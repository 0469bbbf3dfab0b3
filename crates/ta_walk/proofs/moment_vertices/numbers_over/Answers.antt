use Rattle.ta_walk.proofs.Common.{Some, ◌∙◌, ◌+◌, ◌++◌, ◌∷◌, [], ◌≤◌, ℤ, List, ap, arith, drop, length, rules, sym, FitsSigned, w128, to_z-of_z, number_over}
use Rattle.ta_walk.proofs.Common.{numbers_over}
use Rattle.ta_simplex.specs.Vertex.{parts_of}
use Rattle.ta_walk.proofs.Lowest.{all_or_none, last_numbers, next_numbers, one_in, one_out}
use Rattle.ta_walk.proofs.moment_vertices.numbers_over.Goals as goal

pub returns-in-None : goal.returns-in-None
returns-in-None c =
    let fs = c.args.values.now in
    let i = c.loop-value.value-index in
    let n = c.args.denominator in
    let f = c.value-item.result in
    let before = c.loop-value.numbers.items in
    sym (c.loop-value.invariant ∙ next_numbers n fs i f before c.loop-value-test.true c.value-item.is
    ∙ one_out before (numbers_over n (parts_of (drop (i + 1) fs))) (number_over n (f.top, f.bottom)) c.in-None.ensures)

pub loop-value-preserved : goal.loop-value-preserved
loop-value-preserved c =
    let fs = c.args.values.now in
    let i = c.loop-value.value-index in
    let n = c.args.denominator in
    let f = c.value-item.result in
    let before = c.loop-value.numbers.items in
    let rest = numbers_over n (parts_of (drop (i + 1) fs)) in
    let z = number_over n (f.top, f.bottom) in
    let fits : FitsSigned w128 c.in-Some.number = search rules in
    let items = simp to_z-of_z at c.in_ok-push-in-Some.ensures.items in
    c.loop-value.invariant ∙ next_numbers n fs i f before c.loop-value-test.true c.value-item.is
    ∙ one_in before rest z c.in-Some.ensures.0
    ∙ sym (ap (λ (zs : List ℤ). all_or_none zs rest) (items ∙ ap (λ (y : ℤ). before ++ y ∷ []) c.in-Some.ensures.1))

pub returns : goal.returns
returns c =
    let fs = c.args.values.now in
    let i = c.loop-value.value-index in
    let low = c.loop-value-test.false in
    let past : length fs ≤ i = omega (arith, low) in
    ap Some c.from_vec.ensures ∙ sym (c.loop-value.invariant ∙ last_numbers c.args.denominator fs i c.loop-value.numbers.items past)
