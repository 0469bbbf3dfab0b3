use Rattle.ta_walk.proofs.Common.{◌≡◌, ◌∙◌, ◌+◌, ◌<◌, ◌≤◌, ◌^◌, ℕ, drop, length, ap, arith, sym, subst, common_denominator, multiple_of}
use Rattle.ta_moments.specs.Vertices.{denominator_with}
use Rattle.ta_simplex.specs.Vertex.{parts_of}
use Rattle.ta_walk.proofs.Lowest.{left_after, next_denominator, next_some, no_less}
use Rattle.ta_walk.proofs.moment_vertices.common_denominator.Goals as goal

pub returns-in-None : goal.returns-in-None
returns-in-None c less =
    let fs = c.args.values.now in
    let i = c.loop-value.value-index in
    let d = c.loop-value.denominator in
    let rest = parts_of (drop (i + 1) fs) in
    let lowest = c.lowest_denominator.ensures.value in
    let whole : common_denominator (parts_of fs) ≡ denominator_with (multiple_of d c.lowest_denominator.result) rest =
    c.loop-value.invariant.is ∙ next_denominator fs i c.value-item.result d c.loop-value-test.true c.value-item.is
    ∙ ap (λ (n : ℕ). denominator_with (multiple_of d n) rest) (sym lowest) in
    let some : 0 < multiple_of d c.lowest_denominator.result = subst (λ (n : ℕ). 0 < multiple_of d n) (sym lowest)
    (next_some c.value-item.result d c.loop-value.invariant.some) in
    let more = no_less (multiple_of d c.lowest_denominator.result) (drop (i + 1) fs) some in
    c.in-None.ensures (omega (arith, whole, more, less))

pub loop-value-preserved : goal.loop-value-preserved
loop-value-preserved c =
    let fs = c.args.values.now in
    let i = c.loop-value.value-index in
    let d = c.loop-value.denominator in
    let rest = parts_of (drop (i + 1) fs) in
    let lowest = c.lowest_denominator.ensures.value in
    let next = c.in-Some.ensures in
    let some : 0 < multiple_of d c.lowest_denominator.result = subst (λ (n : ℕ). 0 < multiple_of d n) (sym lowest)
    (next_some c.value-item.result d c.loop-value.invariant.some) in
    record {
      is = c.loop-value.invariant.is ∙ next_denominator fs i c.value-item.result d c.loop-value-test.true c.value-item.is
          ∙ ap (λ (n : ℕ). denominator_with (multiple_of d n) rest) (sym lowest) ∙ ap (λ (n : ℕ). denominator_with n rest) (sym next.1);
      some = subst (λ (n : ℕ). 0 < n) (sym next.1) some;
      fits = subst (λ (n : ℕ). n < 2 ^ 127) (sym next.1) next.0;
    }

pub returns : goal.returns
returns c =
    let fs = c.args.values.now in
    let low = c.loop-value-test.false in
    let past : length fs ≤ c.loop-value.value-index = omega (arith, low) in
    let same = c.loop-value.invariant.is ∙ left_after fs c.loop-value.value-index c.loop-value.denominator past in
    (subst (λ (n : ℕ). n < 2 ^ 127) (sym same) c.loop-value.invariant.fits, sym same)
