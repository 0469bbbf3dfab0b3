use Rattle.ta_search.proofs.Common.{◌*◌, ap, ◌∙◌, arith, vector_count}
use Rattle.ta_search.proofs.Adding.{many_tells, vectors_push}
use Rattle.ta_search.proofs.lines.are_too_many.Goals as goal

pub returns : goal.returns
returns c =
    λ h low high.
    let below = c.if-holes-ge-MOST_HOLES.false in
    many_tells c.args.holes.now h (c.vector_count.result * c.value_count.result) (omega arith)
    (ap (λ n. n * c.value_count.result) c.vector_count.ensures ∙ ap (λ n. vector_count c.args.holes.now * n) (c.value_count.ensures.count h low high)
    ∙ vectors_push c.args.holes.now h)
