use Rattle.ta_search.proofs.Common.{subst, AddsHole}
use Rattle.ta_search.proofs.Heads.{read_more}
use Rattle.ta_search.proofs.reading.read_template.Goals as goal

pub lines-preserved : goal.lines-preserved
lines-preserved c =
    let adds = subst (λ hs. AddsHole hs c.in-Some.line.now c.in_ok-hole.hole) c.as_slice.ensures.value c.in_ok-hole.ensures.adds in
    rw c.in_ok-push.ensures.items (read_more c.args.bytes.now c.lines.rest.now c.in-Some.line.now c.in-Some.behind.now c.lines.holes.items c.in_ok-hole.hole
    c.lines.invariant c.in-Some.ensures adds)
