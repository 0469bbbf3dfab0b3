use Rattle.ta_farkas.proofs.Common.{ℕ, ◌+◌, ◌-◌, ◌^◌, ◌*ℤ◌, arith, rules, get_or, pos, ap, List, Option, ℤ, drop, drop_more, None, to_z-of_z, SFits, w128}
use Rattle.ta_farkas.proofs.Adding.{added-at, added-end, added-next, kept-beside, none-before}
use Rattle.ta_farkas.proofs.add_terms.Goals as goal
use Rattle.ta_farkas.proofs.add_terms.Goals.{then-unknown-first+else-at-ge-BLOCK, else-unknown-first}

pub returns-then-at-ge-BLOCK : goal.returns-then-at-ge-BLOCK
returns-then-at-ge-BLOCK c =
    let ts = c.args.terms.now in
    let i = c.loop-unknown.unknown-index in
    let inv = c.loop-unknown.invariant in
    let fm : SFits w128 c.args.multiplier = search rules in
    let columns = simp to_z-of_z at inv.columns in
    λ j b.
    added-end c.args.multiplier ts (drop i ts) (c.args.first + j) (get_or c.args.sums.now j None) (get_or c.loop-unknown.sums j None)
    (none-before inv.low (2 ^ 32) ts i (c.args.first + j) c.loop-unknown-test.true inv.normal (omega (arith, c.if-at-ge-BLOCK.true)))
    (columns j b)

pub loop-unknown-preserved : goal.loop-unknown-preserved
loop-unknown-preserved c =
    let ts = c.args.terms.now in
    let i = c.loop-unknown.unknown-index in
    let t = get_or ts i (0, pos 0) in
    let inv = c.loop-unknown.invariant in
    let m = c.args.multiplier in
    let sums = c.loop-unknown.sums in
    let written = c.if-unknown-first.sums in
    let at = t.0 - c.args.first in
    let fm : SFits w128 m = search rules in
    let ft : SFits w128 t.1 = search rules in
    let columns = simp to_z-of_z at inv.columns in
    let normal = rw (drop_more ts i (0, pos 0) c.loop-unknown-test.true) at inv.normal in
    let old = c.args.sums.now in
    let next = λ (j : ℕ).
    added-next m ts inv.low (2 ^ 32) i (c.args.first + j) (get_or old j None) (get_or sums j None) (get_or written j None) c.loop-unknown-test.true inv.normal
    in
    simp to_z-of_z record {
      low = t.0 + 1;
      normal = normal.2;
      columns = λ j b. elim c.if-unknown-first.branch [
        | then-unknown-first+else-at-ge-BLOCK w ↦ (
            let added = simp to_z-of_z at w.add.ensures in
            next j
            (λ e. added-at (m *ℤ t.1) sums written at j w.add.result w.sums-is (omega (arith, c.if-unknown-first.array_long)) (omega (arith, e)) added)
            (λ ne. kept-beside sums written at j w.add.result w.sums-is (λ e. ne (omega (arith, e, w.if-unknown-first))))
            (columns j b))
        | else-unknown-first w ↦
            next j
            (λ e. absurd (omega (arith, e, w.if-unknown-first)))
            (λ ne. ap (λ (xs : List (Option ℤ)). get_or xs j None) w.sums-is)
            (columns j b)
      ];
    }
