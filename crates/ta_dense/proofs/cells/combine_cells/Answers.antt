use Rattle.ta_dense.proofs.Common.{set, refl, sym, subst, ℤ, InRange, ℕ, arith, pos, get_or, rules, below_more, to_z-of_z, SFits, w128, done_more, rest_more}
use Rattle.ta_dense.proofs.Common.{combine}
use Rattle.ta_dense.proofs.CellSteps.{target_at_column, target_elsewhere, target_done}
use Rattle.ta_dense.proofs.cells.combine_cells.Goals as goal
use Rattle.ta_dense.proofs.cells.combine_cells.Goals.{then-j-column, else-j-column+in-Some}

pub returns-in-None-clause-within : goal.returns-in-None-clause-within
returns-in-None-clause-within c =
    let fp = c.ranges.p in
    let fq = c.ranges.q in
    let ft = c.ranges.turned in
    let fx : SFits w128 (get_or c.loop-j.cells c.loop-j.j (pos 0)) = search rules in
    let fc : SFits w128 (get_or c.args.chosen.now c.loop-j.j (pos 0)) = search rules in
    let inv = simp to_z-of_z at c.loop-j.invariant in
    let e = inv.rest c.loop-j.j (omega arith) in
    let f = rw e at (simp to_z-of_z at c.in-None.ensures) in
    (λ t. absurd (cc), λ all. absurd (f (all c.loop-j.j c.loop-j-test.true c.if-j-column.false)))

pub loop-j-preserved : goal.loop-j-preserved
loop-j-preserved c =
    let fp = c.ranges.p in
    let fq = c.ranges.q in
    let ft = c.ranges.turned in
    let inv = simp to_z-of_z at c.loop-j.invariant in
    simp to_z-of_z
    (elim c.if-j-column.branch [
      | then-j-column w ↦
          let e = simp to_z-of_z at w.cells-is in
          let at_column = target_at_column c.args.p c.args.q c.args.cells.now c.args.chosen.now c.args.column c.loop-j.j c.args.turned c.requires.long
          c.loop-j-test.true w.if-j-column.true in
          rw e record {
            done = done_more (λ (k : ℕ). get_or (set (combine c.args.p c.args.q c.args.cells.now c.args.chosen.now) c.args.column c.args.turned) k (pos 0))
                (pos 0) c.loop-j.cells c.loop-j.j c.args.turned (omega arith) at_column inv.done;
            rest = rest_more (pos 0) c.args.cells.now c.loop-j.cells c.loop-j.j c.args.turned inv.rest;
            fits = below_more _ _ inv.fits (λ ne. absurd (ne w.if-j-column.true));
          }
      | else-j-column+in-Some w ↦
          let fx : SFits w128 (get_or c.loop-j.cells c.loop-j.j (pos 0)) = search rules in
          let fc : SFits w128 (get_or c.args.chosen.now c.loop-j.j (pos 0)) = search rules in
          let fs : SFits w128 w.in-Some.cell = search rules in
          let e = simp to_z-of_z at w.cells-is in
          let r = inv.rest c.loop-j.j (omega arith) in
          let f = rw r at (simp to_z-of_z at w.in-Some.ensures) in
          let elsewhere = target_elsewhere c.args.p c.args.q c.args.cells.now c.args.chosen.now c.args.column c.loop-j.j c.args.turned w.in-Some.cell
          c.requires.long w.if-j-column.false f.1 in
          rw e record {
            done = done_more (λ (k : ℕ). get_or (set (combine c.args.p c.args.q c.args.cells.now c.args.chosen.now) c.args.column c.args.turned) k (pos 0))
                (pos 0) c.loop-j.cells c.loop-j.j w.in-Some.cell (omega arith) elsewhere inv.done;
            rest = rest_more (pos 0) c.args.cells.now c.loop-j.cells c.loop-j.j w.in-Some.cell inv.rest;
            fits = below_more _ _ inv.fits (λ ne. f.0);
          }
    ])

pub returns-clause-value : goal.returns-clause-value
returns-clause-value c =
    let fp = c.ranges.p in
    let fq = c.ranges.q in
    let ft = c.ranges.turned in
    let inv = simp to_z-of_z at c.loop-j.invariant in
    target_done c.args.p c.args.q c.args.cells.now c.args.chosen.now c.loop-j.cells c.args.column c.loop-j.j c.args.turned c.requires.long (omega arith)
    (omega arith) inv.done

pub loop-j-init : goal.loop-j-init
loop-j-init c = record { done = λ k h. absurd (omega arith); rest = λ k h. refl; fits = λ k h apart. absurd (omega arith) }

pub combined-requires : goal.combined-requires
combined-requires c =
    let fx : SFits w128 (get_or c.loop-j.cells c.loop-j.j (pos 0)) = search rules in
    let P : ℤ → Type 0 = InRange in
    let e = c.loop-j.invariant.rest c.loop-j.j (omega arith) in
    simp to_z-of_z (subst P (sym e) (c.requires.cells c.loop-j.j (pos 0) c.loop-j-test.true))

pub returns-clause-within : goal.returns-clause-within
returns-clause-within c =
    let fp = c.ranges.p in
    let fq = c.ranges.q in
    let ft = c.ranges.turned in
    let inv = simp to_z-of_z at c.loop-j.invariant in
    (λ t k h apart. inv.fits k (omega arith) apart, λ all. refl)
