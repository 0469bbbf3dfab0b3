use Rattle.ta_check.proofs.Common.{◌≤◌, ◌^◌, ℕ, inr, reverse, sym, ◌∙◌, subst, refl, arith, AreMultipliers, LeafOf, System, BoundsWithin, unbounded_rows}
use Rattle.ta_check.proofs.Common.{CheckStays, IsFirstFaultOfLeaf, RowNumber, here, WithoutBounds}
use Rattle.ta_check.proofs.Picking.{renumbered_rise, named_here, absent_here, judged_picked, fault_picked}
use Rattle.ta_check.proofs.leaf.judge_leaf.Goals as goal

pub named_rows-requires-clause-rows : goal.named_rows-requires-clause-rows
named_rows-requires-clause-rows g c =
    let search = g.T.Tree.search c.args.tree.now in
    let d = c.args.cursor.now in
    let is = subst (WithoutBounds search (here d)) (sym c.system-system.ensures) c.in_ok-grow.ensures.system in
    (search.rows d.start (reverse d.facts.items), unbounded_rows search d.start (reverse d.facts.items) c.system-system.result.now is)

pub named_rows-requires-clause-bounds : goal.named_rows-requires-clause-bounds
named_rows-requires-clause-bounds g c =
    let search = g.T.Tree.search c.args.tree.now in
    let d = c.args.cursor.now in
    let z = c.system-system.result.now in
    let is = subst (WithoutBounds search (here d)) (sym c.system-system.ensures) c.in_ok-grow.ensures.system in
    subst (BoundsWithin z.unknowns) (sym c.bounds.ensures) (subst (λ (n : ℕ). BoundsWithin n d.bounds.items) (sym is.unknowns) c.requires.word.bounds)

pub returns-in-Absent-clause-taken : goal.returns-in-Absent-clause-taken
returns-in-Absent-clause-taken g c =
    let search = g.T.Tree.search c.args.tree.now in
    let d = c.args.cursor.now in
    let z = c.system-system.result.now in
    let is = subst (WithoutBounds search (here d)) (sym c.system-system.ensures) c.in_ok-grow.ensures.system in
    let small : z.unknowns ≤ 40000000 = subst (λ (s : System). s.unknowns ≤ 40000000) (sym c.system-system.ensures) c.in_ok-grow.ensures.small in
    let told = rw c.in-Absent.is at
    (c.in_ok-row.ensures (search.rows d.start (reverse d.facts.items)) (unbounded_rows search d.start (reverse d.facts.items) z is)) in
    inr (record {
      fault = RowNumber c.in-Absent.row;
      is = refl;
      first = absent_here search d z c.bounds.result.now c.args.multipliers.now c.in-Absent.row
          c.requires.word small is c.bounds.ensures told;
    })

pub check_leaf-requires : goal.check_leaf-requires
check_leaf-requires g c =
    subst (AreMultipliers 0 (2 ^ 32)) (sym (c.as_slice.ensures.value ∙ c.in_ok-again-in-Rows.ensures))
    (renumbered_rise 0 0 c.args.multipliers.now (omega arith) c.requires.pairs)

pub returns-in-Ok-clause-taken : goal.returns-in-Ok-clause-taken
returns-in-Ok-clause-taken g c =
    let search = g.T.Tree.search c.args.tree.now in
    let d = c.args.cursor.now in
    let z = c.system-system.result.now in
    let rows = c.in-Rows.rows in
    let ts = c.args.multipliers.now in
    let is = subst (WithoutBounds search (here d)) (sym c.system-system.ensures) c.in_ok-grow.ensures.system in
    let small : z.unknowns ≤ 40000000 = subst (λ (s : System). s.unknowns ≤ 40000000) (sym c.system-system.ensures) c.in_ok-grow.ensures.small in
    let told = rw c.in-Rows.is at (c.in_ok-row.ensures (search.rows d.start (reverse d.facts.items))
    (unbounded_rows search d.start (reverse d.facts.items) z is)) in
    let named = named_here search d z rows c.bounds.result.now ts c.requires.word small is c.bounds.ensures told in
    let same = c.as_slice.ensures.value ∙ c.in_ok-again-in-Rows.ensures in
    let ok = c.in-Ok.ensures.ok.0 refl in
    judged_picked search (here d) ts rows named c.requires.pairs (subst (LeafOf rows) same ok.0) (subst (CheckStays rows) same ok.1)

pub returns-clause-taken : goal.returns-clause-taken
returns-clause-taken g c =
    let search = g.T.Tree.search c.args.tree.now in
    let d = c.args.cursor.now in
    let z = c.system-system.result.now in
    let rows = c.in-Rows.rows in
    let ts = c.args.multipliers.now in
    let is = subst (WithoutBounds search (here d)) (sym c.system-system.ensures) c.in_ok-grow.ensures.system in
    let small : z.unknowns ≤ 40000000 = subst (λ (s : System). s.unknowns ≤ 40000000) (sym c.system-system.ensures) c.in_ok-grow.ensures.small in
    let told = rw c.in-Rows.is at (c.in_ok-row.ensures (search.rows d.start (reverse d.facts.items))
    (unbounded_rows search d.start (reverse d.facts.items) z is)) in
    let named = named_here search d z rows c.bounds.result.now ts c.requires.word small is c.bounds.ensures told in
    let same = c.as_slice.ensures.value ∙ c.in_ok-again-in-Rows.ensures in
    let first = subst (λ us. IsFirstFaultOfLeaf rows us c.in-Err.fault) same c.in-Err.ensures.fault in
    inr (record { fault = c.in-Err.fault; is = c.fault_in.ensures; first = fault_picked search (here d) ts rows c.in-Err.fault named first })
