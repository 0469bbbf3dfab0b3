use Rattle.ta_simplex.proofs.Common.{sym, subst, AreLeafMultipliers}
use Rattle.ta_simplex.proofs.LeafLemmas.{multipliers_are_leaf}
use Rattle.ta_simplex.proofs.revised_ends.revised_multipliers.Goals as goal

pub returns : goal.returns
returns c = λ t row stuck.
    let s = c.args.system.now in
    let listed = rw c.deref.ensures.value at c.in_ok-terms.ensures in
    subst (AreLeafMultipliers s t row) (sym c.from_vec.ensures)
    (multipliers_are_leaf s t row c.in_ok-multipliers.multipliers.items c.in_ok-terms.terms.items stuck.revised.dictionary stuck.stuck
    (c.in_ok-multipliers.ensures.fills t row stuck) listed)
