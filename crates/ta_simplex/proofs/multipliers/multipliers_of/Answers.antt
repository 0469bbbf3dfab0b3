use Rattle.ta_simplex.proofs.Common.{sym, subst, AreLeafMultipliers}
use Rattle.ta_simplex.proofs.LeafLemmas.{multipliers_are_leaf}
use Rattle.ta_simplex.proofs.multipliers.multipliers_of.Goals as goal

pub returns : goal.returns
returns g c =
    let s = c.args.system.now in
    let t = g.D.Dictionary.tableau c.args.dictionary.now in
    let listed = rw c.deref.ensures.value at c.in_ok-terms.ensures in
    subst (AreLeafMultipliers s t c.args.row) (sym c.from_vec.ensures)
    (multipliers_are_leaf s t c.args.row c.in_ok-multipliers.multipliers.items c.in_ok-terms.terms.items c.requires.dictionary c.requires.stuck
    c.in_ok-multipliers.ensures listed)
