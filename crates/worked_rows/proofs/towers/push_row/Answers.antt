use Rattle.worked_rows.proofs.Common.{◌^◌, arith, sym, subst, AllBelow}
use Rattle.ta_linear.specs.Terms.{IsNormal}
use Rattle.ta_linear.proofs.TermLemmas.{IsNormal-higher}
use Rattle.ta_dense.proofs.PushedRows.{AllBelow-push}
use Rattle.worked_rows.proofs.towers.push_row.Goals as goal

pub invariant_of-form-clause-normal : goal.invariant_of-form-clause-normal
invariant_of-form-clause-normal c =
    let same = c.from_vec.ensures in
    let narrow : IsNormal 0 c.args.unknowns c.from_vec.result = rw same c.requires.terms in
    IsNormal-higher 0 c.args.unknowns (2 ^ 32) c.from_vec.result (omega arith) narrow

pub returns-clause-below : goal.returns-clause-below
returns-clause-below c =
    let same = c.from_vec.ensures in
    let narrow : IsNormal 0 c.args.unknowns c.from_vec.result = rw same c.requires.terms in
    subst (AllBelow c.args.unknowns) (sym c.in_ok-push.ensures.items) (AllBelow-push c.args.unknowns c.args.rows.now.items _ c.requires.rows narrow)
