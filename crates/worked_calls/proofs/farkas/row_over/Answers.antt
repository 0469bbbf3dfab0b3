use Rattle.std.proofs.Common.{◌≤◌, ◌^◌, arith}
use Rattle.ta_linear.specs.Terms.{IsNormal}
use Rattle.ta_linear.proofs.TermLemmas.{IsNormal-higher}
use Rattle.worked_calls.proofs.farkas.row_over.Goals as goal

pub invariant_of-form-clause-normal : goal.invariant_of-form-clause-normal
invariant_of-form-clause-normal g c =
    let n = c.args.unknowns in
    let same = c.list_of.ensures in
    let below : n ≤ 2 ^ 32 = omega arith in
    let narrow : IsNormal 0 n c.list_of.result = rw same c.requires.terms in
    IsNormal-higher 0 n (2 ^ 32) c.list_of.result below narrow
