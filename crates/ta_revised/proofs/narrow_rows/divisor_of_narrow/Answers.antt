use Rattle.ta_revised.proofs.Common.{◌≡◌, ◌∷◌, ap, sym, ◌∙◌, pos, unsigned_abs, ℤ, rules, to_z-of_z, SFits, to_z, w16, narrow_view, divisor_of, gcd_with}
use Rattle.ta_revised.proofs.Common.{gcd_of_is, gcd_with-one}
use Rattle.ta_dense.proofs.ReduceFacts.{divisor_positive}
use Rattle.ta_revised.proofs.narrow_rows.divisor_of_narrow.Goals as goal

value : (c : goal.After-divisor) → c.divisor.result ≡ divisor_of (narrow_view c.args.row.now)
value c =
    let f1 : SFits w16 c.args.row.now.denominator = search rules in
    let f2 : SFits w16 c.args.row.now.constant = search rules in
    let a = simp to_z-of_z at c.unsigned_abs.ensures.value in
    let b = simp to_z-of_z at c.unsigned_abs-2.ensures.value in
    let first = rw (a, b) at (gcd_of_is _ _ _ c.gcd_narrow-first.ensures) in
    rw first at c.divisor.ensures

pub returns-clause-value : goal.returns-clause-value
returns-clause-value c = value c

pub returns-clause-positive : goal.returns-clause-positive
returns-clause-positive c = rw (value c) (divisor_positive (narrow_view c.args.row.now) c.requires.positive)

pub returns-then-row-eq1-clause-value : goal.returns-then-row-eq1-clause-value
returns-then-row-eq1-clause-value c =
    let f1 : SFits w16 c.args.row.now.denominator = search rules in
    let one : c.args.row.now.denominator ≡ pos 1 = sym (to_z-of_z w16 c.args.row.now.denominator f1) ∙ ap (to_z w16) c.if-row-eq1.true in
    let rest = c.args.row.now.constant ∷ c.args.row.now.cells in
    sym (ap (λ (z : ℤ). gcd_with (unsigned_abs z) rest) one ∙ gcd_with-one rest)
