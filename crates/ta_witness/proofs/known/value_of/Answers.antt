use Rattle.ta_witness.proofs.Common.{◌<◌, ◌≤ℤ◌, FitsSigned, ℤ, arith, get_or, length, pos, refl, rules, sym, to_z-of_z, w128, ◌∙◌, ints, each_at}
use Rattle.ta_witness.proofs.Common.{slice_get-get_or}
use Rattle.ta_witness.proofs.Making.{look_next, look_found, look_end}
use Rattle.ta_witness.proofs.known.value_of.Goals as goal

pub returns-then-is_same-clause-is : goal.returns-then-is_same-clause-is
returns-then-is_same-clause-is c =
    let found = look_found c.args.meanings.now c.args.values.now c.args.meaning _ c.loop-number.number _ c.loop-number-test.true c.requires.count
    (sym c.is_same.ensures ∙ c.if-is_same.true) c.loop-number.invariant in
    omega (arith, ints, found)

pub loop-number-preserved : goal.loop-number-preserved
loop-number-preserved c = look_next c.args.meanings.now c.args.values.now c.args.meaning _ c.loop-number.number _ c.loop-number-test.true c.requires.count
    (sym c.is_same.ensures ∙ c.if-is_same.false) c.loop-number.invariant

pub returns-clause-is : goal.returns-clause-is
returns-clause-is c = look_end c.args.meanings.now c.args.values.now c.args.meaning c.loop-number.number _ c.loop-number-test.false c.loop-number.invariant

pub returns-then-is_same-clause-natural : goal.returns-then-is_same-clause-natural
returns-then-is_same-clause-natural c =
    let values = c.args.values.now in
    let n = c.loop-number.number in
    let z = get_or values n (pos 0) in
    let within : n < length values = omega arith in
    let fits : FitsSigned w128 z = search rules in
    let low = each_at (λ (v : ℤ). pos 0 ≤ℤ v) values n z c.requires.natural (slice_get-get_or values n (pos 0) within) in
    simp to_z-of_z record { natural = low; fits = omega (arith, ints) }

pub returns-clause-natural : goal.returns-clause-natural
returns-clause-natural c = record { natural = omega (arith, ints); fits = omega arith }

pub bounds-values-number : goal.bounds-values-number
bounds-values-number c = omega arith

pub loop-number-init : goal.loop-number-init
loop-number-init c = refl
