use Rattle.ta_moments.proofs.Common.{◌≡◌, ◌∙◌, ap, sym, None, position, subtracts}
use Rattle.ta_moments.proofs.NoneNegative.{none_subtracted}
use Rattle.ta_moments.proofs.subtracting.guard_that_subtracts.Goals as goal

pub returns-in-None-clause-none : goal.returns-in-None-clause-none
returns-in-None-clause-none c e =
    let a = c.args.automaton.now in
    let silent = c.args.silent.now in
    let rise : position (subtracts silent) a.rise ≡ None = ap (position (subtracts silent)) (sym c.as_slice-rise.ensures) ∙ sym c.first_that_subtracts.ensures
    ∙ c.in_default.is in
    let fall : position (subtracts silent) a.fall ≡ None = ap (position (subtracts silent)) (sym c.as_slice.ensures) ∙ sym c.first_that_subtracts-2.ensures
    ∙ c.in-None.is in
    record { rise = none_subtracted silent a.rise rise; fall = none_subtracted silent a.fall fall }
