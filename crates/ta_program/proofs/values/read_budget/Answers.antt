use Rattle.ta_program.proofs.Common.{◌≡◌, ◌<◌, length, false, refl, rules, is_budget}
use Rattle.ta_program.proofs.WordsBudget.{no_budget}
use Rattle.ta_program.proofs.values.read_budget.Goals as goal

pub returns-in_default-3-clause-asked : goal.returns-in_default-3-clause-asked
returns-in_default-3-clause-asked c =
    let some : 0 < length c.args.text.now = search rules in
    let none : is_budget c.args.text.now ≡ false = no_budget c.args.text.now (search rules) some (search rules) in
    rw none refl
