use Rattle.ta_smt.proofs.Common.{◌<◌, ◌^◌, rules, to_z, of_z, FitsSigned, to_z-of_z, w128}
use Rattle.ta_smt.proofs.ElementTexts.{number_by, number_none}
use Rattle.ta_smt.proofs.reading.number_up_to.Goals as goal

pub returns-in-Some : goal.returns-in-Some
returns-in-Some c =
    let value = c.in-Some.value in
    let low : c.args.limit < 2 ^ 8 = search rules in
    let fits : FitsSigned w128 value = search rules in
    number_by c.args.limit c.args.digits.now value (to_z w128 (of_z w128 value)) c.small.result low c.in-Some.ensures (to_z-of_z w128 value fits)
    c.small.ensures

pub returns-in-None : goal.returns-in-None
returns-in-None c =
    let low : c.args.limit < 2 ^ 8 = search rules in
    number_none c.args.limit c.args.digits.now low c.in-None.ensures
