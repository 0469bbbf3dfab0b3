use Rattle.ta_smt.proofs.Common.{◌≡◌, ◌∙◌, false, codes, rules, bytes_eq}
use Rattle.ta_smt.proofs.ElementTexts.{elements_else}
use Rattle.ta_smt.proofs.reading.are_elements.Goals as goal

pub returns-else-eq : goal.returns-else-eq
returns-else-eq c =
    let other : bytes_eq c.args.text.now (codes "-") ≡ false = search rules in
    c.are_spelled.ensures ∙ elements_else c.args.text.now other
