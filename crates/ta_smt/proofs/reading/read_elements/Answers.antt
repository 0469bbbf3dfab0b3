use Rattle.ta_smt.proofs.Common.{◌≡◌, ◌∙◌, false, codes, rules, bytes_eq}
use Rattle.ta_smt.proofs.ElementTexts.{elements_read}
use Rattle.ta_smt.proofs.reading.read_elements.Goals as goal

pub returns : goal.returns
returns c =
    let other : bytes_eq c.args.text.now (codes "-") ≡ false = search rules in
    c.in_ok-elements.ensures ∙ elements_read c.args.text.now other c.requires
