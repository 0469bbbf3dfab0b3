use Rattle.ta_report.proofs.Common.{◌≡◌, ◌∙◌, ap, rules, unsigned_abs, FitsSigned, w128, to_z-of_z, on_ok_weaker}
use Rattle.std.proofs.Common.{string_bytes}
use Rattle.ta_report.proofs.Showing.{amount_written}
use Rattle.ta_report.proofs.shown.show_amount.Goals as goal

pub returns : goal.returns
returns c =
    let z = c.args.term.now.1 in
    let fits : FitsSigned w128 z = search rules in
    let size : c.unsigned_abs-size.result ≡ unsigned_abs z = c.unsigned_abs-size.ensures.value ∙ ap unsigned_abs (to_z-of_z w128 z fits) in
    on_ok_weaker c.write-2.result (λ h. amount_written c.args.automaton.now c.args.term.now c.unsigned_abs-size.result c.place_name-name.result.now
    (string_bytes c.args.text.now) (string_bytes c.write-2.new.self) c.place_name-name.ensures size c.if-size-eq1.false h) c.write-2.ensures.bytes
