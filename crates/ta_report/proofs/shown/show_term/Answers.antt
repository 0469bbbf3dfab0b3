use Rattle.ta_report.proofs.Common.{◌≡◌, ◌++◌, ◌∙◌, ap, rules, FitsSigned, w128, to_z-of_z, on_ok_weaker, amount_text, next_sign}
use Rattle.std.proofs.Common.{string_bytes}
use Rattle.ta_report.proofs.Showing.{behind}
use Rattle.ta_report.proofs.shown.show_term.Goals as goal

pub returns : goal.returns
returns c =
    let z = c.args.term.now.1 in
    let fits : FitsSigned w128 z = search rules in
    let old = string_bytes c.args.text.now in
    let sign : c.next_sign.result.now ≡ next_sign z = c.next_sign.ensures ∙ ap next_sign (to_z-of_z w128 z fits) in
    let first : string_bytes c.push_str.new.self ≡ old ++ next_sign z = c.in_ok-push_str.ensures.bytes ∙ ap (λ s. old ++ s) sign in
    on_ok_weaker c.show_amount.result
    (λ h. behind old (string_bytes c.push_str.new.self) (string_bytes c.show_amount.new.text) (next_sign z)
    (amount_text c.args.automaton.now c.args.term.now) first h) c.show_amount.ensures
