use Rattle.ta_smt.proofs.Common.{◌≡◌, ◌++◌, ◌∙◌, ap, rules, string_bytes, FitsSigned, to_z-of_z, w128, part}
use Rattle.ta_smt.proofs.Written.{side_written, terms_text}
use Rattle.ta_smt.proofs.export.push_summands.Goals as goal

pub returns : goal.returns
returns c =
    let form = c.args.form.now in
    let fits : FitsSigned w128 form.constant = search rules in
    let is : c.part.result ≡ part c.args.side form.constant = c.part.ensures ∙ ap (part c.args.side) (to_z-of_z w128 form.constant fits) in
    side_written c.args.side c.args.lead.now form c.part.result (string_bytes c.args.text.now) (string_bytes c.push_terms.new.text)
    (string_bytes c.push_constant.new.text) is
    (c.in_ok-push_terms.ensures ∙ ap (λ ts. string_bytes c.args.text.now ++ terms_text c.args.side c.args.lead.now ts) c.as_slice.ensures)
    c.in_ok-push_constant.ensures
