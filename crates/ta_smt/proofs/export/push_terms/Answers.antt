use Rattle.ta_smt.proofs.Common.{◌≡◌, ◌∙◌, ap, pos, get_or, arith, rules, string_bytes, FitsSigned, to_z-of_z, w128, part}
use Rattle.ta_smt.proofs.Written.{term_written, terms_written}
use Rattle.ta_smt.proofs.export.push_terms.Goals as goal

pub loop-term-preserved : goal.loop-term-preserved
loop-term-preserved c =
    let z = (get_or c.args.terms.now c.loop-term.term-index (0, pos 0)).1 in
    let fits : FitsSigned w128 z = search rules in
    let is : c.part.result ≡ part c.args.side z = c.part.ensures ∙ ap (part c.args.side) (to_z-of_z w128 z fits) in
    term_written c.args.side c.args.lead.now c.args.terms.now c.loop-term.term-index c.part.result (string_bytes c.loop-term.text)
    (string_bytes c.push_multiple.new.text) _ c.loop-term-test.true is c.in_ok-push_multiple.ensures c.loop-term.invariant

pub returns : goal.returns
returns c = terms_written c.args.side c.args.lead.now c.args.terms.now c.loop-term.term-index (string_bytes c.loop-term.text) _ (omega arith)
    c.loop-term.invariant
