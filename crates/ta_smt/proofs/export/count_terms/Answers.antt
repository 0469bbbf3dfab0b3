use Rattle.ta_smt.proofs.Common.{◌≡◌, ◌∙◌, ap, pos, get_or, arith, rules, FitsSigned, to_z-of_z, w128, part}
use Rattle.ta_smt.proofs.Written.{term_counted, terms_counted}
use Rattle.ta_smt.proofs.export.count_terms.Goals as goal

pub loop-term-init : goal.loop-term-init
loop-term-init c = record { counted = omega arith; few = omega arith }

pub loop-term-preserved : goal.loop-term-preserved
loop-term-preserved c =
    let z = (get_or c.args.terms.now c.loop-term.term-index (0, pos 0)).1 in
    let fits : FitsSigned w128 z = search rules in
    let is : c.part.result ≡ part c.args.side z = c.part.ensures ∙ ap (part c.args.side) (to_z-of_z w128 z fits) in
    record {
      counted = term_counted c.args.side c.args.terms.now c.loop-term.term-index c.part.result c.loop-term.count c.count_of-count.result _ c.loop-term-test.true
          is c.count_of-count.ensures.number c.loop-term.invariant.counted;
      few = omega arith;
    }

pub returns-clause-count : goal.returns-clause-count
returns-clause-count c = terms_counted c.args.side c.args.terms.now c.loop-term.term-index c.loop-term.count _ (omega arith) c.loop-term.invariant.counted
