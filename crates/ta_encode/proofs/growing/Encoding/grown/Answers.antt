use Rattle.ta_encode.proofs.Common.{◌++◌, List, map, reverse, subst, append-nil, IfOk-weaker, AreRowsOf, SystemOf, LinearRow, bound_row, word_rows}
use Rattle.ta_encode.proofs.growing.Encoding.grown.Goals as goal

pub returns-clause-system : goal.returns-clause-system
returns-clause-system c =
    let a = c.args.task.automaton.now in
    let p = c.args.task.pattern.now in
    let start = c.args.start_mask in
    let past = reverse c.args.elements.now in
    let bounds = c.args.bounds.now in
    IfOk-weaker c.grown_to.result _ (λ grown. SystemOf a p start past bounds grown.encoding.system)
    (λ grown is. record {
      unknowns = is.unknowns;
      rows = subst (λ (ls : List LinearRow). AreRowsOf (ls ++ map bound_row bounds) grown.encoding.system.rows)
          (append-nil (word_rows a p start past)) is.rows;
    })
    c.grown_to.ensures.system
