use Rattle.ta_moment_tree.proofs.Common.{◌∙◌, ap, Row, Known, form_of, forms_of, moment_of, moments_of}
use Rattle.ta_moment_tree.proofs.AddedFacts.{known_same}
use Rattle.ta_moment_tree.proofs.Cutting.{moments_taken, rows_taken}
use Rattle.ta_moment_tree.proofs.encoding.MomentEncoding.cut.Goals as goal

pub returns-clause-node : goal.returns-clause-node
returns-clause-node c = λ silent candidate newer past node is.
    let a = c.args.self.plan.task.automaton.now in
    let p = c.args.self.plan.task.pattern.now in
    let draft = c.args.self.draft in
    let mark = c.args.mark in
    let moments = ap moments_of c.truncate.ensures.items
    ∙ moments_taken a p silent candidate newer past moment_of mark.moments draft.moments.items (ap (λ (k : Known). k.moments) node.draft.known) is.moments
    in
    let rows = ap forms_of c.truncate-2.ensures.items ∙ rows_taken a p silent candidate newer past (λ (row : Row). form_of row.form) mark.rows draft.rows.items
    (ap (λ (k : Known). k.rows) node.draft.known) is.rows in
    record {
      plan = node.plan;
      listed = node.listed;
      draft = record { known = known_same _ _ is.unknowns moments rows; end = node.draft.end; short = node.draft.short };
    }
