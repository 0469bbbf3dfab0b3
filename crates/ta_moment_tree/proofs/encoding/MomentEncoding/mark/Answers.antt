use Rattle.ta_moment_tree.proofs.Common.{◌∙◌, length, ap, sym, length-map, Row, Known, form_of, moment_of}
use Rattle.ta_moment_tree.proofs.encoding.MomentEncoding.mark.Goals as goal

pub returns-clause-mark : goal.returns-clause-mark
returns-clause-mark c = λ silent candidate past node.
    let draft = c.args.self.now.draft in
    record {
      unknowns = ap (λ (k : Known). k.unknowns) node.draft.known;
      moments = c.len.ensures ∙ draft.moments.ok.0 ∙ sym (length-map draft.moments.items moment_of) ∙ ap (λ (k : Known). length k.moments) node.draft.known;
      rows = c.len-2.ensures ∙ draft.rows.ok.0 ∙ sym (length-map draft.rows.items (λ (row : Row). form_of row.form))
          ∙ ap (λ (k : Known). length k.rows) node.draft.known;
    }
