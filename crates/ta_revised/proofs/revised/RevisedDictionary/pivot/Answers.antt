use Rattle.ta_revised.proofs.Common.{◌≡◌, ◌∙◌, ap, sym, ℕ, length, set, arith, length-set, Tableau, narrow_view, unknown_rows}
use Rattle.ta_revised.proofs.PivotedRows.{after_pivot}
use Rattle.ta_revised.proofs.revised.RevisedDictionary.pivot.Goals as goal

pub returns-clause-rows : goal.returns-clause-rows
returns-clause-rows c =
    let names = c.self.inside.non_basic.items in
    let inside = c.self.inside.rows.items in
    let columns : length c.self.inside.non_basic.items ≡ length c.args.self.non_basic = ap (λ (t : Tableau). length t.non_basic) c.self.view_is in
    let same : unknown_rows (length c.self.inside.non_basic.items) c.self.inside.rows.items ≡ c.args.self.rows = ap (λ (t : Tableau). t.rows) c.self.view_is in
    let view = ap (λ (n : ℕ). unknown_rows n c.self.inside.rows.items) (sym columns) ∙ same in
    let n0 = c.deref_mut.ensures.len in
    let l : length c.merge_rows.new.rows ≡ c.self.inside.rows.len = omega arith in
    after_pivot (length c.args.self.non_basic) (length c.args.chosen.cells) (length (set names c.args.column c.args.chosen.basic)) c.args.column
    c.self.inside.rows.len (narrow_view c.args.chosen) c.args.self.rows inside c.deref_mut.result.now c.merge_rows.new.rows _
    c.requires.chosen.proper.long (length-set names c.args.column c.args.chosen.basic ∙ columns) view c.deref_mut.ensures.value l
    (rw c.in-Some.is at c.in_ok-basic.ensures.after)
