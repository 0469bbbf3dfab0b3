use Rattle.ta_links.proofs.Common.{sym, subst, arith, length, ℕ, ℤ, List, IsNormal, IsNormal-higher}
use Rattle.ta_links.proofs.carrying.place_pivot.Goals as goal

pub write_columns-requires-clause-list : goal.write_columns-requires-clause-list
write_columns-requires-clause-list c =
    let n = length c.args.links.now.column_heads.items in
    let normal = IsNormal-higher 0 (length c.args.kept.now.cells) (length c.args.links.now.column_heads.items) c.form-form.result.now.terms (omega arith)
    c.form-form.ensures.normal in
    subst (λ (ts : List (ℕ × ℤ)). IsNormal 0 n ts) (sym c.as_slice.ensures) normal
