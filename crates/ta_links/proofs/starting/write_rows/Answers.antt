use Rattle.ta_links.proofs.Common.{◌≡◌, ◌∙◌, ap, sym, subst, refl, List, ℕ, ℤ, get_or, arith, get_or_read, coefficient, IsNormal, Row, value_in}
use Rattle.ta_linear.specs.Rows.{AllBelow}
use Rattle.ta_dense.proofs.DenseFacts.{terms_at}
use Rattle.ta_links.proofs.Beginning.{shows_none, shows_more}
use Rattle.ta_links.proofs.starting.write_rows.Goals as goal

pub write_columns-requires-clause-list : goal.write_columns-requires-clause-list
write_columns-requires-clause-list c =
    let u = c.args.system.now.unknowns in
    let list = c.as_slice-list.result.now in
    let all : AllBelow u list = subst (λ (rs : List Row). AllBelow u rs) (sym c.as_slice-list.ensures) c.args.system.now.within in
    let at = terms_at u list c.loop-row.row c.index-list-row.result all c.loop-row-test.true in
    let mine : IsNormal 0 u c.index-list-row.result.form.terms = subst (λ (r : Row). IsNormal 0 u r.form.terms) (sym c.index-list-row.is) at in
    let same : c.as_slice.result.now ≡ c.index-list-row.result.form.terms = c.as_slice.ensures ∙ ap (λ (r : Row). r.form.terms) (sym c.index-list-row.is) in
    subst (λ (n : ℕ). IsNormal 0 n c.as_slice.result.now) (sym (c.loop-row.invariant.columns ∙ c.requires.columns))
    (subst (λ (ts : List (ℕ × ℤ)). IsNormal 0 u ts) (sym same) mine)

pub loop-row-preserved : goal.loop-row-preserved
loop-row-preserved c =
    let list = c.as_slice-list.result.now in
    let inv = c.loop-row.invariant in
    let e = c.in_ok-write_columns.ensures in
    let k = c.loop-row.row in
    let terms = c.index-list-row.result.form.terms in
    let new = c.write_columns.new.links.cells.items in
    let old = c.loop-row.links.cells.items in
    let is : (d : Row) → terms ≡ (get_or list k d).form.terms = λ d. ap (λ (r : Row). r.form.terms)
    (get_or_read list k c.index-list-row.result c.loop-row-test.true c.index-list-row.is d) in
    let same : c.as_slice.result.now ≡ terms = c.as_slice.ensures ∙ ap (λ (r : Row). r.form.terms) (sym c.index-list-row.is) in
    record {
      from = let from = inv.from in omega arith;
      sound = e.sound;
      rows = e.rows ∙ inv.rows;
      columns = e.columns ∙ inv.columns;
      shows = shows_more c.args.first (value_in c.args.links.now.cells.items) list k (value_in old) (value_in new) terms inv.from inv.shows is e.others
          (λ j ne. e.listed j (λ z. ne (ap (λ (ts : List (ℕ × ℤ)). coefficient ts j) (sym same) ∙ z))
          ∙ ap (λ (r : Row). coefficient r.form.terms j) (sym c.index-list-row.is))
          (λ j z. e.rest j (ap (λ (ts : List (ℕ × ℤ)). coefficient ts j) same ∙ z));
      free = λ none. e.fresh (inv.free none) (λ j. inv.shows.empty k j (omega arith));
    }

pub loop-row-init : goal.loop-row-init
loop-row-init c = record {
  from = omega arith;
  sound = c.requires.sound;
  rows = refl;
  columns = refl;
  shows = shows_none c.args.first c.as_slice-list.result.now (value_in c.args.links.now.cells.items) c.requires.empty;
  free = λ none. none;
}
