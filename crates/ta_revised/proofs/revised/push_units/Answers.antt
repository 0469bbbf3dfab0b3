use Rattle.ta_revised.proofs.Common.{◌≡◌, ◌+◌, ◌-◌, ◌++◌, ◌∷◌, [], suc, ℕ, List, arith, ap, sym, subst, ◌∙◌, append_assoc, map-append, All-push, TableauRow}
use Rattle.ta_revised.proofs.Common.{unit_rows, AreUnknownRows, IsUnknownRow, unknown_row, unknown_rows, unit_row, UnknownRow, Column}
use Rattle.ta_revised.proofs.UnitRow.{unit_rows_more}
use Rattle.ta_revised.proofs.revised.push_units.Goals as goal

pub loop-unknown-preserved : goal.loop-unknown-preserved
loop-unknown-preserved c =
    let inv = c.loop-unknown.invariant in
    let u = c.loop-unknown.unknown in
    let n = c.args.columns in
    let first = c.args.first in
    let before = unknown_rows c.args.columns c.args.rows.now.items in
    let old = c.loop-unknown.rows.items in
    let items = c.in_ok-push.ensures.items in
    let at : c.args.first + (c.loop-unknown.unknown - c.args.first) ≡ c.loop-unknown.unknown = omega arith in
    let next : suc (c.loop-unknown.unknown - c.args.first) ≡ c.loop-unknown.unknown + 1 - c.args.first = omega arith in
    let units = unit_rows c.args.columns c.args.first (c.loop-unknown.unknown - c.args.first) in
    let more : unit_rows c.args.columns c.args.first (c.loop-unknown.unknown + 1 - c.args.first) ≡
    unit_rows c.args.columns c.args.first (c.loop-unknown.unknown - c.args.first) ++ unit_row c.args.columns c.loop-unknown.unknown c.loop-unknown.unknown
    ∷ [] =
    sym (ap (unit_rows n first) next) ∙ unit_rows_more n first (u - first)
    ∙ ap (λ (k : ℕ). unit_rows c.args.columns c.args.first (c.loop-unknown.unknown - c.args.first) ++ unit_row c.args.columns k k ∷ []) at in
    let P : List UnknownRow → Type 0 = AreUnknownRows c.args.columns in
    record {
      value = ap (unknown_rows n) items ∙ map-append (unknown_row n) old (Column u u ∷ [])
          ∙ ap (λ (xs : List TableauRow). xs ++ unit_row n u u ∷ []) inv.value ∙ append_assoc before units (unit_row n u u ∷ [])
          ∙ ap (λ (xs : List TableauRow). before ++ xs) (sym more);
      rows = subst P (sym items) (All-push (IsUnknownRow n) old (Column u u) inv.rows (omega arith));
    }
