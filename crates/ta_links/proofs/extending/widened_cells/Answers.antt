use Rattle.ta_links.proofs.Common.{◌≡◌, ◌≤◌, ◌∙◌, ◌-◌, ◌++◌, ap, sym, subst, arith, length, replicate, List, ℕ, Option, None, length-append, Cell, head_at}
use Rattle.ta_links.proofs.Common.{AreLinked}
use Rattle.ta_links.proofs.ExtendedRows.{widened_linked, padded_same}
use Rattle.ta_links.proofs.extending.widened_cells.Goals as goal

pub returns-clause-sound : goal.returns-clause-sound
returns-clause-sound c =
    let l = c.args.links.now in
    let rs = c.in_ok-row_heads.row_heads.items in
    let cs = c.in_ok-column_heads.column_heads.items in
    let same = c.in_ok-cells.ensures ∙ c.deref.ensures.value in
    let re : c.in_ok-row_heads.row_heads.items ≡ l.row_heads.items ++ replicate (c.args.rows - length l.row_heads.items) None = c.in_ok-row_heads.ensures
    ∙ ap (λ (hs : List (Option ℕ)). hs ++ replicate (c.args.rows - length hs) None) c.deref-2.ensures.value in
    let ce : c.in_ok-column_heads.column_heads.items ≡ l.column_heads.items
    ++ replicate (c.args.columns - length l.column_heads.items) None = c.in_ok-column_heads.ensures
    ∙ ap (λ (hs : List (Option ℕ)). hs ++ replicate (c.args.columns - length hs) None) c.deref-3.ensures.value in
    let rl = ap (λ (hs : List (Option ℕ)). length hs) re ∙ length-append l.row_heads.items (replicate (c.args.rows - length l.row_heads.items) None) in
    let cl = ap (λ (hs : List (Option ℕ)). length hs) ce ∙ length-append l.column_heads.items (replicate (c.args.columns - length l.column_heads.items) None) in
    let rlong : length l.row_heads.items ≤ length c.in_ok-row_heads.row_heads.items = omega arith in
    let clong : length l.column_heads.items ≤ length c.in_ok-column_heads.column_heads.items = omega arith in
    subst (λ (xs : List Cell). AreLinked xs rs cs l.free_head) (sym same)
    (widened_linked l.cells.items l.row_heads.items rs l.column_heads.items cs l.free_head c.requires.sound
    (λ line. ap (λ (hs : List (Option ℕ)). head_at hs line) re ∙ padded_same l.row_heads.items (c.args.rows - length l.row_heads.items) line) rlong
    (λ line. ap (λ (hs : List (Option ℕ)). head_at hs line) ce ∙ padded_same l.column_heads.items (c.args.columns - length l.column_heads.items) line) clong)
