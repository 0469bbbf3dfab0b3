use Rattle.ta_encode.proofs.Common.{ℕ, ℤ, ◌≡◌, ◌∙◌, length, subst, to_z_range, IsNormal, IsRowOf, block_row, on_ok_weaker}
use Rattle.ta_encode.proofs.draft.Draft.push_block.Goals as goal

pub push_row-requires : goal.push_row-requires
push_row-requires c =
    let long : c.len.result ≡ length c.args.self.now.meanings.items = c.len.ensures ∙ c.args.self.now.meanings.ok.0 in
    subst (λ (n : ℕ). IsNormal 0 n c.in_ok-row.row.form.terms) long c.in_ok-row.ensures.below

pub returns : goal.returns
returns c =
    let draft = c.args.self.now in
    let from = c.args.from in
    let sense = c.args.sense in
    let row = c.in_ok-row.row in
    let long : c.len.result ≡ length draft.meanings.items = c.len.ensures ∙ draft.meanings.ok.0 in
    let is = subst (λ (z : ℤ). IsRowOf (block_row z from c.len.result sense) row) (to_z_range c.args.constant c.requires.constant) c.in_ok-row.ensures.row in
    on_ok_weaker c.push_row.result (λ adds. adds (λ a ms. block_row c.args.constant from (length ms) sense)
    (subst (λ (n : ℕ). IsRowOf (block_row c.args.constant from n sense) row) long is)) c.push_row.ensures
