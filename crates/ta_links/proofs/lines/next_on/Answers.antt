use Rattle.ta_links.proofs.Common.{◌≡◌, ◌∙◌, ap, List, ℕ, length, arith, Option, Cell, direction, following, heads_of}
use Rattle.ta_links.proofs.Walking.{walk_next, walk_none, chained_along}
use Rattle.ta_links.proofs.lines.next_on.Goals as goal

pub cell_behind-requires-clause-before : goal.cell_behind-requires-clause-before
cell_behind-requires-clause-before c h e = let long = ap (λ (xs : List Cell). length xs) c.deref.ensures.value in
    let inside = (c.requires.before h e).live.inside in omega arith

pub returns : goal.returns
returns c =
    let l = c.args.links.now in
    let w = c.args.way in
    let hs = heads_of w l in
    let part = c.cell_behind.ensures ∙ ap (λ (xs : List Cell). following (direction w) xs c.heads_along-heads.result.now c.args.line c.args.before)
    c.deref.ensures.value in
    let is : c.cell_behind.result ≡ following (direction w) l.cells.items hs c.args.line c.args.before = part
    ∙ ap (λ (xs : List (Option ℕ)). following (direction w) l.cells.items xs c.args.line c.args.before) c.heads_along-heads.ensures in
    let chained = chained_along w l c.requires.sound in
    record {
      next = walk_next w l.cells.items hs c.args.line c.args.before c.cell_behind.result c.requires.sound.one chained c.requires.before is;
      none = walk_none w l.cells.items hs c.args.line c.args.before c.cell_behind.result chained c.requires.before is;
    }
