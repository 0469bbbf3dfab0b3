use Rattle.ta_links.proofs.Common.{subst, sym, List, ℕ, Option, Cell, along_rows, IsSought, MayBefore}
use Rattle.ta_links.proofs.seeking.seek_in_row.Goals as goal

pub seek-requires-clause-start : goal.seek-requires-clause-start
seek-requires-clause-start c = subst (λ (xs : List Cell). MayBefore along_rows xs c.args.row c.args.column c.args.start) (sym c.deref.ensures.value)
    c.requires.start

pub returns : goal.returns
returns c =
    let s = subst (λ (xs : List Cell). IsSought along_rows xs c.deref-2.result.now c.args.row c.args.column c.seek.result) c.deref.ensures.value c.seek.ensures
    in
    subst (λ (hs : List (Option ℕ)). IsSought along_rows c.args.links.now.cells.items hs c.args.row c.args.column c.seek.result) c.deref-2.ensures.value s
