use Rattle.ta_links.proofs.Common.{◌≡◌, ◌∙◌, ap, sym, subst, rules, ℕ, ℤ, List, ◌++◌, ◌∷◌, [], Some, to_z-of_z, SFits, w128, Cell, cell_at, place_at, direction}
use Rattle.ta_links.proofs.Listed.{Listing, listed_more, listed_all}
use Rattle.ta_links.proofs.lines.list_line.Goals as goal

pub list-preserved : goal.list-preserved
list-preserved c =
    let l = c.args.links.now in
    let w = c.args.way in
    let f : SFits w128 c.cell_of-cell.result.value = search rules in
    let is : c.cell_of-cell.result ≡ cell_at l.cells.items c.in-Some.at = c.cell_of-cell.ensures
    ∙ ap (λ (xs : List Cell). cell_at xs c.in-Some.at) c.deref.ensures.value in
    let place : c.place.result ≡ place_at (direction w) l.cells.items c.in-Some.at = c.place.ensures ∙ ap (λ (x : Cell). (direction w).place x) is in
    let t : ℕ × ℤ = (c.place.result, c.cell_of-cell.result.value) in
    let items : c.push.new.self.items ≡ c.list.list.items
    ++ (c.place.result, c.cell_of-cell.result.value) ∷ [] = simp to_z-of_z at c.in_ok-push.ensures.items in
    subst (λ (ts : List (ℕ × ℤ)). Listing w l c.args.line (Some c.in-Some.at) ts) (sym items)
    (listed_more w l c.args.line c.list.before c.list.list.items c.in-Some.at (c.place.result, c.cell_of-cell.result.value) c.requires.sound c.list.invariant
    c.in-Some.ensures.next place (ap (λ (x : Cell). x.value) is))

pub returns : goal.returns
returns c = listed_all c.args.way c.args.links.now c.args.line c.list.before c.list.list.items c.requires.sound c.list.invariant c.in_default.ensures.none
