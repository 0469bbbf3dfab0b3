use Rattle.ta_links.proofs.Common.{◌≡◌, ◌<◌, ◌∙◌, ap, sym, subst, rules, arith, length, ℕ, List, IfNone, IfSome, MatchOption, to_z-of_z, SFits, w128, Cell}
use Rattle.ta_links.proofs.Common.{Rows, cell_at, along_rows, EntersBelow, NoneEntersBelow, spot, Linked, value_in, Enters, NoneEnters}
use Rattle.ta_links.proofs.LinkedFacts.{row_below, number_is}
use Rattle.ta_links.proofs.Listed.{place_inside}
use Rattle.ta_links.proofs.EnterSteps.{enters_far, enters_all}
use Rattle.ta_links.proofs.linked.LinkedDictionaryDictionary.entering.Goals as goal
use Rattle.ta_links.proofs.linked.LinkedDictionaryDictionary.entering.Goals.{After-cell_of-cell, In_default}

-- the cell that is read, and its column
read : (c : After-cell_of-cell) → c.cell_of-cell.result ≡ cell_at c.self.inside.links.cells.items c.in-Some.at
read c = c.cell_of-cell.ensures ∙ ap (λ (xs : List Cell). cell_at xs c.in-Some.at) c.deref.ensures.value

inside : (c : After-cell_of-cell) → c.cell_of-cell.result.column < length c.args.self.now.tableau.non_basic
inside c =
    let col = ap (λ (x : Cell). x.column) (read c) in
    let b = place_inside Rows c.self.inside.links c.in-Some.at c.self.invariant.linked c.in-Some.ensures.next.on.live in
    let v = ap (λ (e : Linked). length e.tableau.non_basic) c.self.view_is in
    omega arith

-- every column was passed
entered : (c : In_default) → IfSome c.chain.least (Enters c.args.self.now.tableau c.args.row)
    × IfNone c.chain.least (NoneEnters c.args.self.now.tableau c.args.row)
entered c =
    let l = c.self.inside.links in
    let t = c.args.self.now.tableau in
    let ek : spot along_rows c.args.self.now.cells c.chain.before ≡ spot along_rows l.cells.items c.chain.before = ap
    (λ (e : Linked). spot along_rows e.cells c.chain.before) (sym c.self.view_is) in
    let was = subst (λ (k : ℕ). MatchOption c.chain.least (NoneEntersBelow t c.args.row k) (EntersBelow t c.args.row k)) ek c.chain.invariant.least in
    enters_all t c.args.row (spot along_rows l.cells.items c.chain.before) c.chain.least
    (λ j low b. sym (number_is c.self.inside c.args.self.now c.args.row j c.self.view_is c.requires b) ∙ c.in_default.ensures.none j low) was

pub next_on-requires-clause-line : goal.next_on-requires-clause-line
next_on-requires-clause-line c =
    let b = row_below c.self.inside c.args.self.now c.args.row c.self.view_is c.requires in
    omega arith

pub least_entering-least-requires-clause-value : goal.least_entering-least-requires-clause-value
least_entering-least-requires-clause-value c =
    let l = c.self.inside.links in
    let f : SFits w128 c.cell_of-cell.result.value = search rules in
    let n = c.in-Some.ensures.next in
    let at = (goal.at.least_entering-least-requires-clause-value c).After-cell_of-cell in
    let is = read at in
    simp to_z-of_z (ap (λ (x : Cell). x.value) is ∙ sym n.value ∙ ap (λ (x : Cell). value_in l.cells.items c.args.row x.column) (sym is)
    ∙ number_is c.self.inside c.args.self.now c.args.row c.cell_of-cell.result.column c.self.view_is c.requires (inside at))

pub least_entering-least-requires-clause-least : goal.least_entering-least-requires-clause-least
least_entering-least-requires-clause-least c =
    let l = c.self.inside.links in
    let t = c.args.self.now.tableau in
    let n = c.in-Some.ensures.next in
    let at = (goal.at.least_entering-least-requires-clause-least c).After-cell_of-cell in
    let col = ap (λ (x : Cell). x.column) (read at) in
    let b = inside at in
    let ek : spot along_rows c.args.self.now.cells c.chain.before ≡ spot along_rows l.cells.items c.chain.before = ap
    (λ (e : Linked). spot along_rows e.cells c.chain.before) (sym c.self.view_is) in
    let was = subst (λ (k : ℕ). MatchOption c.chain.least (NoneEntersBelow t c.args.row k) (EntersBelow t c.args.row k)) ek c.chain.invariant.least in
    enters_far t c.args.row (spot along_rows l.cells.items c.chain.before) c.cell_of-cell.result.column c.chain.least (omega arith)
    (λ j low high. let under : j < (cell_at l.cells.items c.in-Some.at).column = omega arith in sym
    (number_is c.self.inside c.args.self.now c.args.row j c.self.view_is c.requires (omega arith)) ∙ n.passed j low under) was

pub returns-clause-found : goal.returns-clause-found
returns-clause-found c = (entered (goal.at.returns-clause-found c).In_default).0

pub returns-clause-none : goal.returns-clause-none
returns-clause-none c = (entered (goal.at.returns-clause-none c).In_default).1
