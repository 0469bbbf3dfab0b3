use Rattle.ta_links.proofs.Common.{◌≡◌, ◌≤◌, ◌+◌, ◌-◌, ◌++◌, ◌∙◌, ap, sym, subst, arith, length, map, get_or, List, ℕ, map-id, names_long, range_with_len, Row}
use Rattle.ta_links.proofs.Common.{Tableau, StayInRange, raised, extended, new_rows, FirstLeaving, RowHead, Linked, table_rows, no_head}
use Rattle.ta_links.proofs.LinkedFacts.{length-table_rows}
use Rattle.ta_links.proofs.ExtendedRows.{Lengthened}
use Rattle.ta_links.proofs.ExtendedTable.{basic_is, lengthen, room_for, extend_is, extend_within, extend_refused, taken_proper}
use Rattle.ta_links.proofs.linked.LinkedDictionaryDictionary.extend.Goals as goal
use Rattle.ta_links.proofs.linked.LinkedDictionaryDictionary.extend.Goals.{After-deref, In_ok-links}
use Rattle.ta_base.proofs.Lists.{taken_long}

-- the rows are as many as the heads, and the columns as the free variables
long : (c : After-deref) → c.rows-first.result ≡ length c.self.inside.rows.items
long c = c.rows-first.ensures ∙ ap (λ (e : Linked). length e.tableau.rows) (sym c.self.view_is)
    ∙ length-table_rows c.self.inside.links.cells.items (length c.self.inside.non_basic.items) 0 c.self.inside.rows.items

wide : (c : After-deref) → c.columns-old.result ≡ length c.self.inside.non_basic.items
wide c = c.columns-old.ensures ∙ ap (λ (e : Linked). length e.tableau.non_basic) (sym c.self.view_is)

-- the heads that are read are the rows'
read : (c : After-deref) → length c.deref.result.now ≡ c.rows-first.result
read c = ap (λ (xs : List RowHead). length xs) c.deref.ensures.value ∙ sym (long c)

-- the longer system has as many unknowns at least, and as many rows
few : (c : In_ok-links) → c.columns-old.result ≤ c.args.longer.now.unknowns
few c = let h = c.requires.longer.columns in let e = c.columns-old.ensures in omega arith

all : (c : In_ok-links) → length c.as_slice.result.now ≡ length c.args.longer.now.rows
all c = ap (λ (xs : List Row). length xs) c.as_slice.ensures

low : (c : In_ok-links) → c.rows-first.result ≤ length c.as_slice.result.now
low c = let a = all c in let h = c.requires.longer.rows in let e = c.rows-first.ensures in omega arith

-- the rows with the new ones behind them
longer : (c : In_ok-links) → c.rows-first.result ≡ length c.self.inside.rows.items
    → Lengthened c.columns-old.result (c.args.longer.now.unknowns - c.columns-old.result) c.rows-first.result
    (length c.as_slice.result.now - c.rows-first.result) c.self.inside.rows.items c.self.inside.links c.args.longer.now.rows c.in_ok-rows.rows.items
    c.in_ok-links.links
longer c is = lengthen c.columns-old.result c.args.longer.now.unknowns c.rows-first.result (length c.as_slice.result.now) c.self.inside.rows.items
    c.deref.result.now c.self.inside.links c.args.longer.now.rows c.in_ok-rows.rows.items c.in_ok-links.links c.deref.ensures.value is (few c) (low c) (all c)
    c.in_ok-rows.ensures c.in_ok-links.ensures.shows

pub begun_heads-requires-clause-rows : goal.begun_heads-requires-clause-rows
begun_heads-requires-clause-rows c =
    let d = read (goal.at.begun_heads-requires-clause-rows c).After-deref in
    omega arith

pub begun_heads-requires-clause-basic : goal.begun_heads-requires-clause-basic
begun_heads-requires-clause-basic c i b =
    let d = read (goal.at.begun_heads-requires-clause-basic c).After-deref in
    let below = c.requires.longer.basic_below i (omega arith) in
    let is = basic_is c.self.inside c.args.self.now i c.self.view_is (let l = long (goal.at.begun_heads-requires-clause-basic c).After-deref in omega arith) in
    let same = ap (λ (xs : List RowHead). (get_or xs i no_head).basic) c.deref.ensures.value in
    omega arith

pub begun_cells-requires-clause-first : goal.begun_cells-requires-clause-first
begun_cells-requires-clause-first c =
    let l = c.self.inside.links in
    c.rows-first.ensures ∙ ap (λ (e : Linked). length e.tableau.rows) (sym c.self.view_is)
    ∙ length-table_rows l.cells.items (length c.self.inside.non_basic.items) 0 c.self.inside.rows.items ∙ sym c.self.invariant.rows_long

pub carry_rows-requires-clause-room : goal.carry_rows-requires-clause-room
carry_rows-requires-clause-room c =
    let at = goal.at.carry_rows-requires-clause-room c in
    let w = longer at.In_ok-links (long at.After-deref) in
    room_for c.args.longer.now.unknowns (length c.as_slice.result.now) (few at.In_ok-links) w c.self.invariant.proper c.in_ok-links.ensures.sound
    c.in_ok-links.ensures.rows c.in_ok-links.ensures.columns

pub carry_rows-requires-clause-kept : goal.carry_rows-requires-clause-kept
carry_rows-requires-clause-kept c j b =
    let itself = map-id c.args.kept.now in
    let k = (rw itself at c.requires.kept) j b in
    let long = k.long in
    record { long = omega arith; column = k.column; positive = k.positive }

pub returns-in-Some-clause-fault : goal.returns-in-Some-clause-fault
returns-in-Some-clause-fault c =
    let s = c.args.longer.now in
    let ks = c.args.kept.now in
    let at = goal.at.returns-in-Some-clause-fault c in
    let w = longer at.In_ok-links (long at.After-deref) in
    let itself = map-id ks in
    let below = rw c.in-Some.is at c.in_ok-refusal.ensures.below in
    let refused = rw c.in-Some.is at c.in_ok-refusal.ensures.refused in
    rw itself (subst (λ (t : Tableau). FirstLeaving t ks s c.in-Some.field-0.pivot c.in-Some.field-0.row) (ap (λ (e : Linked). e.tableau) c.self.view_is)
    (extend_refused c.self.inside.non_basic.items s ks (length c.as_slice.result.now) c.in-Some.field-0.pivot c.in-Some.field-0.row (few at.In_ok-links) w below
    refused))

pub invariant_of-result : goal.invariant_of-result
invariant_of-result c =
    let us = c.self.inside.non_basic.items in
    let u = c.columns-old.result in
    let m = c.args.longer.now.unknowns in
    let last = length c.as_slice.result.now in
    let at = goal.at.invariant_of-result c in
    let cols = wide at.After-deref in
    let is_few = few at.In_ok-links in
    let is_all = all at.In_ok-links in
    let is_low = low at.In_ok-links in
    let a = rw c.in_default.is at c.in_ok-refusal.ensures.done in
    let names = c.in_ok-non_basic.ensures ∙ ap (λ (xs : List ℕ). map (raised u (m - u)) xs ++ range_with_len u (m - u)) c.deref-2.ensures.value in
    let whole : c.rows-first.result + (last - c.rows-first.result) ≡ last = omega arith in
    let high : length c.carry_rows.new.heads.items ≡ last + 1 = a.room.long ∙ ap (λ (k : ℕ). k + 1) whole in
    let short = taken_long last c.carry_rows.new.heads.items c.drop_last.new.heads.items c.drop_last.ensures.heads high in
    let wide = names_long us c.in_ok-non_basic.non_basic.items u m is_few cols names in
    record {
      linked = c.drop_last.ensures.sound;
      rows_long = c.drop_last.ensures.rows ∙ sym short;
      columns_long = ap (λ (xs : List _). length xs) c.drop_last.ensures.columns ∙ a.room.columns_are ∙ sym wide;
      rows_fit = omega arith;
      columns_fit = omega arith;
      proper = taken_proper last c.carry_rows.new.heads.items c.drop_last.new.heads.items c.drop_last.ensures.heads high a.room.proper;
    }

pub returns-clause-ok : goal.returns-clause-ok
returns-clause-ok c =
    let s = c.args.longer.now in
    let ks = c.args.kept.now in
    let u = c.columns-old.result in
    let m = s.unknowns in
    let at = goal.at.returns-clause-ok c in
    let cols = wide at.After-deref in
    let w = longer at.In_ok-links (long at.After-deref) in
    let a = rw c.in_default.is at c.in_ok-refusal.ensures.done in
    let names = c.in_ok-non_basic.ensures ∙ ap (λ (xs : List ℕ). map (raised u (m - u)) xs ++ range_with_len u (m - u)) c.deref-2.ensures.value in
    let itself = map-id ks in
    let nb = c.in_ok-non_basic.non_basic.items in
    rw itself (subst (λ (t : Tableau). record { non_basic = nb; rows = table_rows c.drop_last.new.links.cells.items (length nb) 0 c.drop_last.new.heads.items }
    ≡ extended t ks s) (ap (λ (e : Linked). e.tableau) c.self.view_is)
    (extend_is c.self.inside.non_basic.items nb c.drop_last.new.heads.items c.drop_last.new.links.cells.items s ks (length c.as_slice.result.now) cols
    (few at.In_ok-links) (low at.In_ok-links) w c.self.invariant.linked (c.self.invariant.columns_long ∙ sym cols) a
    c.drop_last.ensures.heads c.drop_last.ensures.cells names))

pub returns-clause-in_range : goal.returns-clause-in_range
returns-clause-in_range c =
    let s = c.args.longer.now in
    let ks = c.args.kept.now in
    let at = goal.at.returns-clause-in_range c in
    let w = longer at.In_ok-links (long at.After-deref) in
    let a = rw c.in_default.is at c.in_ok-refusal.ensures.done in
    let itself = map-id ks in
    rw itself (subst (λ (t : Tableau). StayInRange s.unknowns ks (length ks) (new_rows t s)) (ap (λ (e : Linked). e.tableau) c.self.view_is)
    (extend_within c.self.inside.non_basic.items s ks (length c.as_slice.result.now) (few at.In_ok-links) w a))
