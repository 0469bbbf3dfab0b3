use Rattle.ta_revised.proofs.Common.{◌≡◌, ◌∙◌, ap, sym, ℕ, ℤ, List, pos, get_or, length, combine, arith, rules, to_z-of_z, with_items_is, arc_value, vec_len}
use Rattle.ta_revised.proofs.Common.{zeros_behind, length-combine, get_or-combine}
use Rattle.ta_revised.proofs.RowCellFacts.{cell_behind, is_behind, own_cell, stored_of}
use Rattle.ta_revised.proofs.row_cells.RowCells.combine.Goals as goal

pub combine_longer-requires-clause-fit : goal.combine_longer-requires-clause-fit
combine_longer-requires-clause-fit c =
    let fp = c.ranges.p in
    let fq = c.ranges.q in
    let xs = (arc_value c.self.inside.stored).items in
    let ys = (arc_value c.chosen.inside.stored).items in
    let len : vec_len c.deref.result.now ≡ length c.deref.result.now.items = search rules in
    let k : c.len.result ≡ length (arc_value c.chosen.inside.stored).items = c.len.ensures ∙ len ∙ ap (λ (v : _). length v.items) c.deref.ensures in
    let owned = c.deref_mut.ensures.value ∙ ap (λ (v : _). v.items) c.in-Some.ensures.value ∙ c.in_ok-own.ensures.value ∙ ap (zeros_behind xs) k in
    let read = c.deref-3.ensures.value ∙ ap (λ (v : _). v.items) c.deref-2.ensures in
    let s = stored_of xs ys c.deref_mut.result.now c.args.self.now c.args.chosen.now c.self.inside.count c.chosen.inside.count c.self.invariant.short
    c.chosen.invariant.short owned c.self.view_is c.chosen.view_is c.requires.long in
    let short = s.short in
    let wide = s.wide in
    let own : (j : ℕ) → get_or c.deref_mut.result.now j (pos 0) ≡ get_or c.args.self.now j (pos 0) =
    λ j. own_cell xs c.deref_mut.result.now c.args.self.now c.self.inside.count (length ys) j owned c.self.view_is in
    let other : (j : ℕ) → get_or c.deref-3.result.now j (pos 0) ≡ get_or c.args.chosen.now j (pos 0) =
    λ j. ap (λ (zs : List ℤ). get_or zs j (pos 0)) read ∙ sym (cell_behind ys c.chosen.inside.count j)
    ∙ ap (λ (zs : List ℤ). get_or zs j (pos 0)) c.chosen.view_is in
    λ j h. simp to_z-of_z (rw (own j, other j) (c.requires.fit j (omega arith)))

pub returns : goal.returns
returns c =
    let fp = c.ranges.p in
    let fq = c.ranges.q in
    let xs = (arc_value c.self.inside.stored).items in
    let ys = (arc_value c.chosen.inside.stored).items in
    let len : vec_len c.deref.result.now ≡ length c.deref.result.now.items = search rules in
    let k : c.len.result ≡ length (arc_value c.chosen.inside.stored).items = c.len.ensures ∙ len ∙ ap (λ (v : _). length v.items) c.deref.ensures in
    let owned = c.deref_mut.ensures.value ∙ ap (λ (v : _). v.items) c.in-Some.ensures.value ∙ c.in_ok-own.ensures.value ∙ ap (zeros_behind xs) k in
    let read = c.deref-3.ensures.value ∙ ap (λ (v : _). v.items) c.deref-2.ensures in
    let s = stored_of xs ys c.deref_mut.result.now c.args.self.now c.args.chosen.now c.self.inside.count c.chosen.inside.count c.self.invariant.short
    c.chosen.invariant.short owned c.self.view_is c.chosen.view_is c.requires.long in
    let short = s.short in
    let wide = s.wide in
    let own : (j : ℕ) → get_or c.deref_mut.result.now j (pos 0) ≡ get_or c.args.self.now j (pos 0) =
    λ j. own_cell xs c.deref_mut.result.now c.args.self.now c.self.inside.count (length ys) j owned c.self.view_is in
    let other : (j : ℕ) → get_or c.deref-3.result.now j (pos 0) ≡ get_or c.args.chosen.now j (pos 0) =
    λ j. ap (λ (zs : List ℤ). get_or zs j (pos 0)) read ∙ sym (cell_behind ys c.chosen.inside.count j)
    ∙ ap (λ (zs : List ℤ). get_or zs j (pos 0)) c.chosen.view_is in
    let p = c.args.p in
    let q = c.args.q in
    let long = c.combine_longer.auto.cells in
    let items = with_items_is c.in-Some.cells.now c.combine_longer.new.cells (long ∙ ap length c.deref_mut.ensures.value ∙ search rules) in
    let e = simp to_z-of_z at c.combine_longer.ensures in
    let same = c.requires.long in
    ap (λ (zs : List ℤ). zeros_behind zs c.self.inside.count) items
    ∙ is_behind c.combine_longer.new.cells (combine p q c.args.self.now c.args.chosen.now) c.self.inside.count (omega arith)
    (length-combine p q c.args.self.now c.args.chosen.now same ∙ wide)
    (λ j h. e j ∙ rw (own j, other j) (sym (get_or-combine p q c.args.self.now c.args.chosen.now j same)))
