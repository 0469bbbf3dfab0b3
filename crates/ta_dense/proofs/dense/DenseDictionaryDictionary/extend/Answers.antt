use Rattle.ta_dense.proofs.Common.{◌≡◌, ◌+◌, ◌-◌, ◌++◌, arith, sym, ◌∙◌, ap, subst, length, List, ℕ, rules, length-map, length-append, map-id, with_items_is}
use Rattle.ta_dense.proofs.Common.{Tableau, TableauRow, row_view, views, AreProper, StayInRange, widened, DenseRow}
use Rattle.ta_dense.proofs.ExtendFacts.{length-carried, names_long, kept_more, new_rows_are, leaving_from, proper_joined}
use Rattle.ta_dense.proofs.dense.DenseDictionaryDictionary.extend.Goals as goal

pub carry_rows-requires-clause-kept : goal.carry_rows-requires-clause-kept
carry_rows-requires-clause-kept c =
    let itself = map-id c.args.kept.now in
    kept_more (length c.args.self.now.non_basic) c.args.longer.now.unknowns c.args.kept.now (rw itself at c.requires.kept) c.requires.longer.columns

pub overflow_cast-row : goal.overflow_cast-row
overflow_cast-row c =
    let refused = rw c.deref_mut.ensures.value at (rw c.in-Some.is at c.in_ok-refusal.ensures.refused) in
    let below = refused.below in
    let l1 = length-carried c.args.longer.now.unknowns c.in-Some.refusal.pivot c.args.kept.now (views c.in_ok-carried.carried.items) in
    let l2 = length-map c.in_ok-carried.carried.items row_view in
    let long = c.in_ok-carried.ensures.long in
    let room = c.requires.room in
    record { fits = omega arith }

pub overflow_add-row : goal.overflow_add-row
overflow_add-row c =
    let refused = rw c.deref_mut.ensures.value at (rw c.in-Some.is at c.in_ok-refusal.ensures.refused) in
    let below = refused.below in
    let l1 = length-carried c.args.longer.now.unknowns c.in-Some.refusal.pivot c.args.kept.now (views c.in_ok-carried.carried.items) in
    let l2 = length-map c.in_ok-carried.carried.items row_view in
    let long = c.in_ok-carried.ensures.long in
    let room = c.requires.room in
    record { fits = omega arith }

pub returns-in-Some-clause-fault : goal.returns-in-Some-clause-fault
returns-in-Some-clause-fault c =
    let first = c.rows-first.ensures in
    let new = new_rows_are c.args.self.now c.args.longer.now c.rows-first.result (views c.in_ok-carried.carried.items) c.in_ok-carried.ensures.value first in
    let itself = map-id c.args.kept.now in
    let below = rw c.in-Some.is at c.in_ok-refusal.ensures.below in
    let before = rw c.deref_mut.ensures.value at (rw c.in-Some.is at c.in_ok-refusal.ensures.before) in
    let refused = rw c.deref_mut.ensures.value at (rw c.in-Some.is at c.in_ok-refusal.ensures.refused) in
    rw itself (leaving_from c.args.self.now c.args.longer.now c.args.kept.now c.in-Some.refusal.pivot c.in-Some.refusal.row c.rows-first.result
    (views c.in_ok-carried.carried.items) new first below before refused)

pub returns-clause-in_range : goal.returns-clause-in_range
returns-clause-in_range c =
    let first = c.rows-first.ensures in
    let new = new_rows_are c.args.self.now c.args.longer.now c.rows-first.result (views c.in_ok-carried.carried.items) c.in_ok-carried.ensures.value first in
    let itself = map-id c.args.kept.now in
    let within = rw c.deref_mut.ensures.value at (rw c.in_default.is at c.in_ok-refusal.ensures.in_range) in
    rw itself (subst (StayInRange c.args.longer.now.unknowns c.args.kept.now (length c.args.kept.now)) new within)

pub invariant_of-result : goal.invariant_of-result
invariant_of-result c =
    let n = c.args.longer.now.unknowns in
    let held = with_items_is c.in_ok-carried.carried c.carry_rows.new.rows
    (c.carry_rows.auto.rows ∙ ap (λ (xs : List DenseRow). length xs) c.deref_mut.ensures.value ∙ search rules) in
    let items = c.in_ok-append.ensures.items ∙ ap (λ (xs : List DenseRow). c.in_ok-rows.rows.items ++ xs) held in
    let proper = rw c.in_default.is at c.in_ok-refusal.ensures.proper in
    let new = c.args.longer.now.unknowns - c.columns-columns.result in
    let columns = c.columns-columns.ensures in
    let within = c.requires.longer.columns in
    let all : c.columns-columns.result + (c.args.longer.now.unknowns - c.columns-columns.result) ≡ c.args.longer.now.unknowns = omega arith in
    let old = subst (λ (m : ℕ). AreProper m c.in_ok-rows.rows.items) all c.in_ok-rows.ensures.proper in
    let view_columns = ap (λ (t : Tableau). length t.non_basic) c.self.view_is in
    let view_rows = ap (λ (t : Tableau). length t.rows) c.self.view_is in
    let names = ap (λ (xs : List ℕ). length xs) c.deref-2.ensures.value in
    let wide = names_long c.deref-2.result.now c.in_ok-non_basic.non_basic.items c.columns-columns.result c.args.longer.now.unknowns (omega arith) (omega arith)
    c.in_ok-non_basic.ensures in
    let P : ℕ → List DenseRow → Type 0 = AreProper in
    let r1 = length-append c.in_ok-rows.rows.items c.carry_rows.new.rows in
    let r2 = ap (λ (xs : List TableauRow). length xs) c.in_ok-rows.ensures.value in
    let r3 = length-map c.in_ok-rows.rows.items row_view in
    let r4 = length-map (views c.deref.result.now) (widened c.columns-columns.result new) in
    let r5 = length-map c.deref.result.now row_view in
    let r6 = ap (λ (xs : List DenseRow). length xs) c.deref.ensures.value in
    let r7 = length-map c.self.inside.rows.items row_view in
    let r8 = ap (λ (xs : List DenseRow). length xs) items in
    let r9 = c.carry_rows.auto.rows in
    let r10 = ap (λ (xs : List DenseRow). length xs) c.deref_mut.ensures.value in
    let first = c.rows-first.ensures in
    let long = c.in_ok-carried.ensures.long in
    let room = c.requires.room in
    record {
      proper = subst (λ (m : ℕ). P m c.append.new.self.items) (sym wide)
          (subst (P n) (sym items) (proper_joined n c.in_ok-rows.rows.items c.carry_rows.new.rows old proper));
      rows_fit = omega arith;
      columns_fit = omega arith;
    }
