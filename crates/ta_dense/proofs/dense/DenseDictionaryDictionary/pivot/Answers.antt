use Rattle.ta_dense.proofs.Common.{◌<ℤ◌, arith, sym, ◌∙◌, ap, subst, List, length, rules, ℕ, pos, length-map, with_items_is, length-set, Tableau, cell_of}
use Rattle.ta_dense.proofs.Common.{◌<◌, row_of, AllMergeInRange, row_view, view_at, AreProper, DenseRow}
use Rattle.std.specs.Vec.{with_items}
use Rattle.ta_dense.proofs.DenseFacts.{proper_after_pivot, others_of_views}
use Rattle.ta_dense.proofs.dense.DenseDictionaryDictionary.pivot.Goals as goal

pub invariant_of-result : goal.invariant_of-result
invariant_of-result c =
    let rows = ap (λ (t : Tableau). length t.rows) c.self.view_is in
    let columns = ap (λ (t : Tableau). length t.non_basic) c.self.view_is in
    let l = length-map c.self.inside.rows.items row_view in
    let P : Tableau → Type 0 = λ t. pos 0 <ℤ cell_of (row_of t c.args.row) c.args.column in
    let positive = subst P (sym c.self.view_is) c.requires.positive in
    let value = rw c.deref_mut.ensures.value at c.in_default.ensures.value in
    let others = rw c.deref_mut.ensures.value at c.in_default.ensures.in_range in
    let auto = c.pivot_rows.auto.rows ∙ ap (λ (xs : List DenseRow). length xs) c.deref_mut.ensures.value in
    let items = with_items_is c.self.inside.rows c.pivot_rows.new.rows (auto ∙ search rules) in
    let proper = proper_after_pivot (length c.self.inside.non_basic.items) c.args.row c.args.column c.index-entering.result.now c.self.inside.rows.items
    c.pivot_rows.new.rows c.self.invariant.proper (omega arith) (omega arith) positive others value auto in
    let wide = length-set c.self.inside.non_basic.items c.args.column c.index.result.now.basic in
    let Q : ℕ → List DenseRow → Type 0 = AreProper in
    let long = ap (λ (xs : List DenseRow). length xs) items in
    record {
      proper = subst (λ (n : ℕ). Q n (with_items c.self.inside.rows c.pivot_rows.new.rows).items) (sym wide)
          (subst (Q (length c.self.inside.non_basic.items)) (sym items) proper);
      rows_fit = omega arith;
      columns_fit = let narrow = c.self.invariant.columns_fit in omega arith;
    }

pub returns-clause-in_range : goal.returns-clause-in_range
returns-clause-in_range c =
    let others = rw c.deref_mut.ensures.value at c.in_default.ensures.in_range in
    subst (λ (t : Tableau). AllMergeInRange t c.args.row c.args.column) c.self.view_is
    (others_of_views c.args.row c.args.column c.self.inside.rows.items others)

pub pivot_rows-requires-clause-proper : goal.pivot_rows-requires-clause-proper
pivot_rows-requires-clause-proper c =
    let rows = ap (λ (t : Tableau). length t.rows) c.self.view_is in
    let l = length-map c.self.inside.rows.items row_view in
    let long = (c.self.invariant.proper c.args.row (omega arith)).long in
    let P : ℕ → List DenseRow → Type 0 = AreProper in
    subst (λ (xs : List DenseRow). P (length (view_at xs c.args.row).cells) xs) (sym c.deref_mut.ensures.value)
    (subst (λ (m : ℕ). P m c.self.inside.rows.items) (sym long) c.self.invariant.proper)

pub pivot_rows-requires-clause-column : goal.pivot_rows-requires-clause-column
pivot_rows-requires-clause-column c =
    let rows = ap (λ (t : Tableau). length t.rows) c.self.view_is in
    let columns = ap (λ (t : Tableau). length t.non_basic) c.self.view_is in
    let l = length-map c.self.inside.rows.items row_view in
    let long = (c.self.invariant.proper c.args.row (omega arith)).long in
    let inside : c.args.column < length (view_at c.self.inside.rows.items c.args.row).cells = omega arith in
    subst (λ (xs : List DenseRow). c.args.column < length (view_at xs c.args.row).cells) (sym c.deref_mut.ensures.value) inside

pub pivot_rows-requires-clause-positive : goal.pivot_rows-requires-clause-positive
pivot_rows-requires-clause-positive c =
    let P : Tableau → Type 0 = λ t. pos 0 <ℤ cell_of (row_of t c.args.row) c.args.column in
    subst (λ (xs : List DenseRow). pos 0 <ℤ cell_of (view_at xs c.args.row) c.args.column) (sym c.deref_mut.ensures.value)
    (subst P (sym c.self.view_is) c.requires.positive)
