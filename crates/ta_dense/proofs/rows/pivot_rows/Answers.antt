use Rattle.ta_dense.proofs.Common.{arith, sym, ◌∙◌, ap, List, ◌++◌, ◌∷◌, length, map-append, length-map, row_view, views}
use Rattle.ta_dense.proofs.Common.{◌<◌, ◌<ℤ◌, pos, subst, cell_of, IsProper, TableauRow}
use Rattle.ta_dense.proofs.PivotParts.{at_row, cut_of, pivoted_cut, refused_before, refused_after, all_others, proper_first, proper_rest, merge_below_views}
use Rattle.ta_dense.proofs.rows.pivot_rows.Goals as goal

pub returns-clause-value : goal.returns-clause-value
returns-clause-value c =
    let before = c.split_at_mut-before.result.0.now in
    let cut = cut_of c.args.rows.now before c.in-Some.after.now c.in-Some.chosen.now c.args.row
    (c.split_at_mut-before.ensures.value ∙ ap (λ (xs : List _). before ++ xs) c.in-Some.ensures.cases.0) c.split_at_mut-before.ensures.front_len in
    map-append row_view c.merge_all.new.rows (c.turn.new.row ∷ c.merge_all-2.new.rows)
    ∙ pivoted_cut (views c.args.rows.now) (views before) (views c.in-Some.after.now) (views c.merge_all.new.rows) (views c.merge_all-2.new.rows)
    (row_view c.in-Some.chosen.now) (row_view c.turn.new.row) c.args.row c.args.column c.args.entering cut
    c.in_default-merge_all.ensures.value c.turn.ensures.value c.in_default-merge_all-2.ensures.value

pub returns-in-Some-merge_all-clause-refused : goal.returns-in-Some-merge_all-clause-refused
returns-in-Some-merge_all-clause-refused c =
    let before = c.split_at_mut-before.result.0.now in
    let cut = cut_of c.args.rows.now before c.in-Some.after.now c.in-Some.chosen.now c.args.row
    (c.split_at_mut-before.ensures.value ∙ ap (λ (xs : List _). before ++ xs) c.in-Some.ensures.cases.0) c.split_at_mut-before.ensures.front_len in
    refused_before (views c.args.rows.now) (views before) (views c.in-Some.after.now) (row_view c.in-Some.chosen.now) c.args.row c.args.column
    c.in-Some-merge_all.at cut c.in-Some-merge_all.ensures.refused

pub merge_all-requires-2-clause-rows : goal.merge_all-requires-2-clause-rows
merge_all-requires-2-clause-rows c =
    let before = c.split_at_mut-before.result.0.now in
    let cut = cut_of c.args.rows.now before c.in-Some.after.now c.in-Some.chosen.now c.args.row
    (c.split_at_mut-before.ensures.value ∙ ap (λ (xs : List _). before ++ xs) c.in-Some.ensures.cases.0) c.split_at_mut-before.ensures.front_len in
    let l1 = length-map c.args.rows.now row_view in
    let l2 = length-map c.in-Some.after.now row_view in
    λ i h. proper_rest (views c.args.rows.now) (views before) (views c.in-Some.after.now) (row_view c.in-Some.chosen.now) c.args.row cut
    (λ k below. c.requires.proper k (omega arith)) i (omega arith)

pub returns-in-Some-merge_all-2-clause-refused : goal.returns-in-Some-merge_all-2-clause-refused
returns-in-Some-merge_all-2-clause-refused c =
    let before = c.split_at_mut-before.result.0.now in
    let cut = cut_of c.args.rows.now before c.in-Some.after.now c.in-Some.chosen.now c.args.row
    (c.split_at_mut-before.ensures.value ∙ ap (λ (xs : List _). before ++ xs) c.in-Some.ensures.cases.0) c.split_at_mut-before.ensures.front_len in
    refused_after (views c.args.rows.now) (views before) (views c.in-Some.after.now) (row_view c.in-Some.chosen.now) c.args.row c.args.column
    c.in-Some-merge_all-2.at cut
    (merge_below_views c.args.column (row_view c.in-Some.chosen.now) before c.in_default-merge_all.ensures.in_range) c.in-Some-merge_all-2.ensures.refused

pub returns-clause-in_range : goal.returns-clause-in_range
returns-clause-in_range c =
    let before = c.split_at_mut-before.result.0.now in
    let cut = cut_of c.args.rows.now before c.in-Some.after.now c.in-Some.chosen.now c.args.row
    (c.split_at_mut-before.ensures.value ∙ ap (λ (xs : List _). before ++ xs) c.in-Some.ensures.cases.0) c.split_at_mut-before.ensures.front_len in
    let l1 = length-map c.args.rows.now row_view in
    all_others (views c.args.rows.now) (views before) (views c.in-Some.after.now) (row_view c.in-Some.chosen.now) c.args.row c.args.column
    (length c.args.rows.now) cut (sym l1)
    (merge_below_views c.args.column (row_view c.in-Some.chosen.now) before c.in_default-merge_all.ensures.in_range)
    (merge_below_views c.args.column (row_view c.in-Some.chosen.now) c.in-Some.after.now c.in_default-merge_all-2.ensures.in_range)

pub merge_all-requires-clause-chosen : goal.merge_all-requires-clause-chosen
merge_all-requires-clause-chosen c =
    let before = c.split_at_mut-before.result.0.now in
    let cut = cut_of c.args.rows.now before c.in-Some.after.now c.in-Some.chosen.now c.args.row
    (c.split_at_mut-before.ensures.value ∙ ap (λ (xs : List _). before ++ xs) c.in-Some.ensures.cases.0) c.split_at_mut-before.ensures.front_len in
    let is = at_row (views c.args.rows.now) (views before) (views c.in-Some.after.now) (row_view c.in-Some.chosen.now) c.args.row cut in
    subst (λ (r : TableauRow). IsProper (length r.cells) r) is (c.requires.proper c.args.row c.requires.row)

pub merge_all-requires-clause-column : goal.merge_all-requires-clause-column
merge_all-requires-clause-column c =
    let before = c.split_at_mut-before.result.0.now in
    let cut = cut_of c.args.rows.now before c.in-Some.after.now c.in-Some.chosen.now c.args.row
    (c.split_at_mut-before.ensures.value ∙ ap (λ (xs : List _). before ++ xs) c.in-Some.ensures.cases.0) c.split_at_mut-before.ensures.front_len in
    let is = at_row (views c.args.rows.now) (views before) (views c.in-Some.after.now) (row_view c.in-Some.chosen.now) c.args.row cut in
    subst (λ (r : TableauRow). c.args.column < length r.cells) is c.requires.column

pub merge_all-requires-clause-positive : goal.merge_all-requires-clause-positive
merge_all-requires-clause-positive c =
    let before = c.split_at_mut-before.result.0.now in
    let cut = cut_of c.args.rows.now before c.in-Some.after.now c.in-Some.chosen.now c.args.row
    (c.split_at_mut-before.ensures.value ∙ ap (λ (xs : List _). before ++ xs) c.in-Some.ensures.cases.0) c.split_at_mut-before.ensures.front_len in
    let is = at_row (views c.args.rows.now) (views before) (views c.in-Some.after.now) (row_view c.in-Some.chosen.now) c.args.row cut in
    subst (λ (r : TableauRow). pos 0 <ℤ cell_of r c.args.column) is c.requires.positive

pub merge_all-requires-2-clause-chosen : goal.merge_all-requires-2-clause-chosen
merge_all-requires-2-clause-chosen c =
    let before = c.split_at_mut-before.result.0.now in
    let cut = cut_of c.args.rows.now before c.in-Some.after.now c.in-Some.chosen.now c.args.row
    (c.split_at_mut-before.ensures.value ∙ ap (λ (xs : List _). before ++ xs) c.in-Some.ensures.cases.0) c.split_at_mut-before.ensures.front_len in
    let is = at_row (views c.args.rows.now) (views before) (views c.in-Some.after.now) (row_view c.in-Some.chosen.now) c.args.row cut in
    subst (λ (r : TableauRow). IsProper (length r.cells) r) is (c.requires.proper c.args.row c.requires.row)

pub merge_all-requires-2-clause-column : goal.merge_all-requires-2-clause-column
merge_all-requires-2-clause-column c =
    let before = c.split_at_mut-before.result.0.now in
    let cut = cut_of c.args.rows.now before c.in-Some.after.now c.in-Some.chosen.now c.args.row
    (c.split_at_mut-before.ensures.value ∙ ap (λ (xs : List _). before ++ xs) c.in-Some.ensures.cases.0) c.split_at_mut-before.ensures.front_len in
    let is = at_row (views c.args.rows.now) (views before) (views c.in-Some.after.now) (row_view c.in-Some.chosen.now) c.args.row cut in
    subst (λ (r : TableauRow). c.args.column < length r.cells) is c.requires.column

pub merge_all-requires-2-clause-positive : goal.merge_all-requires-2-clause-positive
merge_all-requires-2-clause-positive c =
    let before = c.split_at_mut-before.result.0.now in
    let cut = cut_of c.args.rows.now before c.in-Some.after.now c.in-Some.chosen.now c.args.row
    (c.split_at_mut-before.ensures.value ∙ ap (λ (xs : List _). before ++ xs) c.in-Some.ensures.cases.0) c.split_at_mut-before.ensures.front_len in
    let is = at_row (views c.args.rows.now) (views before) (views c.in-Some.after.now) (row_view c.in-Some.chosen.now) c.args.row cut in
    subst (λ (r : TableauRow). pos 0 <ℤ cell_of r c.args.column) is c.requires.positive

pub turn-requires-clause-proper : goal.turn-requires-clause-proper
turn-requires-clause-proper c =
    let before = c.split_at_mut-before.result.0.now in
    let cut = cut_of c.args.rows.now before c.in-Some.after.now c.in-Some.chosen.now c.args.row
    (c.split_at_mut-before.ensures.value ∙ ap (λ (xs : List _). before ++ xs) c.in-Some.ensures.cases.0) c.split_at_mut-before.ensures.front_len in
    let is = at_row (views c.args.rows.now) (views before) (views c.in-Some.after.now) (row_view c.in-Some.chosen.now) c.args.row cut in
    subst (λ (r : TableauRow). IsProper (length r.cells) r) is (c.requires.proper c.args.row c.requires.row)

pub turn-requires-clause-column : goal.turn-requires-clause-column
turn-requires-clause-column c =
    let before = c.split_at_mut-before.result.0.now in
    let cut = cut_of c.args.rows.now before c.in-Some.after.now c.in-Some.chosen.now c.args.row
    (c.split_at_mut-before.ensures.value ∙ ap (λ (xs : List _). before ++ xs) c.in-Some.ensures.cases.0) c.split_at_mut-before.ensures.front_len in
    let is = at_row (views c.args.rows.now) (views before) (views c.in-Some.after.now) (row_view c.in-Some.chosen.now) c.args.row cut in
    subst (λ (r : TableauRow). c.args.column < length r.cells) is c.requires.column

pub turn-requires-clause-positive : goal.turn-requires-clause-positive
turn-requires-clause-positive c =
    let before = c.split_at_mut-before.result.0.now in
    let cut = cut_of c.args.rows.now before c.in-Some.after.now c.in-Some.chosen.now c.args.row
    (c.split_at_mut-before.ensures.value ∙ ap (λ (xs : List _). before ++ xs) c.in-Some.ensures.cases.0) c.split_at_mut-before.ensures.front_len in
    let is = at_row (views c.args.rows.now) (views before) (views c.in-Some.after.now) (row_view c.in-Some.chosen.now) c.args.row cut in
    subst (λ (r : TableauRow). pos 0 <ℤ cell_of r c.args.column) is c.requires.positive

pub merge_all-requires-clause-rows : goal.merge_all-requires-clause-rows
merge_all-requires-clause-rows c =
    let before = c.split_at_mut-before.result.0.now in
    let cut = cut_of c.args.rows.now before c.in-Some.after.now c.in-Some.chosen.now c.args.row
    (c.split_at_mut-before.ensures.value ∙ ap (λ (xs : List _). before ++ xs) c.in-Some.ensures.cases.0) c.split_at_mut-before.ensures.front_len in
    let l1 = length-map c.args.rows.now row_view in
    let l2 = length-map c.split_at_mut-before.result.0.now row_view in
    λ i h. proper_first (views c.args.rows.now) (views before) (views c.in-Some.after.now) (row_view c.in-Some.chosen.now) c.args.row cut
    (λ k below. c.requires.proper k (omega arith)) i (omega arith)
