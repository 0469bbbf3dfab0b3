use Rattle.ta_meaning.proofs.Common.{◌≡◌, inr, List, sym, ap, subst, ◌∙◌, err_is, FileFault, First, first_places, length, arith, Row}
use Rattle.ta_meaning.proofs.ComparedForms.{comparison_answers, last_of_comparison, left_first, right_first, rows_count}
use Rattle.ta_meaning.proofs.conditions.resolve_comparison.Goals as goal

pub returns-in_err-left : goal.returns-in_err-left
returns-in_err-left c = rw (err_is c.from_residual.result _ c.from_residual.ensures.1)
    (left_first (first_places c.args.places.now.names c.args.allowed) c.args.comparison.now c.in_err-left.field-0.0 c.in_err-left.ensures)

pub returns-in_err-right : goal.returns-in_err-right
returns-in_err-right c = rw (err_is c.from_residual-in_err-right.result _ c.from_residual-in_err-right.ensures.1)
    (right_first (first_places c.args.places.now.names c.args.allowed) c.args.comparison.now c.in_err-right.field-0.0 c.in_ok-left.ensures.0
    c.in_err-right.ensures)

pub invariant_of-result : goal.invariant_of-result
invariant_of-result c =
    let rows : c.from_vec.result ≡ c.in_ok-rows.rows.items = c.from_vec.ensures ∙ ap (λ v. v.items) c.in_ok-small.ensures.1 in
    let count = rows_count c.args.comparison.now.relation c.in_ok-left.left c.in_ok-right.right c.in_ok-rows.rows.items c.in_ok-rows.ensures in
    let same : length c.from_vec.result ≡ length c.in_ok-rows.rows.items = ap (λ (rs : List Row). length rs) rows in
    record { some = omega (arith, same, count.0); most = omega (arith, same, count.1) }

pub returns-in_err-small : goal.returns-in_err-small
returns-in_err-small c =
    let s = first_places c.args.places.now.names c.args.allowed in
    let answers = comparison_answers s c.args.comparison.now c.in_ok-left.left c.in_ok-right.right c.in_ok-rows.rows.items c.in_ok-left.ensures.0
    c.in_ok-right.ensures.0 c.in_ok-left.ensures.1 c.in_ok-right.ensures.1 c.in_ok-rows.ensures in
    let last = last_of_comparison s c.args.comparison.now c.in_ok-left.ensures.0 c.in_ok-right.ensures.0 in
    rw (err_is c.from_residual-in_err-small.result _ c.from_residual-in_err-small.ensures.1)
    (inr (subst (λ (fs : List FileFault). First fs c.in_err-small.field-0.0) (answers.0 ∙ sym last) c.in_err-small.ensures))

pub returns : goal.returns
returns c =
    let s = first_places c.args.places.now.names c.args.allowed in
    let answers = comparison_answers s c.args.comparison.now c.in_ok-left.left c.in_ok-right.right c.in_ok-rows.rows.items c.in_ok-left.ensures.0
    c.in_ok-right.ensures.0 c.in_ok-left.ensures.1 c.in_ok-right.ensures.1 c.in_ok-rows.ensures in
    let last = last_of_comparison s c.args.comparison.now c.in_ok-left.ensures.0 c.in_ok-right.ensures.0 in
    let rows : c.from_vec.result ≡ c.in_ok-rows.rows.items = c.from_vec.ensures ∙ ap (λ v. v.items) c.in_ok-small.ensures.1 in
    (last ∙ sym answers.0 ∙ c.in_ok-small.ensures.0, answers.1 c.in_ok-small.ensures.0 _ rows)
