use Rattle.ta_dense.proofs.Common.{◌≡◌, arith, sym, ◌∙◌, ap, ◌+◌, List, ℕ, length, subst, drop, length-range_with_len, slack_rows, views, AreProper}
use Rattle.ta_dense.proofs.SlackRows.{slack_tableau-is}
use Rattle.ta_dense.proofs.dense.DenseDictionaryDictionary.from_system.Goals as goal

pub invariant_of-result : goal.invariant_of-result
invariant_of-result c =
    let n = length-range_with_len 0 c.args.system.now.unknowns in
    let e = ap (λ (xs : List ℕ). length xs) c.in_ok-non_basic.ensures in
    let columns : length c.in_ok-non_basic.non_basic.items ≡ c.args.system.now.unknowns = omega arith in
    let room = c.requires in
    let long = c.in_ok-rows.ensures.long in
    record {
      proper = subst (λ (k : ℕ). AreProper k c.in_ok-rows.rows.items) (sym columns) c.in_ok-rows.ensures.proper;
      rows_fit = omega arith;
      columns_fit = omega arith;
    }

pub returns : goal.returns
returns c =
    let u = c.args.system.now.unknowns in
    let none : c.args.system.now.unknowns + 0 ≡ c.args.system.now.unknowns = omega arith in
    slack_tableau-is c.args.system.now c.in_ok-non_basic.non_basic.items (views c.in_ok-rows.rows.items) c.in_ok-non_basic.ensures
    (c.in_ok-rows.ensures.value ∙ ap (λ (m : ℕ). slack_rows u m (drop 0 c.args.system.now.rows)) none)
