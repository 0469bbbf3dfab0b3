use Rattle.ta_revised.proofs.Common.{◌≡◌, ◌+◌, ◌-◌, ◌++◌, ◌∷◌, [], suc, ℕ, List, length, arith, ap, sym, subst, ◌∙◌, range_with_len, length-range_with_len}
use Rattle.ta_revised.proofs.Common.{range_more, tableau_same, unit_rows, AreUnknownRows, ListsBasic, unknown_rows, UnknownRow}
use Rattle.ta_revised.proofs.UnknownRowSteps.{length_pushed}
use Rattle.ta_revised.proofs.revised.RevisedDictionary.first.Goals.{In_ok-push_units}
use Rattle.ta_revised.proofs.revised.RevisedDictionary.first.Goals as goal

pub loop-unknown-preserved : goal.loop-unknown-preserved
loop-unknown-preserved c =
    let n = c.loop-unknown.unknown in
    let e : suc c.loop-unknown.unknown ≡ c.loop-unknown.unknown + 1 = omega arith in
    let z : 0 + c.loop-unknown.unknown ≡ c.loop-unknown.unknown = omega arith in
    c.in_ok-push.ensures.items ∙ ap (λ (xs : List ℕ). xs ++ n ∷ []) c.loop-unknown.invariant ∙ ap (λ (x : ℕ). range_with_len 0 n ++ x ∷ []) (sym z)
    ∙ sym (range_more 0 n) ∙ ap (range_with_len 0) e

-- how many rows there are
counted : (c : In_ok-push_units) → length c.push_units.new.rows.items ≡ c.args.unknowns
counted c =
    let none = ap (λ (xs : List UnknownRow). length xs) c.in_ok-rows.ensures.items in
    let count = length_pushed c.args.unknowns 0 c.in_ok-rows.rows.items c.push_units.new.rows.items c.in_ok-push_units.ensures.value in
    omega arith

pub basic_unknowns-requires : goal.basic_unknowns-requires
basic_unknowns-requires c =
    let count = counted (goal.at.basic_unknowns-requires c).In_ok-push_units in
    rw c.deref.ensures.value (omega arith)

pub invariant_of-result : goal.invariant_of-result
invariant_of-result c =
    let names = ap (λ (xs : List ℕ). length xs) c.loop-unknown.invariant ∙ length-range_with_len 0 c.loop-unknown.unknown in
    let long : length c.loop-unknown.non_basic.items ≡ c.args.unknowns = omega arith in
    let count = counted (goal.at.invariant_of-result c).In_ok-push_units in
    record {
      rows = subst (λ (m : ℕ). AreUnknownRows m c.push_units.new.rows.items) (sym long) c.in_ok-push_units.ensures.rows;
      columns_fit = omega arith;
      rows_fit = omega arith;
      basic = subst (ListsBasic c.in_ok-basic.basic.items) c.deref.ensures.value c.in_ok-basic.ensures;
    }

pub returns : goal.returns
returns c =
    let u = c.args.unknowns in
    let all : c.loop-unknown.unknown ≡ c.args.unknowns = omega arith in
    let names = c.loop-unknown.invariant ∙ ap (range_with_len 0) all in
    let long : length c.loop-unknown.non_basic.items ≡ c.args.unknowns = ap (λ (xs : List ℕ). length xs) names ∙ length-range_with_len 0 u in
    let zero : c.args.unknowns - 0 ≡ c.args.unknowns = omega arith in
    let value = c.in_ok-push_units.ensures.value ∙ ap (λ (xs : List UnknownRow). unknown_rows u xs ++ unit_rows u 0 (u - 0)) c.in_ok-rows.ensures.items
    ∙ ap (unit_rows u 0) zero in
    tableau_same c.loop-unknown.non_basic.items (range_with_len 0 u) (unknown_rows (length c.loop-unknown.non_basic.items) c.push_units.new.rows.items)
    (unit_rows u 0 u) names (ap (λ (m : ℕ). unknown_rows m c.push_units.new.rows.items) long ∙ value)
