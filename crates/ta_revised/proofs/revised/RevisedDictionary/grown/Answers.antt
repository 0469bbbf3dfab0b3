use Rattle.ta_revised.proofs.Common.{◌≡◌, ◌≤◌, ◌-◌, ◌++◌, ℕ, List, map, length, arith, ap, sym, subst, ◌∙◌, length-map, TableauRow, Tableau, zero_filled}
use Rattle.ta_revised.proofs.Common.{raised, range_with_len, names_long, grown, AreUnknownRows, ListsBasic, unknown_rows, unknown_row, UnknownRow}
use Rattle.ta_revised.proofs.GrownRows.{grown_is}
use Rattle.ta_revised.proofs.UnknownRowSteps.{length_pushed}
use Rattle.ta_revised.proofs.revised.RevisedDictionary.grown.Goals.{In_ok-push_units}
use Rattle.ta_revised.proofs.revised.RevisedDictionary.grown.Goals as goal

-- how many columns there were
few : (c : In_ok-push_units) → c.len-old.result ≤ c.args.unknowns
few c =
    let columns = ap (λ (t : Tableau). length t.non_basic) c.self.view_is in
    omega arith

-- how many there are
long : (c : In_ok-push_units) → length c.in_ok-non_basic.non_basic.items ≡ c.args.unknowns
long c =
    let u = c.args.unknowns in
    let names : c.in_ok-non_basic.non_basic.items ≡ map (raised c.len-old.result (c.args.unknowns - c.len-old.result)) c.self.inside.non_basic.items
    ++ range_with_len c.len-old.result (c.args.unknowns - c.len-old.result) = c.in_ok-non_basic.ensures ∙ ap (λ (us : List ℕ).
    map (raised c.len-old.result (u - c.len-old.result)) us ++ range_with_len c.len-old.result (u - c.len-old.result)) c.deref.ensures.value in
    names_long c.self.inside.non_basic.items c.in_ok-non_basic.non_basic.items c.len-old.result u (few c) (omega arith) names

-- the rows are filled with zeros
filled : (c : In_ok-push_units) → unknown_rows c.args.unknowns c.in_ok-rows.rows.items ≡ map (zero_filled (c.args.unknowns - c.len-old.result))
    (unknown_rows c.len-old.result c.self.inside.rows.items)
filled c = c.in_ok-rows.ensures.value ∙ ap (λ (xs : List UnknownRow). map (zero_filled (c.args.unknowns - c.len-old.result)) (unknown_rows c.len-old.result xs))
    c.deref-2.ensures.value

-- how many rows there are
counted : (c : In_ok-push_units) → length c.push_units.new.rows.items ≡ c.args.unknowns
counted c =
    let u = c.args.unknowns in
    let old = c.len-old.result in
    let count = length_pushed u old c.in_ok-rows.rows.items c.push_units.new.rows.items c.in_ok-push_units.ensures.value in
    let l1 = ap (λ (rs : List TableauRow). length rs) (filled c) in
    let l2 = length-map c.in_ok-rows.rows.items (unknown_row u) in
    let l3 = length-map (unknown_rows old c.self.inside.rows.items) (zero_filled (u - old)) in
    let l4 = length-map c.self.inside.rows.items (unknown_row old) in
    let l5 = length-map c.self.inside.rows.items (unknown_row (length c.self.inside.non_basic.items)) in
    let v1 = ap (λ (t : Tableau). length t.non_basic) c.self.view_is in
    let v2 = ap (λ (t : Tableau). length t.rows) c.self.view_is in
    omega arith

pub basic_unknowns-requires : goal.basic_unknowns-requires
basic_unknowns-requires c =
    let count = counted (goal.at.basic_unknowns-requires c).In_ok-push_units in
    rw c.deref-3.ensures.value (omega arith)

pub invariant_of-result : goal.invariant_of-result
invariant_of-result c =
    let at = goal.at.invariant_of-result c in
    let wide = long at.In_ok-push_units in
    let count = counted at.In_ok-push_units in
    record {
      rows = subst (λ (m : ℕ). AreUnknownRows m c.push_units.new.rows.items) (sym wide) c.in_ok-push_units.ensures.rows;
      columns_fit = omega arith;
      rows_fit = omega arith;
      basic = subst (ListsBasic c.in_ok-basic.basic.items) c.deref-3.ensures.value c.in_ok-basic.ensures;
    }

pub returns : goal.returns
returns c =
    let at = goal.at.returns c in
    let u = c.args.unknowns in
    let old = c.len-old.result in
    grown_is c.self.inside.non_basic.items c.in_ok-non_basic.non_basic.items c.self.inside.rows.items c.in_ok-rows.rows.items c.push_units.new.rows.items old u
    (omega arith) (few at.In_ok-push_units) (c.in_ok-non_basic.ensures ∙ ap (λ (us : List ℕ). map (raised old (u - old)) us ++ range_with_len old (u - old))
    c.deref.ensures.value) (filled at.In_ok-push_units)
    c.in_ok-push_units.ensures.value ∙ ap (λ (t : Tableau). grown t u) c.self.view_is
