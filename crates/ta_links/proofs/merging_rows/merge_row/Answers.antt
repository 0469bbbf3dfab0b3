use Rattle.ta_links.proofs.Common.{◌≡◌, ◌∙◌, ap, sym, subst, rules, List, ℤ, pos, ◌*ℤ◌, ◌-ℤ◌, ◌<ℤ◌, get_or, set, arith, int_div, to_z-of_z, to_z_pos, ints}
use Rattle.ta_links.proofs.Common.{SFits, to_z, w128, MergesInRange, RowHead, table_row, no_head, IsProperHead, gcd_of_is, gcd_of, value_in, MergedHead}
use Rattle.ta_links.proofs.Common.{merged_cell, gcd_below, unsigned_abs}
use Rattle.ta_links.proofs.RowMerging.{Begun, RowWritten, new_head, refused_heads, refused_cells, divisor_from, divisor_above, row_done}
use Rattle.ta_links.proofs.merging_rows.merge_row.Goals as goal
use Rattle.ta_links.proofs.merging_rows.merge_row.Goals.{After-head_of-head, In-Some-divisor_of_merged}

-- what the merge begins with
begun : (c : After-head_of-head) → Begun c.args.links.now.cells.items c.args.columns c.args.row c.args.at c.args.column c.factors-p.result.0
    c.factors-p.result.1 c.number-c.result c.number-a.result
begun c =
    let fc : SFits w128 c.number-c.result = search rules in
    let fa : SFits w128 c.number-a.result = search rules in
    let fp : SFits w128 c.factors-p.result.0 = search rules in
    let fq : SFits w128 c.factors-p.result.1 = search rules in
    let fx = simp to_z-of_z at c.factors-p.ensures in
    record {
      inside = c.requires.may.column;
      a_is = c.number-a.ensures.value;
      c_is = c.number-c.ensures.value;
      apart = c.requires.apart;
      first = fx.first;
      second = fx.second;
      positive = fx.positive;
    }

chosen_is : (c : After-head_of-head) → c.head_of-chosen.result ≡ get_or c.args.heads.now.items c.args.row no_head
chosen_is c = c.head_of-chosen.ensures ∙ ap (λ (xs : List RowHead). get_or xs c.args.row no_head) c.deref.ensures.value

head_is : (c : After-head_of-head) → c.head_of-head.result ≡ get_or c.args.heads.now.items c.args.at no_head
head_is c = c.head_of-head.ensures ∙ ap (λ (xs : List RowHead). get_or xs c.args.at no_head) c.deref-2.ensures.value

-- a refusal of the heads that were read is one of the rows
refused : (c : After-head_of-head) →
    (let n = c.args.columns in let cells = c.args.links.now.cells.items in ¬
    (MergesInRange c.args.column (table_row cells n c.args.row c.head_of-chosen.result) (table_row cells n c.args.at c.head_of-head.result))
    → ¬ (MergesInRange c.args.column (table_row cells n c.args.row (get_or c.args.heads.now.items c.args.row no_head))
    (table_row cells n c.args.at (get_or c.args.heads.now.items c.args.at no_head))))
refused c r =
    let n = c.args.columns in
    let cells = c.args.links.now.cells.items in
    subst (λ (h : RowHead). ¬ (MergesInRange c.args.column (table_row cells n c.args.row h)
    (table_row cells n c.args.at (get_or c.args.heads.now.items c.args.at no_head)))) (chosen_is c)
    (subst (λ (h : RowHead). ¬ (MergesInRange c.args.column (table_row cells n c.args.row c.head_of-chosen.result) (table_row cells n c.args.at h))) (head_is c)
    r)

pub returns-in_default-clause-refused : goal.returns-in_default-clause-refused
returns-in_default-clause-refused c e =
    let before = (goal.at.returns-in_default-clause-refused c).After-head_of-head in
    let fp : SFits w128 c.factors-p.result.0 = search rules in
    let fq : SFits w128 c.factors-p.result.1 = search rules in
    let no = simp to_z-of_z at c.in_default.ensures.none in
    refused before (refused_heads c.args.links.now.cells.items c.args.columns c.args.row c.args.at c.args.column c.factors-p.result.0 c.factors-p.result.1
    c.number-c.result c.number-a.result c.head_of-head.result c.head_of-chosen.result (begun before) no)

pub returns-in_default-divisor_of_merged-clause-refused : goal.returns-in_default-divisor_of_merged-clause-refused
returns-in_default-divisor_of_merged-clause-refused c e =
    let before = (goal.at.returns-in_default-divisor_of_merged-clause-refused c).After-head_of-head in
    let fp : SFits w128 c.factors-p.result.0 = search rules in
    let fq : SFits w128 c.factors-p.result.1 = search rules in
    let no = simp to_z-of_z at c.in_default-divisor_of_merged.ensures in
    refused before (refused_cells c.args.links.now.cells.items c.args.columns c.args.row c.args.at c.args.column c.factors-p.result.0 c.factors-p.result.1
    c.number-c.result c.number-a.result c.head_of-head.result c.head_of-chosen.result (begun before) no.refused)

-- the merged head
merged : (c : In-Some-divisor_of_merged) → MergedHead c.factors-p.result.0 c.factors-p.result.1 c.head_of-head.result c.head_of-chosen.result
    (c.in-Some.denominator, c.in-Some.constant, c.in-Some.turned)
merged c =
    let fp : SFits w128 c.factors-p.result.0 = search rules in
    let fq : SFits w128 c.factors-p.result.1 = search rules in
    let fd : SFits w128 c.in-Some.denominator = search rules in
    let fk : SFits w128 c.in-Some.constant = search rules in
    let ft : SFits w128 c.in-Some.turned = search rules in
    simp to_z-of_z at c.in-Some.ensures.some

-- the divisor of the merged row, and that it is positive
divisor : (c : In-Some-divisor_of_merged) → c.in-Some-divisor_of_merged.common ≡ gcd_below
    (gcd_of (unsigned_abs (c.factors-p.result.0 *ℤ c.head_of-head.result.denominator))
    (unsigned_abs (c.factors-p.result.0 *ℤ c.head_of-head.result.constant -ℤ c.factors-p.result.1 *ℤ c.head_of-chosen.result.constant)))
    (merged_cell c.factors-p.result.0 c.factors-p.result.1 c.args.column (c.factors-p.result.1 *ℤ c.head_of-chosen.result.denominator)
    (value_in c.args.links.now.cells.items c.args.at) (value_in c.args.links.now.cells.items c.args.row)) c.args.columns
divisor c =
    let cells = c.args.links.now.cells.items in
    let fp : SFits w128 c.factors-p.result.0 = search rules in
    let fq : SFits w128 c.factors-p.result.1 = search rules in
    let fd : SFits w128 c.in-Some.denominator = search rules in
    let fk : SFits w128 c.in-Some.constant = search rules in
    let ft : SFits w128 c.in-Some.turned = search rules in
    let dv = simp to_z-of_z at c.in-Some-divisor_of_merged.ensures in
    let u = simp to_z-of_z at c.unsigned_abs.ensures.value in
    let v = simp to_z-of_z at c.unsigned_abs-2.ensures.value in
    divisor_from c.args.columns c.args.column c.factors-p.result.0 c.factors-p.result.1 (value_in cells c.args.at) (value_in cells c.args.row)
    c.head_of-head.result c.head_of-chosen.result c.in-Some.denominator c.in-Some.constant c.in-Some.turned
    c.unsigned_abs.result c.unsigned_abs-2.result c.gcd_natural-first.result c.in-Some-divisor_of_merged.common (merged c) u v
    (gcd_of_is _ _ _ c.gcd_natural-first.ensures.value) dv.value

signed : (c : In-Some-divisor_of_merged) → to_z w128 c.in-Some-divisor_of_merged.common ≡ pos c.in-Some-divisor_of_merged.common
signed c = to_z_pos w128 c.in-Some-divisor_of_merged.common c.in-Some-divisor_of_merged.ensures.bound

proper : (c : After-head_of-head) → IsProperHead c.head_of-head.result
proper c = subst IsProperHead (sym (head_is c)) (c.requires.may.proper c.args.at c.requires.may.at)

pub merged_head-requires : goal.merged_head-requires
merged_head-requires c = (proper (goal.at.merged_head-requires c).After-head_of-head).constant

above : (c : In-Some-divisor_of_merged) → pos 0 <ℤ c.factors-p.result.0 → IsProperHead c.head_of-head.result
    → pos 0 <ℤ to_z w128 c.in-Some-divisor_of_merged.common
above c positive head =
    let more = divisor_above c.args.links.now.cells.items c.args.columns c.args.row c.args.at c.args.column c.factors-p.result.0 c.factors-p.result.1
    c.head_of-head.result c.head_of-chosen.result c.in-Some-divisor_of_merged.common c.requires.may.column positive head.positive (divisor c) in
    subst (λ (z : ℤ). pos 0 <ℤ z) (sym (signed c)) (omega (arith, ints, more))

pub write_merged-requires-clause-divisor : goal.write_merged-requires-clause-divisor
write_merged-requires-clause-divisor c =
    let w = goal.at.write_merged-requires-clause-divisor c in
    above w.In-Some-divisor_of_merged (begun w.After-head_of-head).positive (proper w.After-head_of-head)

pub quotient-requires-clause-divisor : goal.quotient-requires-clause-divisor
quotient-requires-clause-divisor c =
    let w = goal.at.quotient-requires-clause-divisor c in
    above w.In-Some-divisor_of_merged (begun w.After-head_of-head).positive (proper w.After-head_of-head)

pub quotient-requires-2-clause-divisor : goal.quotient-requires-2-clause-divisor
quotient-requires-2-clause-divisor c =
    let w = goal.at.quotient-requires-2-clause-divisor c in
    above w.In-Some-divisor_of_merged (begun w.After-head_of-head).positive (proper w.After-head_of-head)

pub returns-clause-done : goal.returns-clause-done
returns-clause-done c e =
    let places = goal.at.returns-clause-done c in
    let before = places.After-head_of-head in
    let within = places.In-Some-divisor_of_merged in
    let l = c.args.links.now in
    let hs = c.args.heads.now.items in
    let n = c.args.columns in
    let cells = l.cells.items in
    let p = c.factors-p.result.0 in
    let q = c.factors-p.result.1 in
    let fp : SFits w128 c.factors-p.result.0 = search rules in
    let fq : SFits w128 c.factors-p.result.1 = search rules in
    let fd : SFits w128 c.in-Some.denominator = search rules in
    let fk : SFits w128 c.in-Some.constant = search rules in
    let ft : SFits w128 c.in-Some.turned = search rules in
    let f1 : SFits w128 c.quotient.result = search rules in
    let f2 : SFits w128 c.quotient-2.result = search rules in
    let mh = merged within in
    let dv = simp to_z-of_z at c.in-Some-divisor_of_merged.ensures in
    let common = c.in-Some-divisor_of_merged.common in
    let as_ = signed within in
    let wm = simp to_z-of_z at c.in_ok-write_merged.ensures in
    let q1 : c.quotient.result ≡ int_div (p *ℤ c.head_of-head.result.denominator) (pos common) = (simp to_z-of_z at c.quotient.ensures.value)
    ∙ ap (int_div c.in-Some.denominator) as_ ∙ ap (λ (z : ℤ). int_div z (pos common)) mh.denominator in
    let q2 : c.quotient-2.result ≡ int_div (p *ℤ c.head_of-head.result.constant -ℤ q *ℤ c.head_of-chosen.result.constant) (pos common) =
    (simp to_z-of_z at c.quotient-2.ensures.value) ∙ ap (int_div c.in-Some.constant) as_ ∙ ap (λ (z : ℤ). int_div z (pos common)) mh.constant in
    let nh : RowHead = record { basic = c.head_of-head.result.basic; denominator = c.quotient.result; constant = c.quotient-2.result } in
    let set_ : c.write_head.new.heads.items ≡ set hs c.args.at nh = simp to_z-of_z at c.write_head.ensures in
    let nh_is : nh ≡ new_head p q c.head_of-head.result c.head_of-chosen.result common = ap
    (λ (z : ℤ). record { basic = c.head_of-head.result.basic; denominator = z; constant = c.quotient-2.result }) q1
    ∙ ap (λ (z : ℤ). record {
      basic = c.head_of-head.result.basic;
      denominator = int_div (p *ℤ c.head_of-head.result.denominator) (pos common);
      constant = z;
    }) q2 in
    let w : RowWritten cells c.write_merged.new.links.cells.items n c.args.row c.args.at c.args.column p q c.head_of-head.result c.head_of-chosen.result common
    = record {
      inside = c.requires.may.column;
      divisor = divisor within;
      values = λ j b. wm.values j b ∙ ap (int_div (merged_cell p q c.args.column c.in-Some.turned (value_in cells c.args.at) (value_in cells c.args.row) j)) as_
          ∙ ap (λ (z : ℤ). int_div (merged_cell p q c.args.column z (value_in cells c.args.at) (value_in cells c.args.row) j) (pos common)) mh.turned;
    } in
    row_done n c.args.row c.args.at c.args.column hs c.write_head.new.heads.items l c.write_merged.new.links p q c.number-c.result c.number-a.result
    c.head_of-head.result c.head_of-chosen.result nh common
    c.requires.may.sound c.requires.may.proper c.requires.may.row c.requires.may.at (chosen_is before) (head_is before) (begun before) c.requires.may.positive
    mh.within dv.within w set_ nh_is wm.sound wm.rows wm.same_columns wm.others wm.held
