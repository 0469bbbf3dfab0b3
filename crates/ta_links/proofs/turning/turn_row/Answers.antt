use Rattle.ta_links.proofs.Common.{◌≡◌, ◌∙◌, ap, sym, subst, rules, List, ℤ, pos, neg_ℤ, ◌-ℤ◌, get_or, set, to_z-of_z, SFits, w128, zero_minus, RowHead}
use Rattle.ta_links.proofs.Common.{no_head, IsProperHead}
use Rattle.ta_base.proofs.Integers.{minus_fits}
use Rattle.ta_links.proofs.TurnedRow.{turns_within, turn_done}
use Rattle.ta_links.proofs.turning.turn_row.Goals as goal

pub write_merged-requires-clause-turned : goal.write_merged-requires-clause-turned
write_merged-requires-clause-turned c =
    let hs = c.args.heads.now.items in
    let eh : c.head_of-head.result ≡ get_or hs c.args.row no_head = c.head_of-head.ensures
    ∙ ap (λ (xs : List RowHead). get_or xs c.args.row no_head) c.deref.ensures.value in
    let hp : IsProperHead c.head_of-head.result = subst IsProperHead (sym eh) (c.requires.proper c.args.row c.requires.row) in
    let f : SFits w128 c.head_of-head.result.denominator = search rules in
    simp to_z-of_z hp.denominator

pub write_merged-requires-clause-within : goal.write_merged-requires-clause-within
write_merged-requires-clause-within c j b = turns_within c.args.links.now c.args.row c.args.column c.requires.sound j

pub returns : goal.returns
returns c =
    let l = c.args.links.now in
    let hs = c.args.heads.now.items in
    let eh : c.head_of-head.result ≡ get_or hs c.args.row no_head = c.head_of-head.ensures
    ∙ ap (λ (xs : List RowHead). get_or xs c.args.row no_head) c.deref.ensures.value in
    let hp : IsProperHead c.head_of-head.result = subst IsProperHead (sym eh) (c.requires.proper c.args.row c.requires.row) in
    let fd : SFits w128 c.head_of-head.result.denominator = search rules in
    let fk : SFits w128 c.head_of-head.result.constant = search rules in
    let fm : SFits w128 (pos 0 -ℤ c.head_of-head.result.constant) = minus_fits w128 c.head_of-head.result.constant hp.constant in
    let fn : SFits w128 c.number-denominator.result = search rules in
    let wm = simp to_z-of_z at c.in_ok-write_merged.ensures in
    let nh : RowHead = record { basic = c.args.entering; denominator = c.number-denominator.result; constant = pos 0 -ℤ c.head_of-head.result.constant } in
    let set_ : c.write_head.new.heads.items ≡ set hs c.args.row nh = simp to_z-of_z at c.write_head.ensures in
    let is : nh ≡ record { basic = c.args.entering; denominator = c.number-denominator.result; constant = neg_ℤ c.head_of-head.result.constant } = ap
    (λ (z : ℤ). record { basic = c.args.entering; denominator = c.number-denominator.result; constant = z }) (zero_minus c.head_of-head.result.constant) in
    turn_done c.args.columns c.args.row c.args.column c.args.entering hs c.write_head.new.heads.items l c.write_merged.new.links c.head_of-head.result nh
    c.number-denominator.result c.requires.sound c.requires.proper c.requires.row c.requires.column c.requires.positive eh
    c.number-denominator.ensures.value wm.values set_ is wm.sound wm.rows wm.same_columns wm.others wm.held
