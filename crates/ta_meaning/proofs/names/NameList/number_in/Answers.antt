use Rattle.ta_meaning.proofs.Common.{◌-◌, ◌≤◌, false, map, take, drop, sym, ap, ◌∙◌, arith, is_some, string_bytes, distinct_names, place-along, within_part}
use Rattle.ta_meaning.proofs.Common.{subst, List, ℕ, Distinct}
use Rattle.ta_meaning.proofs.ListedNames.{outside_part, has_name-at, has_key, has_name-along}
use Rattle.ta_meaning.proofs.UsedNames.{unknown, wrong_kind, rightly_used}
use Rattle.ta_base.proofs.ByteLists.{key_at}
use Rattle.ta_meaning.proofs.names.NameList.number_in.Goals.{then-number-from-via-then-number-from, then-number-from-via-else-number-from+then-to-number}
use Rattle.ta_meaning.proofs.names.NameList.number_in.Goals as goal

pub returns-in_default : goal.returns-in_default
returns-in_default c =
    let keys = c.self.inside.names.keys in
    let allowed = take (c.args.to - c.args.from) (drop c.args.from c.args.self.now) in
    let none = sym (has_key c.as_str.result.now keys) ∙ sym c.get_index_of.ensures.found ∙ ap is_some c.in_default.is in
    unknown c.args.self.now allowed c.args.name.now
    (has_name-along (map string_bytes keys) c.args.self.now c.as_str.result.now c.args.name.now.name false c.self.view_is c.as_str.ensures none)

pub returns-then-number-from : goal.returns-then-number-from
returns-then-number-from c =
    let keys = c.self.inside.names.keys in
    let names = c.args.self.now in
    let allowed = take (c.args.to - c.args.from) (drop c.args.from names) in
    let i = c.in-Some.number in
    let apart = subst (λ (names : List (List ℕ)). Distinct names) c.self.view_is (distinct_names keys c.len-count.ensures.unique) in
    let here = place-along (map string_bytes keys) names c.as_str.result.now c.args.name.now.name i c.self.view_is c.as_str.ensures
    (key_at c.as_str.result.now keys i (sym c.get_index_of.ensures.index ∙ c.in-Some.is)) in
    let out : c.args.from ≤ i → c.args.to ≤ i =
    elim c.then-number-from.branch [
      | then-number-from-via-then-number-from w ↦ (λ h. omega (arith, h, w.if-number-from.true))
      | then-number-from-via-else-number-from+then-to-number w ↦ (λ h. w.if-to-number.true)
    ]
    in
    wrong_kind names allowed c.args.name.now (has_name-at names c.args.name.now.name i here)
    (outside_part names c.args.name.now.name c.args.from c.args.to i apart here out)

pub returns : goal.returns
returns c =
    let keys = c.self.inside.names.keys in
    let names = c.args.self.now in
    let allowed = take (c.args.to - c.args.from) (drop c.args.from names) in
    let i = c.in-Some.number in
    let here = place-along (map string_bytes keys) names c.as_str.result.now c.args.name.now.name i c.self.view_is c.as_str.ensures
    (key_at c.as_str.result.now keys i (sym c.get_index_of.ensures.index ∙ c.in-Some.is)) in
    let there = within_part names c.args.name.now.name c.args.from c.args.to i here c.if-number-from.false c.if-to-number.false in (
      rightly_used names allowed c.args.name.now (has_name-at names c.args.name.now.name i here)
          (has_name-at allowed c.args.name.now.name (i - c.args.from) there),
      there,
    )
