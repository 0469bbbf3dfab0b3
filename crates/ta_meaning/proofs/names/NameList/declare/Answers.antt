use Rattle.ta_meaning.proofs.Common.{List, true, false, map, sym, ap, ◌∙◌, String, Global, string_bytes, err_is}
use Rattle.ta_meaning.proofs.ListedNames.{has_key, has_name-along, inserted}
use Rattle.ta_meaning.proofs.UsedNames.{declared_twice, declared_too_long, declared_rightly}
use Rattle.ta_meaning.proofs.names.NameList.declare.Goals as goal

pub returns-then-contains : goal.returns-then-contains
returns-then-contains c =
    let keys = c.self.inside.names.keys in
    let there = sym (has_key c.as_str.result.now keys) ∙ sym c.contains.ensures ∙ c.if-contains.true in
    record {
      faults = declared_twice c.args.self.now c.args.name.now
          (has_name-along (map string_bytes keys) c.args.self.now c.as_str.result.now c.args.name.now.name true c.self.view_is c.as_str.ensures there);
    }

pub returns-in_err-check_length : goal.returns-in_err-check_length
returns-in_err-check_length c =
    let keys = c.self.inside.names.keys in
    let e = c.in_err-check_length.field-0.0 in
    let new = has_name-along (map string_bytes keys) c.args.self.now c.as_str.result.now c.args.name.now.name false c.self.view_is c.as_str.ensures
    (sym (has_key c.as_str.result.now keys) ∙ sym c.contains.ensures ∙ c.if-contains.false) in
    record {
      faults = rw (err_is c.from_residual.result _ c.from_residual.ensures.1)
          (declared_too_long c.args.self.now c.args.name.now e new c.in_err-check_length.ensures);
    }

pub returns : goal.returns
returns c =
    let keys = c.self.inside.names.keys in
    let names = c.args.self.now in
    let n = c.args.name.now.name in
    let new = has_name-along (map string_bytes keys) names c.as_str.result.now n false c.self.view_is c.as_str.ensures
    (sym (has_key c.as_str.result.now keys) ∙ sym c.contains.ensures ∙ c.if-contains.false) in
    let is = c.into_string-key.ensures ∙ c.in_ok-copy.ensures in
    record {
      faults = (
        declared_rightly names c.args.name.now new c.in_ok-check_length.ensures.0,
        ap (λ (ks : List (String Global)). map string_bytes ks)
            c.in_ok-insert.ensures.keys ∙ inserted names n keys c.into_string-key.result c.self.view_is is new,
      );
    }
