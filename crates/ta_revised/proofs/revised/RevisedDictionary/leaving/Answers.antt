use Rattle.ta_revised.proofs.Common.{◌≡◌, ◌∙◌, List, length, rules, subst, sym, vec_len, TableauRow, AreValues, IsScale}
use Rattle.ta_revised.proofs.RevisedFacts.{least_is, rows_are}
use Rattle.ta_revised.proofs.revised.RevisedDictionary.leaving.Goals as goal

pub values_of-requires-clause-scale : goal.values_of-requires-clause-scale
values_of-requires-clause-scale c =
    let len : vec_len c.self.inside.non_basic ≡ length c.self.inside.non_basic.items = search rules in
    let rows = rows_are c.self.inside c.args.self.now _ _ c.self.view_is (c.len.ensures ∙ len) c.deref.ensures.value in
    subst (IsScale c.args.scale) (sym rows) c.requires.scale

pub least_negative-requires-clause-from : goal.least_negative-requires-clause-from
least_negative-requires-clause-from c =
    let len : vec_len c.self.inside.non_basic ≡ length c.self.inside.non_basic.items = search rules in
    let rows = rows_are c.self.inside c.args.self.now _ _ c.self.view_is (c.len.ensures ∙ len) c.deref.ensures.value in
    c.requires.hold c.args.scale c.deref-3.result.now c.requires.scale
    (rw c.deref-3.ensures.value (subst (λ (rs : List TableauRow). AreValues c.args.scale rs c.in_ok-values.values.items) rows c.in_ok-values.ensures))

pub returns : goal.returns
returns c =
    let len : vec_len c.self.inside.non_basic ≡ length c.self.inside.non_basic.items = search rules in
    let rows = rows_are c.self.inside c.args.self.now _ _ c.self.view_is (c.len.ensures ∙ len) c.deref.ensures.value in
    let least = c.least_negative.ensures in
    record {
      values = c.deref-3.result.now;
      are = rw c.deref-3.ensures.value (subst (λ (rs : List TableauRow). AreValues c.args.scale rs c.in_ok-values.values.items) rows c.in_ok-values.ensures);
      least = least_is c.args.scale c.args.system.now c.deref-3.result.now c.least_negative.result least.found least.none;
    }
