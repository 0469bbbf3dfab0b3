use Rattle.ta_report.proofs.Common.{◌≡◌, ◌∙◌, ap, arith, rules, map, take, ◌-◌, length, view, view-Array, text_lines, slice_split, ◌==◌}
use Rattle.std.specs.Str.Iter.{split_has_more, split_pattern, split_text}
use Rattle.std.proofs.lemmas.Iterator.Splits.{YieldsList-from_str_split}
use Rattle.std.proofs.lemmas.Iterator.Consumers.{YieldsList-end}
use Rattle.ta_report.proofs.JsonItems.{texts_listed, last_off, items_of_views}
use Rattle.ta_base.proofs.Lists.{map-map}
use Rattle.serde_json.specs.Data as json
use Rattle.ta_report.proofs.object.lines_value.Goals as goal

pub returns : goal.returns
returns c =
    let l = c.loop-line in
    let text = c.args.text.now in
    let parts = slice_split (λ b. b == 10) text in
    let same : c.into_iter-line-iterator.result ≡ c.split-line-items.result = c.into_iter-line-iterator.ensures.into_iter_gives in
    let cut =
    YieldsList-from_str_split {s = c.into_iter-line-iterator.result} 10 text (omega arith) (ap split_text same ∙ c.split-line-items.ensures.text)
    (ap split_has_more same ∙ c.split-line-items.ensures.has_more) (ap split_pattern same ∙ c.split-line-items.ensures.pattern) in
    let end = YieldsList-end cut l.yielded _ l.yielded_by _ _ c.in-None.is c.next.ensures.steps in
    let read : map (λ y. y.now) l.yielded ≡ parts = end.0 in
    let so_far : map view l.items.items ≡ map json.string parts = l.invariant ∙ map-map json.string (λ y. y.now) l.yielded ∙ ap (map json.string) read in
    let count : l.items.len ≡ length l.items.items = search rules in
    view-Array c.pop.new.self ∙ ap json.array
    (items_of_views _ _ (last_off parts l.items.items c.pop.new.self.items so_far (c.pop.ensures.rest ∙ ap (λ n. take (n - 1) l.items.items) count))
    ∙ texts_listed (text_lines text))
