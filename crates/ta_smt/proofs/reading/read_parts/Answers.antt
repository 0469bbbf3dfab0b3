use Rattle.ta_smt.proofs.Common.{◌≡◌, ◌∙◌, ap, sym, arith, None, Some, YieldsList-from_str_split, those_elements, element_of}
use Rattle.std.specs.Str.Iter.{split_has_more, split_pattern, split_text}
use Rattle.std.proofs.lemmas.Iterator.Consumers.{YieldsList-end}
use Rattle.ta_smt.proofs.ElementTexts.{those_next, those_skip}
use Rattle.ta_smt.proofs.reading.read_parts.Goals as goal

pub returns : goal.returns
returns c =
    let l = c.loop-part in
    let same : c.into_iter-part-iterator.result ≡ c.split-part-items.result = c.into_iter-part-iterator.ensures.into_iter_gives in
    let cut =
    YieldsList-from_str_split {s = c.into_iter-part-iterator.result} 44 c.args.text.now (omega arith) (ap split_text same ∙ c.split-part-items.ensures.text)
    (ap split_has_more same ∙ c.split-part-items.ensures.has_more) (ap split_pattern same ∙ c.split-part-items.ensures.pattern) in
    let end = YieldsList-end cut l.yielded _ l.yielded_by _ _ c.in-None.is c.next.ensures.steps in
    l.invariant ∙ ap those_elements end.0

pub loop-part-preserved-in-Continue-1 : goal.loop-part-preserved-in-Continue-1
loop-part-preserved-in-Continue-1 c =
    let l = c.loop-part in
    let is : element_of c.in-Some.part.now ≡ Some c.in-Some-element_of.element = ap element_of (sym c.as_bytes.ensures.value) ∙ sym c.element_of.ensures
    ∙ c.in-Some-element_of.is in
    c.in_ok-push.ensures.items ∙ those_next l.yielded c.in-Some.part l.elements.items (Some c.in-Some-element_of.element) l.invariant is

pub loop-part-preserved : goal.loop-part-preserved
loop-part-preserved c =
    let l = c.loop-part in
    let is : element_of c.in-Some.part.now ≡ None = ap element_of (sym c.as_bytes.ensures.value) ∙ sym c.element_of.ensures ∙ c.in_default.is in
    those_skip l.yielded c.in-Some.part l.elements.items l.invariant is
