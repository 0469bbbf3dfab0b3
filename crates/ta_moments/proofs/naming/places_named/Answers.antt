use Rattle.ta_moments.proofs.Common.{◌≡◌, ◌∙◌, ap, sym, arith, None, Some, YieldsList-from_str_split, place_named, places_named}
use Rattle.std.specs.Str.Iter.{split_has_more, split_pattern, split_text}
use Rattle.std.proofs.lemmas.Iterator.Consumers.{YieldsList-end}
use Rattle.ta_moments.proofs.Places.{places_next, places_skip}
use Rattle.ta_moments.proofs.naming.places_named.Goals as goal

pub returns : goal.returns
returns c =
    let l = c.loop-name in
    let same : c.into_iter-name-iterator.result ≡ c.split-name-items.result = c.into_iter-name-iterator.ensures.into_iter_gives in
    let cut =
    YieldsList-from_str_split {s = c.into_iter-name-iterator.result} 44 c.args.text.now (omega arith) (ap split_text same ∙ c.split-name-items.ensures.text)
    (ap split_has_more same ∙ c.split-name-items.ensures.has_more) (ap split_pattern same ∙ c.split-name-items.ensures.pattern) in
    let end = YieldsList-end cut l.yielded _ l.yielded_by _ _ c.in-None.is c.next.ensures.steps in
    l.invariant ∙ ap (places_named c.args.automaton.now) end.0

pub loop-name-preserved-in-Continue-1 : goal.loop-name-preserved-in-Continue-1
loop-name-preserved-in-Continue-1 c =
    let l = c.loop-name in
    let is : place_named c.args.automaton.now c.in-Some.name.now ≡ Some c.in-Some-place_named.place = sym c.place_named.ensures ∙ c.in-Some-place_named.is in
    c.in_ok-push.ensures.items ∙ places_next c.args.automaton.now l.yielded c.in-Some.name l.places.items (Some c.in-Some-place_named.place) l.invariant is

pub loop-name-preserved : goal.loop-name-preserved
loop-name-preserved c =
    let l = c.loop-name in
    let is : place_named c.args.automaton.now c.in-Some.name.now ≡ None = sym c.place_named.ensures ∙ c.in_default.is in
    places_skip c.args.automaton.now l.yielded c.in-Some.name l.places.items l.invariant is
