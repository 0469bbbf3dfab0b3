use Rattle.ta_search.proofs.Common.{◌≡◌, ◌∙◌, ◌<◌, ◌++◌, [], ◌∷◌, ap, arith, subst, sym, vector_count}
use Rattle.ta_search.proofs.FoundLast.{found_is_last}
use Rattle.ta_search.proofs.Trying.{Searched, found_end, none_tried, other_end, other_tried}
use Rattle.ta_search.proofs.searching.search.Goals as goal

pub vectors-init : goal.vectors-init
vectors-init g c = (none_tried c.args.template.now c.args.terms c.new-tried.result.items c.new-tried.ensures.items, c.in_ok-at_hand.ensures)

pub vectors-preserved : goal.vectors-preserved
vectors-preserved g c =
    let count : c.vector_count-count.result ≡ vector_count c.args.template.now.holes = c.vector_count-count.ensures ∙ ap vector_count c.as_slice.ensures in
    let within = c.vectors-test.true in
    let below : c.vectors.place < vector_count c.args.template.now.holes = omega arith in
    let others =
    other_tried c.args.template.now c.args.terms c.vectors.place c.vectors.tried.items c.push.new.self.items c.in_ok-next.next
    (record { below = below; searched = c.vectors.invariant.0; is = c.in_ok-next.ensures.tried; pushed = c.in_ok-push.ensures.items })
    (sym c.is_found-found.ensures ∙ c.if-found.false) in
    (others, c.in_ok-next.ensures.at_hand)

pub returns-then-found-clause-end : goal.returns-then-found-clause-end
returns-then-found-clause-end g c =
    let count : c.vector_count-count.result ≡ vector_count c.args.template.now.holes = c.vector_count-count.ensures ∙ ap vector_count c.as_slice.ensures in
    let within = c.vectors-test.true in
    let below : c.vectors.place < vector_count c.args.template.now.holes = omega arith in
    let pushed : c.from_vec.result ≡ c.vectors.tried.items ++ c.in_ok-next.next ∷ [] = rw c.from_vec.ensures c.in_ok-push.ensures.items in
    found_end c.args.template.now c.args.terms c.vectors.place c.vectors.tried.items c.from_vec.result c.in_ok-next.next c.is_found-found.result
    (record { below = below; searched = c.vectors.invariant.0; is = c.in_ok-next.ensures.tried; pushed = pushed })
    (sym c.is_found-found.ensures ∙ c.if-found.true) c.if-found.true

pub returns-then-found-clause-found : goal.returns-then-found-clause-found
returns-then-found-clause-found g c =
    let count : c.vector_count-count.result ≡ vector_count c.args.template.now.holes = c.vector_count-count.ensures ∙ ap vector_count c.as_slice.ensures in
    let within = c.vectors-test.true in
    let below : c.vectors.place < vector_count c.args.template.now.holes = omega arith in
    let pushed : c.from_vec.result ≡ c.vectors.tried.items ++ c.in_ok-next.next ∷ [] = rw c.from_vec.ensures c.in_ok-push.ensures.items in
    let end = found_end c.args.template.now c.args.terms c.vectors.place c.vectors.tried.items c.from_vec.result c.in_ok-next.next c.is_found-found.result
    (record { below = below; searched = c.vectors.invariant.0; is = c.in_ok-next.ensures.tried; pushed = pushed })
    (sym c.is_found-found.ensures ∙ c.if-found.true) c.if-found.true in
    λ found. found_is_last c.args.template.now c.args.terms (record { tried = c.from_vec.result; found = c.is_found-found.result }) end found

pub returns-clause-end : goal.returns-clause-end
returns-clause-end g c =
    let count : c.vector_count-count.result ≡ vector_count c.args.template.now.holes = c.vector_count-count.ensures ∙ ap vector_count c.as_slice.ensures in
    let past = c.vectors-test.false in
    let within = c.vectors.auto.place-end in
    let all : c.vectors.place ≡ vector_count c.args.template.now.holes = omega arith in
    other_end c.args.template.now c.args.terms c.vectors.place c.from_vec-2.result all
    (subst (Searched c.args.template.now c.args.terms c.vectors.place) (sym c.from_vec-2.ensures) c.vectors.invariant.0)
