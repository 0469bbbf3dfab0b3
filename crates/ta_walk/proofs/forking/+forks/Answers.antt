use Rattle.ta_walk.proofs.Common.{ℕ, ◌-◌, ◌+◌, ◌<◌, ◌≡◌, ◌∙◌, IsCounted, List, IfOk, ap, arith, left_at, length, map, subst, sym, Pending, rules}
use Rattle.ta_walk.proofs.Common.{AllByRecursion, TreeEnd, ComesTo, HasFewLeft, PartVisited, beginning, root_node, search_of_claim, Element}
use Rattle.ta_walk.proofs.NodesCounted.{counted_after, counted_more, ok_both}
use Rattle.ta_walk.proofs.PartsMerged.{decided_part}
use Rattle.ta_walk.proofs.RootsListed.{halves_listed, last_alone, root_left, root_stands}
use Rattle.ta_walk.proofs.forking.+forks.Goals as goal

pub visit_beside-returns-clause-visited : goal.visit_beside-returns-clause-visited
visit_beside-returns-clause-visited g t c =
    c.merge_both.ensures.visited (search_of_claim c.args.setting.tree.now) (map root_node c.args.starts.items) (map root_node c.args.others.items)
    c.args.keeper c.args.late c.join-first.ensures.first.0 c.join-first.ensures.second.0 c.requires.fresh

pub visit_beside-returns-clause-patient : goal.visit_beside-returns-clause-patient
visit_beside-returns-clause-patient g t c = λ patient.
    c.merge_both.ensures.whole (c.join-first.ensures.first.1.1.0 (c.first_half-low.ensures.patient ∙ patient))
    (c.join-first.ensures.second.1.1.0 (c.half_beside-high.ensures.patient ∙ patient))

pub visit_list-visit_on-requires-clause-stands : goal.visit_list-visit_on-requires-clause-stands
visit_list-visit_on-requires-clause-stands g t c κs within =
    let s = search_of_claim c.args.setting.tree.now in
    let n = c.args.nodes in
    let few : length c.args.starts.items < 2 = search rules in
    let one = last_alone c.args.starts.items c.pop.new.self.items c.in-Some.start c.in-Some.ensures.items few in
    let comes = (subst (AllByRecursion (ComesTo s)) one c.requires.come).0 in
    subst (HasFewLeft s n) (sym c.frontier_at-at.ensures.cursor)
    (root_stands s c.in-Some.start c.new-cursor.result n comes c.new-cursor.ensures c.requires.limit)

pub visit_list-returns-then-len-lt2-clause-visited : goal.visit_list-returns-then-len-lt2-clause-visited
visit_list-returns-then-len-lt2-clause-visited g t c =
    let s = search_of_claim c.args.setting.tree.now in
    let start = c.in-Some.start in
    let few : length c.args.starts.items < 2 = search rules in
    let one = last_alone c.args.starts.items c.pop.new.self.items start c.in-Some.ensures.items few in
    let comes = (subst (AllByRecursion (ComesTo s)) one c.requires.come).0 in
    let left = ap (left_at s) c.frontier_at-at.ensures.cursor ∙ root_left s start c.new-cursor.result comes c.new-cursor.ensures
    ∙ ap (map root_node) (sym one) in
    subst (λ (us : List (Pending Element)). IfOk c.visit_on.result
    (λ part. PartVisited g.K.Keeper.keeps (beginning s us) c.args.nodes c.args.keeper part.keeper part.end)) left c.visit_on.ensures.visited

pub visit_list-returns-clause-visited : goal.visit_list-returns-clause-visited
visit_list-returns-clause-visited g t c =
    let all = halves_listed {E = Element} _ c.args.starts.items c.split_off.new.self.items c.in_ok-others.others.items c.in_ok-others.ensures.items
    c.in_ok-others.ensures.tail in
    subst (λ (us : List (Pending Element)). IfOk c.visit_halves.result
    (λ part. PartVisited g.K.Keeper.keeps (beginning (search_of_claim c.args.setting.tree.now) us) c.args.nodes c.args.keeper part.keeper part.end)) all
    c.visit_halves.ensures.visited

pub visit_in_turn-returns-in_default-clause-visited : goal.visit_in_turn-returns-in_default-clause-visited
visit_in_turn-returns-in_default-clause-visited g t c =
    let part = c.in_ok-first.first in
    decided_part g.K.Keeper.keeps (search_of_claim c.args.setting.tree.now) (map root_node c.args.starts.items) (map root_node c.args.others.items) c.args.nodes
    c.args.keeper part.keeper part.end c.in_default.ensures.none c.in_ok-first.ensures.visited

pub visit_in_turn-returns-clause-visited : goal.visit_in_turn-returns-clause-visited
visit_in_turn-returns-clause-visited g t c =
    let s = search_of_claim c.args.setting.tree.now in
    let keeps = g.K.Keeper.keeps in
    let ws = map root_node c.args.starts.items in
    let vs = map root_node c.args.others.items in
    let n = c.args.nodes in
    let first = c.in_ok-first.first in
    let one = subst (λ (e : TreeEnd Element). PartVisited keeps (beginning s ws) n c.args.keeper first.keeper e) c.in-Some.ensures.some
    c.in_ok-first.ensures.visited in
    c.add.ensures.visited s ws vs (n - c.in-Some.count) c.args.keeper c.args.late one c.in_ok-second.ensures.visited
    c.requires.fresh

pub visit_in_turn-returns-clause-patient : goal.visit_in_turn-returns-clause-patient
visit_in_turn-returns-clause-patient g t c = λ patient. c.add.ensures.whole (c.args.nodes - c.in-Some.count) (omega arith)
    (c.in_ok-second.ensures.patient (c.second_half-high.ensures.patient ∙ patient))

pub visit_in_turn-returns-in_default-clause-counted : goal.visit_in_turn-returns-in_default-clause-counted
visit_in_turn-returns-in_default-clause-counted g t c =
    let part = c.in_ok-first.first in
    let forks = c.first_half-low.ensures.forks in
    counted_more c.args.nodes c.first_half-low.result.forks c.args.watch.forks part.end part.begun (omega arith) c.in_ok-first.ensures.counted

pub visit_in_turn-returns-clause-counted : goal.visit_in_turn-returns-clause-counted
visit_in_turn-returns-clause-counted g t c =
    let n = c.args.nodes in
    let low = c.first_half-low.result.forks in
    let high = c.second_half-high.result.forks in
    let few = c.first_half-low.ensures.forks in
    let more = c.second_half-high.ensures.forks in
    let first = c.in_ok-first.first in
    let second = c.in_ok-second.second in
    let one = subst (λ (e : TreeEnd Element). IsCounted n low e first.begun) c.in-Some.ensures.some c.in_ok-first.ensures.counted in
    ok_both c.add.result _ _ (λ part. IsCounted n c.args.watch.forks part.end part.begun)
    (λ part is rose. subst (λ (e : TreeEnd Element). IsCounted n c.args.watch.forks e part.begun) (sym is)
    (counted_after n low high c.args.watch.forks c.in-Some.count c.in-Some.leaves second.end first.begun second.begun part.begun c.requires.limit (omega arith)
    one c.in_ok-second.ensures.counted rose))
    c.add.ensures.end c.add.ensures.begun

pub visit_beside-returns-clause-counted : goal.visit_beside-returns-clause-counted
visit_beside-returns-clause-counted g t c =
    let low = c.first_half-low.result.forks in
    let high = c.half_beside-high.result.forks in
    let few = c.first_half-low.ensures.forks in
    let more = c.half_beside-high.ensures.forks in
    let some = c.requires.forks in
    let all : low + high + 1 ≡ c.args.watch.forks = omega arith in
    subst (λ (k : ℕ). IfOk c.merge_both.result (λ part. IsCounted c.args.nodes k part.end part.begun)) all
    (c.merge_both.ensures.counted low high c.join-first.ensures.first.1.1.1
    c.join-first.ensures.second.1.1.1)
