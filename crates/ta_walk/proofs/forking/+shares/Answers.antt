use Rattle.ta_walk.proofs.Common.{◌∙◌, ◌-◌, ◌+◌, ◌≡◌, ℕ, IfOk, arith, sym, subst, left_at, TreeEnd, IsCounted, PartVisited, SharesBudget, beginning}
use Rattle.ta_walk.proofs.Common.{search_of_claim, Element}
use Rattle.ta_walk.proofs.NodesCounted.{counted_alone, counted_shared}
use Rattle.ta_walk.proofs.PartsMerged.{shared_part}
use Rattle.ta_walk.proofs.forking.+shares.Goals as goal

pub visit_shared-returns-clause-visited : goal.visit_shared-returns-clause-visited
visit_shared-returns-clause-visited g t c =
    let s = search_of_claim c.args.setting.tree.now in
    c.merge_both.ensures.visited s (left_at s c.args.at.cursor) (left_at s c.args.later) c.args.keeper c.in_ok-late.late c.join-second.ensures.second.0
    c.join-second.ensures.first.0 (c.in_ok-late.ensures.begins, c.in_ok-late.ensures.keeps)

pub visit_shared-returns-clause-patient : goal.visit_shared-returns-clause-patient
visit_shared-returns-clause-patient g t c = λ patient.
    c.merge_both.ensures.whole (c.join-second.ensures.second.1.1.0 (c.first_half-low.ensures.patient ∙ patient))
    (c.join-second.ensures.first.1.1.0 (c.half_beside-high.ensures.patient ∙ patient))

pub visit_on-returns-in-Ended-clause-visited : goal.visit_on-returns-in-Ended-clause-visited
visit_on-returns-in-Ended-clause-visited g t c = λ first before has. rw c.in-Ended.is at (c.in_ok-end.ensures.ends first before has)

pub visit_on-returns-in_ok-part-in-Shared-clause-visited : goal.visit_on-returns-in_ok-part-in-Shared-clause-visited
visit_on-returns-in_ok-part-in-Shared-clause-visited g t c =
    let s = search_of_claim c.args.setting.tree.now in
    let keeps = g.K.Keeper.keeps in
    let n = c.args.nodes in
    let count = c.in-Shared.count in
    let words = left_at s c.args.at.cursor in
    let part = c.in_ok-part-in-Shared.part in
    let small : SharesBudget s n count c.in-Shared.leaves c.visit_stretch.new.at.cursor c.in-Shared.later = rw c.in-Shared.is at c.in_ok-end.ensures.small
    in
    subst (λ (e : TreeEnd Element). PartVisited keeps (beginning s words) n c.args.keeper part.keeper e) (sym c.end_behind.ensures.is)
    (shared_part keeps s words c.visit_stretch.new.at.cursor c.in-Shared.later n (n - count) count c.in-Shared.leaves c.args.keeper
    c.visit_stretch.new.keeper
    part.keeper part.end small.within
    (λ first before has. rw c.in-Shared.is at (c.in_ok-end.ensures.ends first before has)) c.in_ok-part-in-Shared.ensures.visited)

pub visit_shared-returns-clause-counted : goal.visit_shared-returns-clause-counted
visit_shared-returns-clause-counted g t c =
    let low = c.first_half-low.result.forks in
    let high = c.half_beside-high.result.forks in
    let few = c.first_half-low.ensures.forks in
    let more = c.half_beside-high.ensures.forks in
    let some = c.requires.forks in
    let all : low + high + 1 ≡ c.args.watch.forks = omega arith in
    subst (λ (k : ℕ). IfOk c.merge_both.result (λ part. IsCounted c.args.nodes k part.end part.begun)) all
    (c.merge_both.ensures.counted low high c.join-second.ensures.second.1.1.1
    c.join-second.ensures.first.1.1.1)

pub visit_on-returns-in-Ended-clause-counted : goal.visit_on-returns-in-Ended-clause-counted
visit_on-returns-in-Ended-clause-counted g t c =
    let counted = rw c.in-Ended.is at c.in_ok-end.ensures.counted in
    counted_alone c.args.nodes c.args.watch.forks c.in-Ended.end c.new-work.result.begun c.visit_stretch.new.work.begun c.requires.limit c.new-work.ensures
    counted.0 counted.1

pub visit_on-returns-in_ok-part-in-Shared-clause-counted : goal.visit_on-returns-in_ok-part-in-Shared-clause-counted
visit_on-returns-in_ok-part-in-Shared-clause-counted g t c =
    let s = search_of_claim c.args.setting.tree.now in
    let n = c.args.nodes in
    let count = c.in-Shared.count in
    let part = c.in_ok-part-in-Shared.part in
    let small : SharesBudget s n count c.in-Shared.leaves c.visit_stretch.new.at.cursor c.in-Shared.later = rw c.in-Shared.is at c.in_ok-end.ensures.small
    in
    let counted = rw c.in-Shared.is at c.in_ok-end.ensures.counted in
    subst (λ (e : TreeEnd Element). IsCounted n c.args.watch.forks e c.add.new.self.begun) (sym c.end_behind.ensures.is)
    (counted_shared n c.args.watch.forks count c.in-Shared.leaves part.end c.new-work.result.begun c.visit_stretch.new.work.begun part.begun
    c.add.new.self.begun c.requires.limit c.new-work.ensures
    small.within counted c.in_ok-part-in-Shared.ensures.counted c.add.ensures)
