use Rattle.ta_walk.proofs.Common.{ℕ, ◌∙◌, ap, map, subst, sym, Rose, IsVisitEnd, TreeEnd, most_begun, node_count, root_node, search_of_claim, visit_count}
use Rattle.ta_walk.proofs.Passes.{counted_pass, few_facts, few_passes, pass_ended, passed_over, same_count, visit_ended}
use Rattle.ta_walk.proofs.forked.visit.Goals as goal

pub visit_end-requires : goal.visit_end-requires
visit_end-requires g c =
    let t = c.args.tree.now in
    let keeps = g.K.Keeper.keeps in
    let part = c.in_ok-part.part in
    let whole = c.in-Some.ensures.some in
    few_facts t c.args.nodes (keeps c.args.keeper.now c.append.new.self) c.in-Some.end
    (pass_ended keeps g.K.PartKeeper.begins (search_of_claim t) (map root_node c.in_ok-starts.starts.items) c.args.nodes c.args.keeper.now c.passes.keeper
    c.in_ok-late.late part.keeper c.append.new.self part.end c.in-Some.end c.passes.invariant.same c.in_ok-starts.ensures.nodes c.requires.keeps
    (c.in_ok-late.ensures.begins, c.in_ok-late.ensures.keeps) c.in_ok-append.ensures whole.0 whole.1 c.in_ok-part.ensures.visited)

pub returns-in-Some-clause-ends : goal.returns-in-Some-clause-ends
returns-in-Some-clause-ends g c =
    let t = c.args.tree.now in
    let keeps = g.K.Keeper.keeps in
    let part = c.in_ok-part.part in
    let whole = c.in-Some.ensures.some in
    subst (IsVisitEnd (search_of_claim t) t.number c.args.nodes (keeps c.args.keeper.now c.append.new.self)) (sym c.visit_end.ensures)
    (visit_ended (search_of_claim t) t.number c.args.nodes (keeps c.args.keeper.now c.append.new.self) c.in-Some.end
    (pass_ended keeps g.K.PartKeeper.begins (search_of_claim t) (map root_node c.in_ok-starts.starts.items) c.args.nodes c.args.keeper.now c.passes.keeper
    c.in_ok-late.late part.keeper c.append.new.self part.end c.in-Some.end c.passes.invariant.same c.in_ok-starts.ensures.nodes c.requires.keeps
    (c.in_ok-late.ensures.begins, c.in_ok-late.ensures.keeps) c.in_ok-append.ensures whole.0 whole.1 c.in_ok-part.ensures.visited))

pub returns-in-Some-clause-counted : goal.returns-in-Some-clause-counted
returns-in-Some-clause-counted g c =
    let n = c.args.nodes in
    let part = c.in_ok-part.part in
    let old = c.args.work.now.begun in
    let new = c.add.new.self.begun in
    let end = c.in-Some.end in
    let count = ap (λ (e : TreeEnd _). node_count e) (sym c.in-Some.ensures.some.0) ∙ same_count c.args.tree.now.number end
    ∙ ap visit_count (sym c.visit_end.ensures) in
    subst (λ (k : ℕ). Rose old new k (most_begun n)) count
    (counted_pass c.passes.patient n c.new-watch.result.forks part.end old c.passes.work.begun part.begun new c.passes.invariant.counted
    c.new-watch.ensures.forks c.new-watch.ensures.alone c.in_ok-part.ensures.counted c.add.ensures)

pub passes-preserved : goal.passes-preserved
passes-preserved g c =
    let part = c.in_ok-part.part in
    record {
      same = c.passes.invariant.same;
      counted = passed_over c.passes.patient c.args.nodes c.new-watch.result.forks part.end c.args.work.now.begun c.passes.work.begun part.begun
          c.add.new.self.begun c.passes.invariant.counted c.new-watch.ensures.forks
          (λ patient. c.in_ok-part.ensures.patient (c.new-watch.ensures.patient ∙ patient)) c.in_default.ensures.none c.in_ok-part.ensures.counted
          c.add.ensures;
    }

pub passes-smaller : goal.passes-smaller
passes-smaller g c =
    few_passes c.passes.patient c.args.nodes c.in_ok-part.part.end (λ patient. c.in_ok-part.ensures.patient (c.new-watch.ensures.patient ∙ patient))
    c.in_default.ensures.none
