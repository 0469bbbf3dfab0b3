use Rattle.ta_walk.proofs.Common.{◌≡◌, ◌∙◌, ℕ, ◌≤◌, ◌^◌, reverse, ap, sym, subst, option_copied, node_at, candidate_of, MomentEncoding, NodeIs, moment_maker}
use Rattle.ta_walk.proofs.Common.{asking_of}
use Rattle.std.proofs.lemmas.Option.{same_Some}
use Rattle.ta_walk.proofs.FewMoments.{few_moments, few_values}
use Rattle.ta_walk.proofs.NodesKnown.{moments_count}
use Rattle.ta_walk.proofs.moment_maker.MomentMakerMaker.scaled.Goals as goal

pub scaled_at-requires-clause-few : goal.scaled_at-requires-clause-few
scaled_at-requires-clause-few c =
    let t = c.args.self.now.tree in
    let a = t.task.automaton.now in
    let p = t.task.pattern.now in
    let o = candidate_of c.args.start in
    let past = reverse c.args.facts.now in
    let same : c.requires.at.node ≡ c.in-Some.node.now =
    same_Some c.requires.at.node c.in-Some.node.now (sym c.requires.at.is ∙ sym c.node.ensures ∙ ap option_copied c.in-Some.is) in
    let is = subst (λ (n : MomentEncoding). NodeIs a p t.silent.now o past n) same c.requires.at.of in
    subst (λ (n : ℕ). n ≤ 2 ^ 32) (sym (moments_count a p t.silent.now o past c.in-Some.node.now is))
    (few_moments a p t.task.over (asking_of t) (moment_maker a p (asking_of t)) c.args.start past c.requires.comes)

pub scaled_at-requires-clause-values : goal.scaled_at-requires-clause-values
scaled_at-requires-clause-values c =
    let t = c.args.self.now.tree in
    let a = t.task.automaton.now in
    let p = t.task.pattern.now in
    let w = node_at c.args.start c.args.facts.now c.args.bounds.now in
    few_values a p t.task.over (asking_of t) (moment_maker a p (asking_of t)) w c.args.values.now c.requires.comes c.requires.vertex
